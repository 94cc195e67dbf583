-- Places of keys, where an object comes or goes.
use Rattle.symres_table.proofs.Common.{All, All-append, All-cons, All-drop, All-take, AreMoved, AreSorted, Bool}
use Rattle.symres_table.proofs.Common.{Declared, Entered, HasKey, HasRow, HasSymbols, IsBelow, IsNumbered}
use Rattle.symres_table.proofs.Common.{IsObjectTable, IsSome, IsSplit, IsTable, List, None, Option, PlacedKey, Some}
use Rattle.symres_table.proofs.Common.{Vec, [], ap, append-nil, arith, cases_eq, cases_lt, cond, down, drop, eq-eqb}
use Rattle.symres_table.proofs.Common.{eqb, eqb-false, eqb-true, false, filter, get_or, get_or-drop, get_or-take}
use Rattle.symres_table.proofs.Common.{get_or_default, insert, is_below, le-ltb, length, length-drop, length-insert}
use Rattle.symres_table.proofs.Common.{length-remove, length-take-le, lt-ltb, map, ne_eqb, not, option_map, place_of}
use Rattle.symres_table.proofs.Common.{refl, remove, subst, suc, sym, take, take-append-drop, take_all, true, up}
use Rattle.symres_table.proofs.Common.{vec_capacity, zero, ℕ, ⊎_elim, ◌++◌, ◌+◌, ◌-◌, ◌<◌, ◌∙◌, ◌∷◌, ◌≡◌, ◌≢◌, ◌≤◌}
use Rattle.std.proofs.Common.{Global}
use Rattle.std.proofs.lemmas.List.Edits.{get_or-remove_below, get_or-remove_above, get_or-insert_below}
use Rattle.std.proofs.lemmas.List.Edits.{get_or-insert_at, get_or-insert_above}
use Rattle.symres_table.specs.Numbers.{without}
use Rattle.symres_table.proofs.Finding.{place_none, place_at, found_here, found_other, found_past}

-- a place found in the first part, or else in the second
abbrev or : Option ℕ → Option ℕ → Option ℕ
or (Some n) m = Some n
or None m = m

place_append : (xs ys : List PlacedKey) (key : ℕ) → place_of (xs ++ ys) key ≡ or (place_of xs key) (place_of ys key)
place_append [] ys key = refl
place_append (x ∷ xs) ys key = go (eqb x.key.0 key) (place_append xs ys key)
  where
    go : (b : Bool) → place_of (xs ++ ys) key ≡ or (place_of xs key) (place_of ys key)
        → cond b (Some x.at) (place_of (xs ++ ys) key) ≡ or (cond b (Some x.at) (place_of xs key)) (place_of ys key)
    go true e = refl
    go false e = e

-- another key that is put in
insert_other : (ps : List PlacedKey) (n : ℕ) (p : PlacedKey) (key : ℕ) → p.key.0 ≢ key → place_of (insert ps n p) key
    ≡ place_of ps key
insert_other ps n p key h =
    place_append (take n ps) (p ∷ drop n ps) key
    ∙ ap (λ b. or (place_of (take n ps) key) (cond b (Some p.at) (place_of (drop n ps) key))) (ne_eqb p.key.0 key h)
    ∙ sym (place_append (take n ps) (drop n ps) key)
    ∙ ap (λ l. place_of l key) (take-append-drop n ps)

or_none : (a b : Option ℕ) → or a b ≡ None → a ≡ None
or_none None b h = refl
or_none (Some n) b h = absurd (cc)

insert_same : (ps : List PlacedKey) (n : ℕ) (p : PlacedKey) → place_of ps p.key.0 ≡ None
    → place_of (insert ps n p) p.key.0
    ≡ Some p.at
insert_same ps n p h =
    let parts : or (place_of (take n ps) p.key.0) (place_of (drop n ps) p.key.0) ≡ None =
    sym (place_append (take n ps) (drop n ps) p.key.0) ∙ ap (λ l. place_of l p.key.0) (take-append-drop n ps) ∙ h in
    place_append (take n ps) (p ∷ drop n ps) p.key.0
    ∙ ap (λ o. or o (place_of (p ∷ drop n ps) p.key.0)) (or_none _ _ parts)
    ∙ ap (λ b. cond b (Some p.at) (place_of (drop n ps) p.key.0)) (eq-eqb p.key.0 p.key.0 refl)

-- a moved place is found where it moved
pub place_moved : (move : ℕ → ℕ) (old new : List PlacedKey) (key : ℕ) → AreMoved move old new → place_of new key
    ≡ option_map move (place_of old key)
place_moved move [] [] key m = refl
place_moved move [] (y ∷ new) key m = absurd (omega (arith, m.long))
place_moved move (x ∷ old) [] key m = absurd (omega (arith, m.long))
place_moved move (x ∷ old) (y ∷ new) key m =
    let k : y.key.0 ≡ x.key.0 = m.key 0 x (omega arith) in
    let a : y.at ≡ move x.at = m.at 0 x (omega arith) in
    let rest : place_of new key ≡ option_map move (place_of old key) =
    place_moved move old new key
    (record {
      long = omega (arith, m.long);
      key = λ j d l. m.key (suc j) d (omega (arith, l));
      at = λ j d l.
          m.at (suc j) d (omega (arith, l));
    }) in
    ap (λ j. cond (eqb j key) (Some y.at) (place_of new key)) k
    ∙ ap (λ j. cond (eqb x.key.0 key) (Some j) (place_of new key)) a
    ∙ ap (λ o. cond (eqb x.key.0 key) (Some (move x.at)) o) rest ∙ go (eqb x.key.0 key)
  where
    go : (b : Bool) → cond b (Some (move x.at)) (option_map move (place_of old key))
        ≡ option_map move (cond b (Some x.at) (place_of old key))
    go true = refl
    go false = refl

pub sorted_moved : (move : ℕ → ℕ) (old new : List PlacedKey) → AreMoved move old new → AreSorted old → AreSorted new
sorted_moved move old new m s = λ i j d h l.
    let lt = s i j d h (omega (arith, m.long)) in
    omega (arith, lt, m.key i d (omega (arith, m.long)), m.key j d (omega (arith, m.long)))

pub below_moved : (move : ℕ → ℕ) (old new : List PlacedKey) (key n : ℕ) → AreMoved move old new → IsBelow old key n
    → IsBelow new key n
below_moved move old new key n m b = record {
  within = omega (arith, b.within, m.long);
  below = λ k d h. let lt = b.below k d h in omega (arith, lt, m.key k d (omega (arith, b.within)));
  rest = λ k d h l. let le = b.rest k d h (omega (arith, m.long)) in
      omega (arith, le, m.key k d (omega (arith, m.long)));
}

-- each place in a sorted list is the one found
pub found_at : (ps : List PlacedKey) (k : ℕ) (d : PlacedKey) → AreSorted ps → k < length ps
    → place_of ps (get_or ps k d).key.0
    ≡ Some (get_or ps k d).at
found_at ps k d s h = place_at ps (get_or ps k d).key.0 k (get_or ps k d)
    (λ j e l same. let lt = s j k e l h in let is = get_or_default ps k d e h in
    omega (arith, lt, same, ap (λ (p : PlacedKey). p.key.0) is))
    h (get_or_default ps k (get_or ps k d) d h) refl

-- no key stands in a list that is the one sought
apart : (ps : List PlacedKey) (key : ℕ) → place_of ps key ≡ None → AreSorted ps → (k : ℕ) (d : PlacedKey)
    → k < length ps
    → (get_or ps k d).key.0 ≢ key
apart ps key n s k d h same = let f = found_at ps k d s h in let g : place_of ps key ≡ Some (get_or ps k d).at =
    ap (place_of ps) (sym same) ∙ f in absurd (cc)

pub sorted_insert : (ps : List PlacedKey) (n : ℕ) (p : PlacedKey) → AreSorted ps → IsBelow ps p.key.0 n
    → place_of ps p.key.0
    ≡ None → AreSorted (insert ps n p)
sorted_insert ps n p s b none = λ i j d h l.
    let l' : j < length ps + 1 = omega (arith, l, length-insert ps n p b.within) in
    ⊎_elim
    (λ i_low. ⊎_elim
    (λ j_low. let lt = s i j d h (omega (arith, j_low, b.within)) in
    omega (arith, lt, at_low i d i_low, at_low j d j_low))
    (λ j_high. ⊎_elim
    (λ j_at. let lt = b.below i d i_low in omega (arith, lt, at_low i d i_low, at_same j d j_at))
    (λ j_ne. let lt = s i (j - 1) d (omega (arith, i_low, j_high, j_ne)) (omega (arith, l', j_high, j_ne)) in
    omega (arith, lt, at_low i d i_low, at_high j d j_high j_ne))
    (cases_eq j n))
    (cases_lt j n))
    (λ i_high. ⊎_elim
    (λ i_at.
    let le = b.rest (j - 1) d (omega (arith, h, i_at)) (omega (arith, l', h)) in
    let ne = apart ps p.key.0 none s (j - 1) d (omega (arith, l', h)) in
    omega (
      arith,
      le,
      ne,
      at_same i d i_at,
      at_high j d (omega (arith, h, i_at)) (λ e. absurd (omega (arith, h, i_at, e))),
    ))
    (λ i_ne. let lt = s (i - 1) (j - 1) d (omega (arith, h, i_high, i_ne)) (omega (arith, l', h)) in
    omega (
      arith,
      lt,
      at_high i d i_high i_ne,
      at_high j d (omega (arith, h, i_high)) (λ e. absurd (omega (arith, h, i_high, e))),
    ))
    (cases_eq i n))
    (cases_lt i n)
  where
    at_low : (k : ℕ) (d : PlacedKey) → k < n → (get_or (insert ps n p) k d).key.0 ≡ (get_or ps k d).key.0
    at_low k d h = ap (λ (q : PlacedKey). q.key.0) (get_or-insert_below ps n p d k h b.within)

    at_same : (k : ℕ) (d : PlacedKey) → k ≡ n → (get_or (insert ps n p) k d).key.0 ≡ p.key.0
    at_same k d e = ap (λ (q : PlacedKey). q.key.0) (ap (λ q. get_or (insert ps n p) q d) e
        ∙ get_or-insert_at ps n p d b.within)

    at_high : (k : ℕ) (d : PlacedKey) → n ≤ k → k ≢ n → (get_or (insert ps n p) k d).key.0 ≡ (get_or ps (k - 1) d).key.0
    at_high k d h ne = let e : k ≡ (k - 1) + 1 = omega (arith, h, ne) in
        ap (λ (q : PlacedKey). q.key.0) (ap (λ q. get_or (insert ps n p) q d) e
        ∙ get_or-insert_above ps n p d (k - 1) (omega (arith, h, ne)) b.within)

pub sorted_remove : (ps : List PlacedKey) (n : ℕ) → AreSorted ps → n < length ps → AreSorted (remove ps n)
sorted_remove ps n s w = λ i j d h l.
    let l' : j + 1 < length ps = omega (arith, l, length-remove ps n w) in
    ⊎_elim
    (λ i_low. ⊎_elim
    (λ j_low. let lt = s i j d h (omega (arith, l')) in omega (arith, lt, low i d i_low, low j d j_low))
    (λ j_high. let lt = s i (j + 1) d (omega (arith, h)) l' in omega (arith, lt, low i d i_low, high j d j_high))
    (cases_lt j n))
    (λ i_high. let lt = s (i + 1) (j + 1) d (omega (arith, h)) l' in
    omega (arith, lt, high i d i_high, high j d (omega (arith, h, i_high))))
    (cases_lt i n)
  where
    low : (k : ℕ) (d : PlacedKey) → k < n → (get_or (remove ps n) k d).key.0 ≡ (get_or ps k d).key.0
    low k d h = ap (λ (q : PlacedKey). q.key.0) (get_or-remove_below ps n d k h w)

    high : (k : ℕ) (d : PlacedKey) → n ≤ k → (get_or (remove ps n) k d).key.0 ≡ (get_or ps (k + 1) d).key.0
    high k d h = ap (λ (q : PlacedKey). q.key.0) (get_or-remove_above ps n d k h w)

-- what is found once the place of a key was taken out
pub remove_other : (ps : List PlacedKey) (n key : ℕ) (p : PlacedKey) → n < length ps → p ≡ get_or ps n p → p.key.0 ≢ key
    → place_of (remove ps n) key ≡ place_of ps key
remove_other [] n key p h e ne = absurd (omega (arith, h))
remove_other (x ∷ ps) zero key p h e ne =
    sym (ap (λ b. cond b (Some x.at) (place_of ps key))
    (ne_eqb x.key.0 key (λ same. ne (ap (λ (q : PlacedKey). q.key.0) e ∙ same))))
remove_other (x ∷ ps) (suc n) key p h e ne =
    ap (λ o. cond (eqb x.key.0 key) (Some x.at) o) (remove_other ps n key p (omega (arith, h)) e ne)

pub remove_same : (ps : List PlacedKey) (n : ℕ) (p : PlacedKey) → AreSorted ps → n < length ps → p ≡ get_or ps n p
    → place_of (remove ps n) p.key.0 ≡ None
remove_same ps n p s w e = place_none (remove ps n) p.key.0 (λ k d l same. ⊎_elim
    (λ low. let lt = s k n d low w in
    absurd (omega (
      arith,
      lt,
      same,
      ap (λ (q : PlacedKey). q.key.0) (get_or-remove_below ps n d k low w),
      ap (λ (q : PlacedKey). q.key.0) (e ∙ get_or_default ps n p d w),
    )))
    (λ high. let lt = s n (k + 1) d (omega (arith, high)) (omega (arith, l, length-remove ps n w)) in
    absurd (omega (
      arith,
      lt,
      same,
      ap (λ (q : PlacedKey). q.key.0) (get_or-remove_above ps n d k high w),
      ap (λ (q : PlacedKey). q.key.0) (e ∙ get_or_default ps n p d w),
    )))
    (cases_lt k n))

-- a key that no object has isn't found
pub fresh_place : (ps : List PlacedKey) (os : List Entered) (key : ℕ) → IsNumbered ps os
    → All (λ (o : Entered). eqb o.key key ≡ false) os → place_of ps key ≡ None
fresh_place ps os key n f = go (place_of ps key) refl
  where
    nobody : Entered
    nobody = record { key = 0; symbols = []; room = 0 }

    go : (r : Option ℕ) → place_of ps key ≡ r → place_of ps key ≡ None
    go None e = e
    go (Some j) e = let o = n.only key j e in absurd (eqb-false _ _ (f j nobody o.0) (o.1 nobody))

pub split_at : (ps : List PlacedKey) (at key : ℕ) (os : List Entered) → IsNumbered ps os → at ≤ length os
    → All (λ (o : Entered). eqb o.key key ≡ false) os → IsSplit ps at key (take at os) (drop at os)
split_at ps at key os n h f = record {
  front = λ j o l.
      let l' : j < at = omega (arith, length-take-le at os h) in
      let l'' : j < length os = omega arith in
      ap (λ (x : Entered). is_below at (place_of ps x.key)) (get_or-take at os j o l')
      ∙ ap (is_below at) (n.at j o l'') ∙ lt-ltb _ _ l';
  behind = λ j o l.
      let l' : at + j < length os = omega (arith, length-drop at os) in
      ap (λ (x : Entered). is_below at (place_of ps x.key)) (get_or-drop at os j o)
      ∙ ap (is_below at) (n.at (at + j) o l') ∙ le-ltb _ _ (omega arith);
  other = All-drop (λ (o : Entered). eqb o.key key ≡ false) at os f;
}

up_low : (at j : ℕ) → j < at → up at j ≡ j
up_low at j h = ap (λ b. cond b j (j + 1)) (lt-ltb j at h)

-- where all places are in front none moves
pub none_moved : (at : ℕ) (places : List PlacedKey) → ((k : ℕ) (d : PlacedKey) → k < length places
    → (get_or places k d).at < at) → AreMoved (up at) places places
none_moved at places low = record {
  long = refl;
  key = λ k d h. refl;
  at = λ k d h. sym (up_low at (get_or places k d).at (low k d h));
}

up_high : (at j : ℕ) → at ≤ j → up at j ≡ j + 1
up_high at j h = ap (λ b. cond b j (j + 1)) (le-ltb j at h)

down_low : (at j : ℕ) → j ≤ at → down at j ≡ j
down_low at j h = ap (λ b. cond b (j - 1) j) (le-ltb at j h)

down_high : (at j : ℕ) → at < j → down at j ≡ j - 1
down_high at j h = ap (λ b. cond b (j - 1) j) (lt-ltb at j h)

-- what a moved place was
was : (move : ℕ → ℕ) (r : Option ℕ) (j : ℕ) → option_map move r ≡ Some j → (m : ℕ) × (r ≡ Some m) × (move m ≡ j)
was move None j h = absurd (cc)
was move (Some m) j h = (m, refl, cc)

-- the new object stands in the gap
pub numbered_after : (old mid : List PlacedKey) (number at : ℕ) (new : Entered) (os : List Entered) → IsNumbered old os
    → AreMoved (up at) old mid → IsBelow old new.key number → at ≤ length os
    → All (λ (o : Entered). eqb o.key new.key ≡ false) os
    → IsNumbered (insert mid number (record { key = record { 0 = new.key }; at = at })) (insert os at new)
numbered_after old mid number at new os n m b h f =
    let none : place_of old new.key ≡ None = fresh_place old os new.key n f in
    let none' : place_of mid new.key ≡ None = place_moved (up at) old mid new.key m ∙ ap (option_map (up at)) none in
    record {
      sorted = sorted_insert mid number here (sorted_moved (up at) old mid m n.sorted)
          (below_moved (up at) old mid new.key number m b) none';
      at = λ j o l.
          let l' : j < length os + 1 = omega (arith, l, length-insert os at new h) in
          ⊎_elim
          (λ low. let in_os : j < length os = omega (arith, low, h) in
          ap (λ (x : Entered). place_of new_places x.key) (get_or-insert_below os at new o j low h)
          ∙ found (get_or os j o).key j (λ e. eqb-false _ _ (f j o in_os) (sym e)) (n.at j o in_os)
          ∙ ap Some (up_low at j low))
          (λ high. ⊎_elim
          (λ same. ap (λ (x : Entered). place_of new_places x.key) (object_at j o same)
          ∙ insert_same mid number here none' ∙ ap Some (sym same))
          (λ ne. let in_os : j - 1 < length os = omega (arith, l', high, ne) in
          ap (λ (x : Entered). place_of new_places x.key) (object_above j o high ne)
          ∙ found (get_or os (j - 1) o).key (j - 1) (λ e. eqb-false _ _ (f (j - 1) o in_os) (sym e))
          (n.at (j - 1) o in_os) ∙ ap Some (up_high at (j - 1) (omega (arith, high, ne)) ∙ omega (arith, high, ne)))
          (cases_eq j at))
          (cases_lt j at);
      only = λ key j e. ⊎_elim
          (λ mine.
          let is : Some at ≡ Some j = sym (insert_same mid number here none') ∙ ap (place_of new_places) (sym mine)
          ∙ e in
          let same : j ≡ at = cc in (
            omega (arith, same, h, length-insert os at new h),
            λ o. ap (λ (x : Entered). x.key) (object_at j o same)
                ∙ sym mine,
          ))
          (λ ne.
          let w = was (up at) (place_of old key) j (sym (place_moved (up at) old mid key m)
          ∙ sym (insert_other mid number here key (λ q. ne (sym q))) ∙ e) in
          let o = n.only key w.0 w.1 in
          ⊎_elim
          (λ low.
          let same : j ≡ w.0 = sym w.2 ∙ up_low at w.0 low in (
            omega (arith, same, o.0, length-insert os at new h),
            λ d. ap (λ q. (get_or (insert os at new) q d).key) same
                ∙ ap (λ (x : Entered). x.key) (get_or-insert_below os at new d w.0 low h) ∙ o.1 d,
          ))
          (λ high.
          let same : j ≡ w.0 + 1 = sym w.2 ∙ up_high at w.0 high in (
            omega (arith, same, o.0, length-insert os at new h),
            λ d. ap (λ q. (get_or (insert os at new) q d).key) same
                ∙ ap (λ (x : Entered). x.key) (get_or-insert_above os at new d w.0 high h) ∙ o.1 d,
          ))
          (cases_lt w.0 at))
          (cases_eq key new.key);
    }
  where
    here : PlacedKey
    here = record { key = record { 0 = new.key }; at = at }

    new_places : List PlacedKey
    new_places = insert mid number here

    found : (key j : ℕ) → (new.key ≡ key → ⊥) → place_of old key ≡ Some j → place_of new_places key ≡ Some (up at j)
    found key j ne e = insert_other mid number here key ne ∙ place_moved (up at) old mid key m
        ∙ ap (option_map (up at)) e

    object_at : (j : ℕ) (o : Entered) → j ≡ at → get_or (insert os at new) j o ≡ new
    object_at j o same = ap (λ q. get_or (insert os at new) q o) same ∙ get_or-insert_at os at new o h

    object_above : (j : ℕ) (o : Entered) → at ≤ j → j ≢ at → get_or (insert os at new) j o ≡ get_or os (j - 1) o
    object_above j o high ne = let e : j ≡ (j - 1) + 1 = omega (arith, high, ne) in
        ap (λ q. get_or (insert os at new) q o) e ∙ get_or-insert_above os at new o (j - 1) (omega (arith, high, ne)) h

-- where a sorted list has the place of a key
pub record At (ps : List PlacedKey) (key n j : ℕ) : Type 0 where
  pub within : n < length ps
  pub key_is : (d : PlacedKey) → (get_or ps n d).key.0 ≡ key
  pub at_is : (d : PlacedKey) → (get_or ps n d).at ≡ j

pub at_number : (ps : List PlacedKey) (key n j : ℕ) → AreSorted ps → IsBelow ps key n → place_of ps key ≡ Some j
    → At ps key n j
at_number ps key n j s b e = ⊎_elim
    (λ w. ⊎_elim
    (λ same. record {
      within = w;
      key_is = λ d. ap (λ (p : PlacedKey). p.key.0) (get_or_default ps n d nowhere w) ∙ same;
      at_is = λ d. ap (λ (p : PlacedKey). p.at) (get_or_default ps n d nowhere w)
          ∙ some (get_or ps n nowhere).at
          (found_here ps key n (get_or ps n nowhere) b w (get_or_default ps n nowhere (get_or ps n nowhere) w) same
          ∙ e);
    })
    (λ ne. let none = found_other ps key n (get_or ps n nowhere) s b w
    (get_or_default ps n nowhere (get_or ps n nowhere) w) ne ∙ e in absurd (cc))
    (cases_eq (get_or ps n nowhere).key.0 key))
    (λ past. let none = found_past ps key n b past ∙ e in absurd (cc))
    (cases_lt n (length ps))
  where
    nowhere : PlacedKey
    nowhere = record { key = record { 0 = 0 }; at = 0 }

    some : (a : ℕ) → Some a ≡ Some j → a ≡ j
    some a h = cc

-- the object of a key
pub record Here (places : List PlacedKey) (os : List Entered) (key at : ℕ) : Type 0 where
  pub place_is : place_of places key ≡ Some at
  pub within : at < length os
  pub key_is : (o : Entered) → (get_or os at o).key ≡ key

pub here_at : (places : List PlacedKey) (os : List Entered) (key : ℕ) → IsNumbered places os → (h : HasKey key os)
    → Here places os key h.0
here_at places os key n h = record {
  place_is = ap (place_of places) (sym (h.2 nobody)) ∙ n.at h.0 nobody h.1;
  within = h.1;
  key_is = h.2;
}
  where
    nobody : Entered
    nobody = record { key = 0; symbols = []; room = 0 }

pub is_found : (r : Option ℕ) (j : ℕ) → r ≡ Some j → IsSome r
is_found None j h = absurd (cc)
is_found (Some n) j h = refl

-- each other object has another key
other_key : (places : List PlacedKey) (os : List Entered) (key at j : ℕ) (o : Entered) → IsNumbered places os
    → place_of places key ≡ Some at → j < length os → j ≢ at → (get_or os j o).key ≢ key
other_key places os key at j o n p h ne e = let is : Some j ≡ Some at = sym (n.at j o h) ∙ ap (place_of places) e
    ∙ p in let same : j ≡ at = cc in ne same

-- the object of a key has left
pub numbered_without : (places mid new : List PlacedKey) (number key at : ℕ) (p : PlacedKey) (os : List Entered)
    → IsNumbered places os → Here places os key at → number < length places → p ≡ get_or places number p → p.key.0 ≡ key
    → mid ≡ remove places number → AreMoved (down at) mid new → IsNumbered new (remove os at)
numbered_without places mid new number key at p os n h w is k e m = record {
  sorted = sorted_moved (down at) mid new m (subst AreSorted (sym e) (sorted_remove places number n.sorted w));
  at = λ j o l. ⊎_elim
      (λ low. let in_os : j < length os = omega (arith, low, h.within) in
      ap (λ (x : Entered). place_of new x.key) (get_or-remove_below os at o j low h.within)
      ∙ found (get_or os j o).key j (λ q.
      other_key places os key at j o n h.place_is in_os (λ same. absurd (omega (arith, low, same))) (sym q))
      (n.at j o in_os) ∙ ap Some (down_low at j (omega (arith, low))))
      (λ high. let in_os : j + 1 < length os = omega (arith, l, length-remove os at h.within) in
      ap (λ (x : Entered). place_of new x.key) (get_or-remove_above os at o j high h.within)
      ∙ found (get_or os (j + 1) o).key (j + 1) (λ q.
      other_key places os key at (j + 1) o n h.place_is in_os (λ same. absurd (omega (arith, high, same))) (sym q))
      (n.at (j + 1) o in_os) ∙ ap Some (down_high at (j + 1) (omega (arith, high)) ∙ omega arith))
      (cases_lt j at);
  only = λ key' i q.
      let v = was (down at) (place_of mid key') i (sym (place_moved (down at) mid new key' m) ∙ q) in
      ⊎_elim
      (λ mine. let none : Some v.0 ≡ None = sym v.1 ∙ ap (λ l. place_of l key') e
      ∙ ap (place_of (remove places number)) (mine ∙ sym k) ∙ remove_same places number p n.sorted w is in
      absurd (cc))
      (λ ne.
      let there : place_of places key' ≡ Some v.0 =
      sym (remove_other places number key' p w is (λ same. ne (sym same ∙ k))) ∙ ap (λ l. place_of l key') (sym e)
      ∙ v.1 in
      let o = n.only key' v.0 there in
      ⊎_elim
      (λ low.
      let same : i ≡ v.0 = sym v.2 ∙ down_low at v.0 (omega (arith, low)) in (
        omega (arith, same, low, length-remove os at h.within, h.within),
        λ d.
            ap (λ j. (get_or (remove os at) j d).key) same
            ∙ ap (λ (x : Entered). x.key) (get_or-remove_below os at d v.0 low h.within) ∙ o.1 d,
      ))
      (λ high.
      let apart : v.0 ≢ at = λ same.
      ne (sym (o.1 nobody) ∙ ap (λ j. (get_or os j nobody).key) same ∙ h.key_is nobody) in
      let more : at < v.0 = omega (arith, high, apart) in
      let same : i ≡ v.0 - 1 = sym v.2 ∙ down_high at v.0 more in
      let back : v.0 - 1 + 1 ≡ v.0 = omega (arith, more) in (
        omega (arith, same, more, o.0, length-remove os at h.within),
        λ d.
            ap (λ j. (get_or (remove os at) j d).key) same
            ∙ ap (λ (x : Entered). x.key) (get_or-remove_above os at d (v.0 - 1) (omega (arith, more)) h.within)
            ∙ ap (λ j. (get_or os j d).key) back ∙ o.1 d,
      ))
      (cases_lt v.0 at))
      (cases_eq key' key);
}
  where
    nobody : Entered
    nobody = record { key = 0; symbols = []; room = 0 }

    found : (key' j : ℕ) → (key ≡ key' → ⊥) → place_of places key' ≡ Some j → place_of new key' ≡ Some (down at j)
    found key' j ne q =
        place_moved (down at) mid new key' m
        ∙ ap (option_map (down at)) (ap (λ l. place_of l key') e
        ∙ remove_other places number key' p w is (λ same. ne (sym k ∙ same)) ∙ q)

-- of a filter that fails at one place alone
all_kept : {X : Type 0} (p : X → Bool) (xs : List X) → ((j : ℕ) (d : X) → j < length xs → p (get_or xs j d) ≡ true)
    → filter p xs ≡ xs
all_kept p [] h = refl
all_kept p (x ∷ xs) h = ap (λ b. cond b (x ∷ filter p xs) (filter p xs)) (h 0 x (omega arith))
    ∙ ap (λ l. x ∷ l) (all_kept p xs (λ j d l. h (suc j) d (omega (arith, l))))

one_out : {X : Type 0} (p : X → Bool) (xs : List X) (at : ℕ) → at < length xs → ((d : X) → p (get_or xs at d) ≡ false)
    → ((j : ℕ) (d : X) → j < length xs → j ≢ at → p (get_or xs j d) ≡ true) → filter p xs ≡ remove xs at
one_out p [] at h f t = absurd (omega (arith, h))
one_out p (x ∷ xs) zero h f t = ap (λ b. cond b (x ∷ filter p xs) (filter p xs)) (f x)
    ∙ all_kept p xs (λ j d l. t (suc j) d (omega (arith, l)) (omega arith))
one_out p (x ∷ xs) (suc n) h f t = ap (λ b. cond b (x ∷ filter p xs) (filter p xs)) (t 0 x (omega arith) (omega arith))
    ∙ ap (λ l. x ∷ l) (one_out p xs n (omega (arith, h)) f (λ j d l ne.
    t (suc j) d (omega (arith, l)) (omega (arith, ne))))

pub without_is : (places : List PlacedKey) (os : List Entered) (key at : ℕ) → IsNumbered places os
    → Here places os key at
    → without key os ≡ remove os at
without_is places os key at n h = one_out (λ (o : Entered). not (eqb o.key key)) os at h.within
    (λ d. ap not (eq-eqb _ _ (h.key_is d)))
    (λ j d l ne. ap not (ne_eqb _ _ (other_key places os key at j d n h.place_is l ne)))

pub has_symbols : (places : List PlacedKey) (os : List Entered) (key at : ℕ) (o : Entered) → IsNumbered places os
    → Here places os key at → o ≡ get_or os at o → HasSymbols key o.symbols os
has_symbols places os key at o n h e = λ j d l q. ⊎_elim
    (λ same. ap (λ (x : Entered). x.symbols) (ap (λ i. get_or os i d) same ∙ get_or_default os at d o h.within ∙ sym e))
    (λ ne. absurd (other_key places os key at j d n h.place_is l ne (eqb-true _ _ q)))
    (cases_eq j at)

pub rooms : (old new : List (Vec Declared Global)) → length new ≡ length old
    → ((k : ℕ) (d : Vec Declared Global) → k < length old → vec_capacity (get_or new k d)
    ≡ vec_capacity (get_or old k d))
    → map (λ (row : Vec Declared Global). vec_capacity row) new
    ≡ map (λ (row : Vec Declared Global). vec_capacity row) old
rooms [] [] e h = refl
rooms [] (y ∷ new) e h = absurd (omega (arith, e))
rooms (x ∷ old) [] e h = absurd (omega (arith, e))
rooms (x ∷ old) (y ∷ new) e h =
    let here : vec_capacity y ≡ vec_capacity x = h 0 x (omega arith) in
    let rest = rooms old new (omega (arith, e)) (λ k d l. h (suc k) d (omega (arith, l))) in
    ap (λ c. c ∷ map (λ (row : Vec Declared Global). vec_capacity row) new) here ∙ ap (λ l. vec_capacity x ∷ l) rest

pub kept_after : (old mid : List PlacedKey) (number at : ℕ) (new : Entered) (os : List Entered)
    (table rows : List (Vec Declared Global)) → IsObjectTable os table old → AreMoved (up at) old mid
    → IsBelow old new.key number → at ≤ length os
    → All (λ (o : Entered). eqb o.key new.key ≡ false) os → All (HasRow (length table)) new.symbols → length rows
    ≡ length table
    → IsTable rows (insert os at new)
    → IsObjectTable (insert os at new) rows (insert mid number (record { key = record { 0 = new.key }; at = at }))
kept_after old mid number at new os table rows k m b h f n r t = record {
  table = t;
  known = subst (λ c. All (λ (o : Entered). All (HasRow c) o.symbols) (insert os at new)) (sym r)
      (All-append (λ (o : Entered). All (HasRow (length table)) o.symbols) _ _
      (All-take (λ (o : Entered). All (HasRow (length table)) o.symbols) at os k.known)
      (All-cons (λ (o : Entered). All (HasRow (length table)) o.symbols) new (drop at os) n
      (All-drop (λ (o : Entered). All (HasRow (length table)) o.symbols) at os k.known)));
  numbered = numbered_after old mid number at new os k.numbered m b h f;
}

pub all_removed : (P : Entered → Type 0) (os : List Entered) (at : ℕ) → All P os → All P (remove os at)
all_removed P os at h = All-append P _ _ (All-take P at os h) (All-drop P (suc at) os h)

pub kept_without : (places new : List PlacedKey) (os : List Entered) (key at : ℕ)
    (table rows : List (Vec Declared Global))
    → IsObjectTable os table places → Here places os key at
    → length rows ≡ length table → IsTable rows (without key os) → IsNumbered new (remove os at)
    → IsObjectTable (remove os at) rows new
kept_without places new os key at table rows k h r t n = record {
  table = subst (IsTable rows) (without_is places os key at k.numbered h) t;
  known = subst (λ c. All (λ (o : Entered). All (HasRow c) o.symbols) (remove os at)) (sym r)
      (all_removed (λ (o : Entered). All (HasRow (length table)) o.symbols) os at k.known);
  numbered = n;
}

drop_all : (n : ℕ) (xs : List PlacedKey) → length xs ≡ n → drop n xs ≡ []
drop_all zero [] h = refl
drop_all (suc n) [] h = refl
drop_all zero (x ∷ xs) h = absurd (omega (arith, h))
drop_all (suc n) (x ∷ xs) h = drop_all n xs (omega (arith, h))

-- a list whose whole was written over
pub written : (n : ℕ) (xs items : List PlacedKey) → length xs ≡ n → length items ≡ n
    → take n (xs ++ drop (length xs) items) ≡ xs
written n xs items h k =
    ap (λ m. take n (xs ++ drop m items)) h ∙ ap (λ l. take n (xs ++ l)) (drop_all n items k)
    ∙ ap (take n) (append-nil xs) ∙ take_all n xs (omega (arith, h))

-- no place is too great to grow
pub places_fit : (places : List PlacedKey) (os : List Entered) (bound : ℕ) → IsNumbered places os → length os ≤ bound
    → (k : ℕ) (d : PlacedKey) → k < length places → (get_or places k d).at < bound
places_fit places os bound n h k d l = let o = n.only _ _ (found_at places k d n.sorted l) in omega (arith, o.0, h)

pub is_fresh : (places : List PlacedKey) (os : List Entered) (key : ℕ) → IsNumbered places os
    → place_of places key ≡ None
    → All (λ (o : Entered). eqb o.key key ≡ false) os
is_fresh places os key n e j o l =
    ne_eqb _ _ (λ same. let there : Some j ≡ None = sym (n.at j o l) ∙ ap (place_of places) same ∙ e in absurd (cc))

pub is_entered : (places : List PlacedKey) (os : List Entered) (key j : ℕ) → IsNumbered places os → place_of places key
    ≡ Some j → HasKey key os
is_entered places os key j n e = let o = n.only key j e in (j, o.0, o.1)
