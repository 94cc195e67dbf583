-- The places of names under their numbers.
use Rattle.symres_table.proofs.Common.{Bool, Files, IsDistinct, IsPaired, IsSome, IsSpelled, List, None, Option, Some}
use Rattle.symres_table.proofs.Common.{Vec, [], ap, apart_from_distinct, arith, bytes_eq, bytes_eq-Decides, cases_eq}
use Rattle.symres_table.proofs.Common.{cases_lt, cond, drop, entry_spelled, ext_get_or, false, filter, get_or}
use Rattle.symres_table.proofs.Common.{get_or-append_right, get_or_append_left, inl, inr, is_some, kept_if, key_at}
use Rattle.symres_table.proofs.Common.{le-ltb, length, length-append, length-map, length-take, lt-ltb, map, nat_lt}
use Rattle.symres_table.proofs.Common.{number_in, option_map, refl, slice_get-get_or, slice_get_cases, slot, spelled}
use Rattle.symres_table.proofs.Common.{stored, subst, suc, sym, take, take-append-drop, true, true≢false, ℕ, ⊎_elim}
use Rattle.symres_table.proofs.Common.{◌++◌, ◌+◌, ◌-◌, ◌<◌, ◌∙◌, ◌∷◌, ◌≡◌, ◌≢◌, ◌≤◌, ◌⊎◌}
use Rattle.std.proofs.Common.{Global}
use Rattle.std.proofs.Math.ListN.{get_or-map}
use Rattle.std.proofs.lemmas.List.{get_or-map as get_or-map_within}
use Rattle.symres_table.specs.Known.{AreApart, HaveSlots, IsFiled}
use Rattle.symres_table.proofs.Cutting.{found_entry, in_whole}
use Rattle.symres_table.proofs.Forgetting.{Kept}
use Rattle.symres_table.proofs.Listing.{once_mapped}
use Rattle.symres_table.proofs.Pairs.{paired_more, slot_spelled, Takes}

abbrev Name : Type 0
Name = Vec ℕ Global

abbrev Entries : Type 0
Entries = List (Name × ℕ)

abbrev Places : Type 0
Places = List (Option ℕ)

pub stored_at : (es : Entries) (ps : Places) (n : ℕ) → get_or (stored es ps) n None ≡ key_at es (get_or ps n None)
stored_at es ps n = get_or-map (key_at es) ps n None

pub shown_at : (es : Entries) (ps : Places) (n : ℕ) → slot (map spelled (stored es ps)) n
    ≡ spelled (key_at es (get_or ps n None))
shown_at es ps n = slot_spelled (stored es ps) n ∙ ap spelled (stored_at es ps n)

key_here : (es : Entries) (j : ℕ) (d : Name × ℕ) → j < length es → key_at es (Some j) ≡ Some (get_or es j d).0
key_here es j d l = ap (option_map (λ (e : Name × ℕ). e.0)) (slice_get-get_or es j d l)

-- the places lie within the entries
abbrev pub AreWithin : Entries → Places → Type 0
AreWithin es ps = (n p : ℕ) → get_or ps n None ≡ Some p → p < length es

-- a number with a place has a name
pub has_key : (es : Entries) (ps : Places) → AreWithin es ps → (n : ℕ) → is_some (key_at es (get_or ps n None))
    ≡ is_some (get_or ps n None)
has_key es ps w n = go (get_or ps n None) refl
  where
    go : (o : Option ℕ) → get_or ps n None ≡ o → is_some (key_at es o) ≡ is_some o
    go None e = refl
    go (Some p) e = elim (slice_get_cases es p).1 [
      | inl h ↦ ap (λ o. is_some (option_map (λ (e : Name × ℕ). e.0) o)) h.2
      | inr h ↦ let l = w n p e in absurd (omega (arith, h.0, l))
    ]

has_spelled : (o : Option Name) → is_some (spelled o) ≡ is_some o
has_spelled None = refl
has_spelled (Some v) = refl

pub has_shown : (es : Entries) (ps : Places) → AreWithin es ps → (n : ℕ) → is_some (get_or ps n None)
    ≡ is_some (slot (map spelled (stored es ps)) n)
has_shown es ps w n =
    sym (ap is_some (shown_at es ps n) ∙ has_spelled (key_at es (get_or ps n None)) ∙ has_key es ps w n)

-- the entry that a look-up finds
entry_of : (name : List ℕ) (es : Entries) (n : ℕ) → number_in name es ≡ Some n → (j : ℕ) × (j < length es)
    × ((d : Name × ℕ) → ((get_or es j d).1 ≡ n) × (name ≡ (get_or es j d).0.items))
entry_of name [] n h = absurd (cc)
entry_of name (e ∷ es) n h = go (bytes_eq name e.0.items) refl h (entry_of name es n)
  where
    go : (b : Bool) → bytes_eq name e.0.items ≡ b → cond b (Some e.1) (number_in name es) ≡ Some n
        → (number_in name es ≡ Some n → (j : ℕ) × (j < length es)
        × ((d : Name × ℕ) → ((get_or es j d).1 ≡ n) × (name ≡ (get_or es j d).0.items)))
        → (j : ℕ) × (j < length (e ∷ es))
        × ((d : Name × ℕ) → ((get_or (e ∷ es) j d).1 ≡ n) × (name ≡ (get_or (e ∷ es) j d).0.items))
    go true q k f =
        let at : e.1 ≡ n = cc in
        (0, omega arith, λ d. (at, (bytes_eq-Decides name e.0.items).0 q))
    go false q k f = let r = f k in (suc r.0, omega (arith, r.1), λ d. r.2 d)

-- what a number has after all places were written anew: none as before, or the place of its entry
abbrev Refiled : Entries → Entries → Places → Places → ℕ → Type 0
Refiled es0 es ps ps' n =
    ((get_or ps' n None ≡ None) × (key_at es0 (get_or ps n None) ≡ None))
    ⊎ ((j : ℕ) × (j < length es) × (get_or ps' n None ≡ Some j)
    × (spelled (key_at es (Some j)) ≡ spelled (key_at es0 (get_or ps n None))))

refiled_at : (es0 es : Entries) (ps ps' : Places) → IsPaired es (stored es0 ps) → AreWithin es0 ps
    → Files es (length es) ps ps' → (n : ℕ) → Refiled es0 es ps ps' n
refiled_at es0 es ps ps' p w f n = go (key_at es0 (get_or ps n None)) refl (get_or ps n None) refl
  where
    shown : spelled (get_or (stored es0 ps) n None) ≡ spelled (key_at es0 (get_or ps n None))
    shown = ap spelled (stored_at es0 ps n)

    go : (o : Option Name) → key_at es0 (get_or ps n None) ≡ o → (q : Option ℕ) → get_or ps n None ≡ q
        → Refiled es0 es ps ps' n
    go (Some v) e q h =
        let found = entry_of v.items es n (p.complete n v.items (shown ∙ ap spelled e)) in
        elim (slice_get_cases es found.0).1 [
          | inl x ↦
              let is = found.2 x.0 in
              let now : get_or ps' n None ≡ Some found.0 =
              ap (λ m. get_or ps' m None) (sym is.0) ∙ f.done found.0 x.0 found.1 in
              inr (
                found.0,
                found.1,
                now,
                ap spelled (key_here es found.0 x.0 found.1) ∙ ap Some (sym is.1) ∙ sym (ap spelled e),
              )
          | inr x ↦ absurd (omega (arith, x.0, found.1))
        ]
    go None e (Some m) h =
        let some : is_some (key_at es0 (get_or ps n None)) ≡ true = has_key es0 ps w n ∙ ap is_some h in
        absurd (true≢false (sym some ∙ ap is_some e))
    go None e None h = inl (
      f.rest n (λ j d l same.
          let was = p.sound j d l in
          let none : spelled (get_or (stored es0 ps) (get_or es j d).1 None) ≡ None =
          ap (λ m. spelled (get_or (stored es0 ps) m None)) same ∙ shown ∙ ap spelled e in
          absurd (cc)) ∙ h,
      e,
    )

refiled_same : (es0 es : Entries) (ps ps' : Places) (n : ℕ) → Refiled es0 es ps ps' n
    → spelled (key_at es (get_or ps' n None)) ≡ spelled (key_at es0 (get_or ps n None))
refiled_same es0 es ps ps' n r = elim r [
  | inl h ↦ ap (λ o. spelled (key_at es o)) h.0 ∙ sym (ap spelled h.1)
  | inr h ↦ ap (λ o. spelled (key_at es o)) h.2 ∙ h.3
]

-- the names under their numbers are as before
pub refiled_names : (es0 es : Entries) (ps ps' : Places) → IsPaired es (stored es0 ps) → AreWithin es0 ps
    → Files es (length es) ps ps' → map spelled (stored es ps') ≡ map spelled (stored es0 ps)
refiled_names es0 es ps ps' p w f =
    ext_get_or None (map spelled (stored es ps')) (map spelled (stored es0 ps))
    (length-map (stored es ps') spelled ∙ length-map ps' (key_at es) ∙ f.long
    ∙ sym (length-map (stored es0 ps) spelled ∙ length-map ps (key_at es0)))
    (λ i l. shown_at es ps' i ∙ refiled_same es0 es ps ps' i (refiled_at es0 es ps ps' p w f i)
    ∙ sym (shown_at es0 ps i))

pub refiled : (es0 es : Entries) (ps ps' : Places) → IsPaired es (stored es0 ps) → AreWithin es0 ps
    → Files es (length es) ps ps' → IsFiled es ps'
refiled es0 es ps ps' p w f =
    let same : (n : ℕ) → spelled (get_or (stored es ps') n None) ≡ spelled (get_or (stored es0 ps) n None) =
    λ n. ap spelled (stored_at es ps' n)
    ∙ refiled_same es0 es ps ps' n (refiled_at es0 es ps ps' p w f n)
    ∙ sym (ap spelled (stored_at es0 ps n)) in
    record {
      paired = record {
        sound = λ j d l. same (get_or es j d).1 ∙ p.sound j d l;
        complete = λ n name h. p.complete n name (sym (same n) ∙ h);
      };
      within = λ n q h. elim (refiled_at es0 es ps ps' p w f n) [
        | inl r ↦ absurd (cc)
        | inr r ↦ let at : r.0 ≡ q = some_same r.0 q (sym r.2 ∙ h) in subst (λ m. m < length es) at r.1
      ];
      back = f.done;
    }
  where
    some_same : (a b : ℕ) → Some a ≡ Some b → a ≡ b
    some_same a b h = cc

-- numbers that spell different names differ
pub apart : (es : Entries) (slots : List (Option Name)) → IsPaired es slots
    → IsDistinct (λ (x y : Name). bytes_eq x.items y.items) (map (λ (e : Name × ℕ). e.0) es) → AreApart es
apart es slots p d = λ i j e l h same.
    let n = (get_or es i e).1 in
    let a : spelled (get_or slots (get_or es i e).1 None) ≡ Some (get_or es i e).0.items =
    p.sound i e (omega (arith, l, h)) in
    let b : spelled (get_or slots (get_or es j e).1 None) ≡ Some (get_or es j e).0.items = p.sound j e h in
    let c : spelled (get_or slots (get_or es i e).1 None) ≡ spelled (get_or slots (get_or es j e).1 None) =
    ap (λ m. spelled (get_or slots m None)) same in
    let is : (get_or es i e).0.items ≡ (get_or es j e).0.items = cc in
    let yes : bytes_eq (get_or es i e).0.items (get_or es j e).0.items ≡ true =
    (bytes_eq-Decides (get_or es i e).0.items (get_or es j e).0.items).1 is in
    let long = length-map es entry_spelled in
    let no : bytes_eq (get_or (map entry_spelled es) i (entry_spelled e)).0
    (get_or (map entry_spelled es) j (entry_spelled e)).0 ≡ false =
    apart_from_distinct (λ (x y : List ℕ × ℕ). bytes_eq x.0 y.0) (map entry_spelled es) i j (entry_spelled e)
    (once_mapped es d) l (omega (arith, h, long)) in
    let at_i = get_or-map_within entry_spelled es i e (entry_spelled e) (omega (arith, l, h)) in
    let at_j = get_or-map_within entry_spelled es j e (entry_spelled e) h in
    true≢false (sym yes
    ∙ sym (ap (λ x. bytes_eq x.0 (get_or (map entry_spelled es) j (entry_spelled e)).0) at_i
    ∙ ap (λ y. bytes_eq (get_or es i e).0.items y.0) at_j) ∙ no)

-- the number of each entry that has a name has a place
pub have_slots : (es0 es : Entries) (ps : Places) → IsPaired es (stored es0 ps) → HaveSlots es ps
have_slots es0 es ps p = λ j d l.
    go (get_or ps (get_or es j d).1 None) (get_or es j d).0.items
    (sym (ap spelled (stored_at es0 ps (get_or es j d).1)) ∙ p.sound j d l)
  where
    go : (o : Option ℕ) (name : List ℕ) → spelled (key_at es0 o) ≡ Some name → IsSome o
    go None name h = absurd (cc)
    go (Some m) name h = refl

-- a number that comes next has a slot
pub file_slot : (es : Entries) (old new : Places) (i n : ℕ) → AreApart es → HaveSlots es old → Files es i old new
    → i < length es → ((e : Name × ℕ) → (get_or es i e).1 ≡ n) → IsSome (get_or new n None)
file_slot es old new i n a s f l at = elim (slice_get_cases es i).1 [
  | inl x ↦
      let same : get_or new n None ≡ get_or old n None =
      f.rest n (λ j e k q. a j i e k l (q ∙ sym (at e))) in
      ap is_some same ∙ ap (λ m. is_some (get_or old m None)) (sym (at x.0)) ∙ s i x.0 l
  | inr x ↦ absurd (omega (arith, x.0, l))
]

-- one place more is written
pub files_more : (es : Entries) (old new new' : Places) (i n : ℕ) → AreApart es → Files es i old new → i < length es
    → ((e : Name × ℕ) → (get_or es i e).1 ≡ n) → length new' ≡ length new → get_or new' n None ≡ Some i
    → ((m : ℕ) → m ≢ n → get_or new' m None ≡ get_or new m None) → Files es (i + 1) old new'
files_more es old new new' i n a f l at long now others = record {
  long = long ∙ f.long;
  done = λ j e k. ⊎_elim
      (λ same. ap (λ m. get_or new' m None) (ap (λ j. (get_or es j e).1) same ∙ at e) ∙ now ∙ ap Some (sym same))
      (λ ne.
      let lt : j < i = omega (arith, k, ne) in
      others (get_or es j e).1 (λ q. a j i e lt l (q ∙ sym (at e))) ∙ f.done j e lt)
      (cases_eq j i);
  rest = λ m h. elim (slice_get_cases es i).1 [
    | inl x ↦ others m (λ q. h i x.0 (omega arith) (at x.0 ∙ sym q)) ∙ f.rest m (λ j e k. h j e (omega (arith, k)))
    | inr x ↦ absurd (omega (arith, x.0, l))
  ];
}

-- the number at a place of the list
pub listed_number : (es : Entries) (p n : ℕ) → p < length es → ((e : Name × ℕ) → (get_or es p e).1 ≡ n)
    → (e : List ℕ × ℕ) → (get_or (map entry_spelled es) p e).1 ≡ n
listed_number es p n l h e = elim (slice_get_cases es p).1 [
  | inl x ↦ ap (λ (y : List ℕ × ℕ). y.1) (get_or-map_within entry_spelled es p x.0 e l) ∙ h x.0
  | inr x ↦ absurd (omega (arith, x.0, l))
]

-- a name is added at the end
pub takes_stored : (es es' : Entries) (ps ps' : Places) (n : ℕ) (k : Name) → AreWithin es ps → es' ≡ es ++ (k, n) ∷ []
    → get_or ps n None ≡ None → get_or ps' n None ≡ Some (length es)
    → ((m : ℕ) → m ≢ n → get_or ps' m None ≡ get_or ps m None) → Takes (stored es ps) (stored es' ps') n k
takes_stored es es' ps ps' n k w e was now others = record {
  was = stored_at es ps n ∙ ap (key_at es) was;
  now = stored_at es' ps' n ∙ ap (key_at es') now ∙ key_here es' (length es) (k, n) last
      ∙ ap (λ (x : Name × ℕ). Some x.0) at;
  others = λ m ne. stored_at es' ps' m ∙ ap (key_at es') (others m ne) ∙ older (get_or ps m None) (w m)
      ∙ sym (stored_at es ps m);
}
  where
    last : length es < length es'
    last = omega (arith, ap length e, length-append es ((k, n) ∷ []))

    at : get_or es' (length es) (k, n) ≡ (k, n)
    at =
        let none : length es - length es ≡ 0 = omega arith in
        ap (λ l. get_or l (length es) (k, n)) e
        ∙ get_or-append_right es ((k, n) ∷ []) (length es) (length es) (k, n) refl (omega arith)
        ∙ ap (λ j. get_or ((k, n) ∷ []) j (k, n)) none

    older : (o : Option ℕ) → ((p : ℕ) → o ≡ Some p → p < length es) → key_at es' o ≡ key_at es o
    older None h = refl
    older (Some p) h =
        let l = h p refl in
        key_here es' p (k, n) (omega (arith, l, last))
        ∙ ap (λ (x : Name × ℕ). Some x.0) (ap (λ l. get_or l p (k, n)) e
        ∙ get_or_append_left es ((k, n) ∷ []) (k, n) p l)
        ∙ sym (key_here es p (k, n) l)

pub filed_more : (es es' : Entries) (ps ps' : Places) (n : ℕ) (k : Name) → IsFiled es ps → es' ≡ es ++ (k, n) ∷ []
    → get_or ps n None ≡ None → get_or ps' n None ≡ Some (length es)
    → ((m : ℕ) → m ≢ n → get_or ps' m None ≡ get_or ps m None) → number_in k.items es ≡ None → IsFiled es' ps'
filed_more es es' ps ps' n k f e was now others absent = record {
  paired = paired_more es es' (stored es ps) (stored es' ps') n k k f.paired e
      (takes_stored es es' ps ps' n k f.within e was now others) refl absent;
  within = λ m p h. ⊎_elim
      (λ same. let at : length es ≡ p = some_same (length es) p (sym now
      ∙ sym (ap (λ q. get_or ps' q None) same) ∙ h) in omega (arith, at, long))
      (λ ne. let l = f.within m p (sym (others m ne) ∙ h) in omega (arith, l, long))
      (cases_eq m n);
  back = λ j d l. ⊎_elim
      (λ same. ap (λ (x : Name × ℕ). get_or ps' x.1 None) (at j d same) ∙ now ∙ ap Some (sym same))
      (λ ne.
      let lt : j < length es = omega (arith, l, long, ne) in
      let is = ap (λ l. get_or l j d) e ∙ get_or_append_left es ((k, n) ∷ []) d j lt in
      let there : get_or ps (get_or es j d).1 None ≡ Some j = f.back j d lt in
      ap (λ (x : Name × ℕ). get_or ps' x.1 None) is
      ∙ others (get_or es j d).1 (λ q.
      let none : get_or ps (get_or es j d).1 None ≡ None = ap (λ m. get_or ps m None) q ∙ was in absurd (cc))
      ∙ there)
      (cases_eq j (length es));
}
  where
    long : length es' ≡ length es + 1
    long = ap length e ∙ length-append es ((k, n) ∷ [])

    some_same : (a b : ℕ) → Some a ≡ Some b → a ≡ b
    some_same a b h = cc

    at : (j : ℕ) (d : Name × ℕ) → j ≡ length es → get_or es' j d ≡ (k, n)
    at j d same =
        let none : j - length es ≡ 0 = omega (arith, same) in
        ap (λ l. get_or l j d) e
        ∙ get_or-append_right es ((k, n) ∷ []) (length es) j d refl (omega (arith, same))
        ∙ ap (λ i. get_or ((k, n) ∷ []) i d) none

-- what is kept was there, and passes the test
kept_was : (count : ℕ) (o : Option ℕ) (p : ℕ) → kept_if (λ q. nat_lt q count) o ≡ Some p → (o ≡ Some p) × (p < count)
kept_was count None p h = absurd (cc)
kept_was count (Some q) p h = ⊎_elim
    (λ l.
    let is : Some q ≡ Some p = sym (ap (λ b. cond b (Some q) None) (lt-ltb q count l)) ∙ h in
    let at : q ≡ p = cc in
    (is, omega (arith, l, at)))
    (λ g.
    let no : None ≡ Some p = sym (ap (λ b. cond b (Some q) None) (le-ltb q count g)) ∙ h in absurd (cc))
    (cases_lt q count)

pub filed_cut : (count : ℕ) (es es' : Entries) (ps ps' : Places) → IsFiled es ps → es' ≡ take count es
    → ((n : ℕ) → get_or ps' n None ≡ kept_if (λ p. nat_lt p count) (get_or ps n None)) → IsFiled es' ps'
filed_cut count es es' ps ps' f e k = record {
  paired = record {
    sound = λ j d l. ap spelled (stored_at es' ps' (get_or es' j d).1) ∙ ap (λ o. spelled (key_at es' o)) (back j d l)
        ∙ ap spelled (key_here es' j d l);
    complete = λ n name h. complete n name (get_or ps' n None) refl (sym (ap spelled (stored_at es' ps' n)) ∙ h);
  };
  within = within;
  back = back;
}
  where
    whole : es' ++ drop count es ≡ es
    whole = ap (λ l. l ++ drop count es) e ∙ take-append-drop count es

    long : length es' ≤ length es
    long = omega (arith, ap length whole, length-append es' (drop count es))

    short : length es' ≤ count
    short = omega (arith, ap length e, length-take count es)

    same : (j : ℕ) (d : Name × ℕ) → j < length es' → get_or es' j d ≡ get_or es j d
    same j d l = sym (get_or_append_left es' (drop count es) d j l) ∙ ap (λ l. get_or l j d) whole

    within : (n p : ℕ) → get_or ps' n None ≡ Some p → p < length es'
    within n p h =
        let was = kept_was count (get_or ps n None) p (sym (k n) ∙ h) in
        let l = f.within n p was.0 in
        omega (arith, l, was.1, ap length e, length-take count es)

    back : (j : ℕ) (d : Name × ℕ) → j < length es' → get_or ps' (get_or es' j d).1 None ≡ Some j
    back j d l =
        ap (λ (x : Name × ℕ). get_or ps' x.1 None) (same j d l) ∙ k (get_or es j d).1
        ∙ ap (kept_if (λ p. nat_lt p count)) (f.back j d (omega (arith, l, long)))
        ∙ ap (λ b. cond b (Some j) None) (lt-ltb j count (omega (arith, l, short)))

    complete : (n : ℕ) (name : List ℕ) (o : Option ℕ) → get_or ps' n None ≡ o → spelled (key_at es' (get_or ps' n None))
        ≡ Some name → number_in name es' ≡ Some n
    complete n name None e h = let none = ap (λ o. spelled (key_at es' o)) e in absurd (cc)
    complete n name (Some p) e h =
        let l = within n p e in
        let was = kept_was count (get_or ps n None) p (sym (k n) ∙ e) in
        elim (slice_get_cases es' p).1 [
          | inl x ↦
              let is : Some (get_or es' p x.0).0.items ≡ Some name =
              sym (ap spelled (key_here es' p x.0 l)) ∙ sym (ap (λ o. spelled (key_at es' o)) e) ∙ h in
              let is' : name ≡ (get_or es' p x.0).0.items = cc in
              let there : IsSpelled (stored es ps) n name = ap spelled (stored_at es ps n)
              ∙ ap (λ o. spelled (key_at es o)) was.0 ∙ ap spelled (key_here es p x.0 (omega (arith, l, long)))
              ∙ ap (λ (y : Name × ℕ). Some y.0.items) (sym (same p x.0 l)) ∙ is in
              let some = found_entry (λ (y : Name). bytes_eq name y.items) es' p x.0 l
              ((bytes_eq-Decides name (get_or es' p x.0).0.items).1 is') in
              let found : number_in name es ≡ Some some.0 = ap (number_in name) (sym whole)
              ∙ in_whole (λ (y : Name). bytes_eq name y.items) es' (drop count es) some.0 some.1 in
              let at : Some some.0 ≡ Some n = sym found ∙ f.paired.complete n name there in
              some.1 ∙ at
          | inr x ↦ absurd (omega (arith, x.0, l))
        ]

-- what is forgotten
pub kept_stored : (test : ℕ → Bool) (es : Entries) (ps ps' : Places)
    → ((n : ℕ) → get_or ps' n None ≡ cond (test n) (get_or ps n None) None) → Kept test (stored es ps) (stored es ps')
kept_stored test es ps ps' k n = stored_at es ps' n ∙ ap (key_at es) (k n) ∙ go (test n)
    ∙ ap (λ o. cond (test n) o None) (sym (stored_at es ps n))
  where
    go : (b : Bool) → key_at es (cond b (get_or ps n None) None) ≡ cond b (key_at es (get_or ps n None)) None
    go true = refl
    go false = refl

pub within_kept : (test : ℕ → Bool) (es : Entries) (ps ps' : Places) → AreWithin es ps
    → ((n : ℕ) → get_or ps' n None ≡ cond (test n) (get_or ps n None) None) → AreWithin es ps'
within_kept test es ps ps' w k n p h = go (test n) (sym (k n) ∙ h)
  where
    go : (b : Bool) → cond b (get_or ps n None) None ≡ Some p → p < length es
    go true e = w n p e
    go false e = absurd (cc)

-- who has a place has a name
pub filter_keys : (es0 es : Entries) (ps : Places) → AreWithin es0 ps
    → filter (λ (e : Name × ℕ). is_some (get_or ps e.1 None)) es
    ≡ filter (λ (e : Name × ℕ). is_some (get_or (stored es0 ps) e.1 None)) es
filter_keys es0 es ps w =
    let same : (n : ℕ) → is_some (get_or ps n None) ≡ is_some (get_or (stored es0 ps) n None) =
    λ n. sym (has_key es0 ps w n) ∙ sym (ap is_some (stored_at es0 ps n)) in
    λ i. filter (λ (e : Name × ℕ). same e.1 i) es
