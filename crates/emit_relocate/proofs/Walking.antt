-- Two lists of names in byte order that are merged step by step.
use Rattle.emit_relocate.proofs.Common.{AreUp, Bool, Bor, IsPlaceAmong, List, NamedKey, [], ap, append-nil}
use Rattle.emit_relocate.proofs.Common.{append_assoc, arith, bytes_eq, bytes_eq-Decides, cond, drop, drop-cons}
use Rattle.emit_relocate.proofs.Common.{drop-drop, drop_all, ends_with, false, false≢true, get_or, get_or-drop, inl}
use Rattle.emit_relocate.proofs.Common.{inr, is_before, is_lt, keyed_names, length, length-drop, map-append, refl}
use Rattle.emit_relocate.proofs.Common.{subst, suc, sym, take, take-append-drop, texts, true, true≢false, with_name}
use Rattle.emit_relocate.proofs.Common.{zero, ℕ, ⊎_elim, ◌++◌, ◌+◌, ◌-◌, ◌<◌, ◌∙◌, ◌∷◌, ◌≡◌, ◌≤◌, ◌⊎◌}
use Rattle.emit_text.proofs.ByteOrder.{Asc, In, Lt, Name, append_in, below_in, in_append, lt_from_before, lt_trans}
use Rattle.emit_relocate.proofs.NamesAscending.{asc_cross, asc_join, asc_left, asc_right, at_most}

-- ---- the last name of a list

pub last_is : (xs : List NamedKey) (name : Name) (x : NamedKey) → suc zero ≤ length xs
    → x ≡ get_or xs (length xs - 1) x → bytes_eq x.name.now name ≡ ends_with (keyed_names xs) name
last_is [] name x l e = absurd (omega (arith, l))
last_is (y ∷ []) name x l e = ap (λ (z : NamedKey). bytes_eq z.name.now name) e
last_is (y ∷ z ∷ zs) name x l e =
    let back : length (y ∷ z ∷ zs) - 1 ≡ suc (length (z ∷ zs) - 1) = omega arith in
    last_is (z ∷ zs) name x (omega arith) (e ∙ ap (λ n. get_or (y ∷ z ∷ zs) n x) back)

pub ends_in : (xs : List Name) (name : Name) → ends_with xs name ≡ true → In name xs
ends_in [] name e = absurd (false≢true e)
ends_in (x ∷ []) name e = inl (sym ((bytes_eq-Decides x name).0 e))
ends_in (x ∷ y ∷ ys) name e = inr (ends_in (y ∷ ys) name e)

-- a name that nothing in the list comes after is the last, if it is there
pub not_there : (xs : List Name) (name : Name) → Asc xs → ((z : Name) → In z xs → is_before name z ≡ false)
    → ends_with xs name ≡ false → In name xs → ⊥
not_there [] name up all e i = i
not_there (x ∷ []) name up all e (inl i) = true≢false (sym ((bytes_eq-Decides x name).1 (sym i)) ∙ e)
not_there (x ∷ []) name up all e (inr i) = i
not_there (x ∷ y ∷ ys) name up all e (inl i) =
    let before : Lt name y = subst (λ z. Lt z y) (sym i) up.0.0 in
    true≢false (sym (ap is_lt before) ∙ all y (inr (inl refl)))
not_there (x ∷ y ∷ ys) name up all e (inr i) = not_there (y ∷ ys) name up.1 (λ z j. all z (inr j)) e i

-- ---- names up to a place, and from it on

in_first : (P : Name → Type 0) (xs : List NamedKey) (n : ℕ)
    → ((k : ℕ) (d : NamedKey) → k < n → P (get_or xs k d).name.now) → (z : Name) → In z (keyed_names (take n xs)) → P z
in_first P xs zero f z i = absurd i
in_first P [] (suc n) f z i = absurd i
in_first P (x ∷ xs) (suc n) f z (inl e) = subst P (sym e) (f 0 x (omega arith))
in_first P (x ∷ xs) (suc n) f z (inr i) = in_first P xs n (λ k d l. f (suc k) d (omega (arith, l))) z i

in_rest : (P : Name → Type 0) (xs : List NamedKey) (n : ℕ)
    → ((k : ℕ) (d : NamedKey) → n ≤ k → k < length xs → P (get_or xs k d).name.now) → (z : Name)
    → In z (keyed_names (drop n xs)) → P z
in_rest P [] zero f z i = absurd i
in_rest P [] (suc n) f z i = absurd i
in_rest P (x ∷ xs) zero f z (inl e) = subst P (sym e) (f 0 x (omega arith) (omega arith))
in_rest P (x ∷ xs) zero f z (inr i) = in_rest P xs zero (λ k d l w. f (suc k) d (omega arith) (omega (arith, w))) z i
in_rest P (x ∷ xs) (suc n) f z i =
    in_rest P xs n (λ k d l w. f (suc k) d (omega (arith, l)) (omega (arith, w))) z i

pub up_to_place : (name : Name) (xs : List NamedKey) (n : ℕ) → IsPlaceAmong name xs n → (z : Name)
    → In z (keyed_names (take n xs)) → is_before name z ≡ false
up_to_place name xs n place z i =
    in_first (λ (y : Name). is_before name y ≡ false) xs n (λ k d l. place.0 k d (omega arith) l) z i

pub from_place : (name : Name) (xs : List NamedKey) (n : ℕ) → IsPlaceAmong name xs n → (z : Name)
    → In z (keyed_names (drop n xs)) → Lt name z
from_place name xs n place z i =
    lt_from_before name z (in_rest (λ (y : Name). is_before name y ≡ true) xs n (λ k d l w. place.1 k d l w) z i)

-- ---- parts of the lists

pub rest_up : (xs : List NamedKey) (n : ℕ) → AreUp xs → AreUp (drop n xs)
rest_up xs n up i j d l h =
    let long : length (drop n xs) ≡ length xs - n = length-drop n xs in
    subst (λ (y : NamedKey). is_before (get_or (drop n xs) i d).name.now y.name.now ≡ true)
    (sym (get_or-drop n xs j d))
    (subst (λ (x : NamedKey). is_before x.name.now (get_or xs (n + j) d).name.now ≡ true) (sym (get_or-drop n xs i d))
    (up (n + i) (n + j) d (omega (arith, l)) (omega (arith, h, long))))

pub split_names : (xs : List NamedKey) (n : ℕ) → keyed_names xs ≡ keyed_names (take n xs) ++ keyed_names (drop n xs)
split_names xs n =
    ap keyed_names (sym (take-append-drop n xs))
    ∙ map-append (λ (x : NamedKey). x.name.now) (take n xs) (drop n xs)

pub split_texts : (xs : List (Bor Name)) (k : ℕ) (d : Bor Name) → k < length xs
    → texts (drop k xs) ≡ (get_or xs k d).now ∷ texts (drop (k + 1) xs)
split_texts xs k d within =
    let next : suc k ≡ k + 1 = omega arith in
    ap texts (drop-cons xs k d within) ∙ ap (λ n. (get_or xs k d).now ∷ texts (drop n xs)) next

-- ---- the names so far

-- `done` of two lists are merged, `left` and `later` are left of them
pub record Walked (keyed given left later done : List Name) : Type 0 where
  pub keyed_up : Asc (done ++ left)
  pub given_up : Asc (done ++ later)
  pub all : (z : Name) → In z keyed ⊎ In z given → In z (done ++ left) ⊎ In z later

pub none_walked : (keyed given : List Name) → Asc keyed → Asc given → Walked keyed given keyed given []
none_walked keyed given up given_up = record { keyed_up = up; given_up = given_up; all = λ z i. i }

module _ (keyed given done run rest later : List Name) (name : Name)
    (before : (z : Name) → In z run → is_before name z ≡ false) (after : (z : Name) → In z rest → Lt name z)
    (h : Walked keyed given (run ++ rest) (name ∷ later) done) where
  with_run : Asc ((done ++ run) ++ rest)
  with_run = subst Asc (sym (append_assoc done run rest)) h.keyed_up

  given_left : Asc (name ∷ later)
  given_left = asc_right done (name ∷ later) h.given_up

  pub run_up : Asc run
  run_up = asc_right done run (asc_left (done ++ run) rest with_run)

  there : (z : Name) → In z (done ++ (run ++ rest)) → In z ((done ++ run) ++ rest)
  there z i = subst (In z) (sym (append_assoc done run rest)) i

  -- the name has a key
  pub with_key : In name run → Walked keyed given rest later (done ++ run)
  with_key has = record {
    keyed_up = with_run;
    given_up = asc_join (done ++ run) later (asc_left (done ++ run) rest with_run) given_left.1
        (λ x y i j.
        ⊎_elim (λ k. asc_cross done (name ∷ later) h.given_up x y k (inr j))
        (λ k.
        ⊎_elim (λ e. subst (λ w. Lt w y) e (below_in name y later given_left.0 j))
        (λ l. lt_trans x name y l (below_in name y later given_left.0 j)) (at_most x name (before x k)))
        (in_append x done run i));
    all = λ z i.
        ⊎_elim (λ j. inl (there z j))
        (λ j.
        ⊎_elim (λ e.
        inl (append_in z (done ++ run) rest (inl (append_in z done run (inr (subst (λ w. In w run) (sym e) has))))))
        (λ k. inr k) j)
        (h.all z i);
  }

  module _ (new : In name run → ⊥) where
    under : (x : Name) → In x (done ++ run) → Lt x name
    under x i =
        ⊎_elim (λ k. asc_cross done (name ∷ later) h.given_up x name k (inl refl))
        (λ k.
        ⊎_elim (λ e. absurd (new (subst (λ w. In w run) (sym e) k))) (λ l. l) (at_most x name (before x k)))
        (in_append x done run i)

    one : Asc ((done ++ run) ++ name ∷ [])
    one =
        let alone : Asc (name ∷ []) = (tt, tt) in
        asc_join (done ++ run) (name ∷ []) (asc_left (done ++ run) rest with_run) alone
        (λ x y i j. ⊎_elim (λ e. subst (Lt x) (sym e) (under x i)) (λ k. absurd k) j)

    within : (x y : Name) → In x ((done ++ run) ++ name ∷ []) → (In x (done ++ run) → Lt x y) → Lt name y → Lt x y
    within x y i f l =
        ⊎_elim f (λ j. ⊎_elim (λ e. subst (λ w. Lt w y) (sym e) l) (λ k. absurd k) j)
        (in_append x (done ++ run) (name ∷ []) i)

    -- the script alone gives the name
    pub without_key : Walked keyed given rest later ((done ++ run) ++ name ∷ [])
    without_key = record {
      keyed_up = asc_join ((done ++ run) ++ name ∷ []) rest one (asc_right (done ++ run) rest with_run)
          (λ x y i j. within x y i (λ k. asc_cross (done ++ run) rest with_run x y k j) (after y j));
      given_up = asc_join ((done ++ run) ++ name ∷ []) later one given_left.1
          (λ x y i j.
          let l : Lt name y = below_in name y later given_left.0 j in
          within x y i (λ k. lt_trans x name y (under x k) l) l);
      all = λ z i.
          ⊎_elim
          (λ j.
          inl (append_in z ((done ++ run) ++ name ∷ []) rest
          (⊎_elim (λ k. inl (append_in z (done ++ run) (name ∷ []) (inl k))) (λ k. inr k)
          (in_append z (done ++ run) rest (there z j)))))
          (λ j.
          ⊎_elim
          (λ e.
          inl (append_in z ((done ++ run) ++ name ∷ []) rest
          (inl (append_in z (done ++ run) (name ∷ []) (inr (inl e))))))
          (λ k. inr k) j)
          (h.all z i);
    }

  -- one of the second list, and those of the first up to it
  pub walked_more : Walked keyed given rest later (done ++ with_name run name)
  walked_more = go (ends_with run name) refl
    where
      go : (b : Bool) → ends_with run name ≡ b
          → Walked keyed given rest later (done ++ (run ++ cond b [] (name ∷ [])))
      go true e =
          subst (λ (l : List Name). Walked keyed given rest later (done ++ l)) (sym (append-nil run))
          (with_key (ends_in run name e))
      go false e =
          subst (Walked keyed given rest later) (append_assoc done run (name ∷ []))
          (without_key (not_there run name run_up before e))

-- the same, of what is left of the lists
pub walked_next : (sorted : List NamedKey) (given : List (Bor Name)) (at count k : ℕ) (x : Bor Name) (done : List Name)
    → k < length given → x ≡ get_or given k x → IsPlaceAmong x.now (drop at sorted) count
    → Walked (keyed_names sorted) (texts given) (keyed_names (drop at sorted)) (texts (drop k given)) done
    → Walked (keyed_names sorted) (texts given) (keyed_names (drop (at + count) sorted)) (texts (drop (k + 1) given))
    (done ++ with_name (keyed_names (take count (drop at sorted))) x.now)
walked_next sorted given at count k x done within is place h =
    let left : List NamedKey = drop at sorted in
    let later : texts (drop k given) ≡ x.now ∷ texts (drop (k + 1) given) =
    split_texts given k x within ∙ ap (λ (y : Bor Name). y.now ∷ texts (drop (k + 1) given)) (sym is) in
    subst
    (λ (l : List NamedKey). Walked (keyed_names sorted) (texts given) (keyed_names l) (texts (drop (k + 1) given))
    (done ++ with_name (keyed_names (take count left)) x.now))
    (drop-drop count at sorted)
    (walked_more (keyed_names sorted) (texts given) done (keyed_names (take count left))
    (keyed_names (drop count left)) (texts (drop (k + 1) given)) x.now
    (up_to_place x.now left count place) (from_place x.now left count place)
    (subst (λ (l : List Name). Walked (keyed_names sorted) (texts given) l (x.now ∷ texts (drop (k + 1) given)) done)
    (split_names left count)
    (subst (λ (l : List Name). Walked (keyed_names sorted) (texts given) (keyed_names left) l done) later h)))

-- at the end all are merged
pub all_walked : (keyed given : List Name) (left : List Name) (xs : List (Bor Name)) (k : ℕ) (done : List Name)
    → length xs ≤ k → Walked keyed given left (texts (drop k xs)) done → (z : Name) → In z keyed ⊎ In z given
    → In z (done ++ left)
all_walked keyed given left xs k done past h z i =
    ⊎_elim (λ j. j) (λ j. absurd (subst (λ (l : List (Bor Name)). In z (texts l)) (drop_all k xs past) j)) (h.all z i)
