-- Names in byte order: one is put in its place, and some are taken out.
use Rattle.symres_decisions.proofs.Common.{All, All-head, All-tail, All-weaker, AreInOrder, Bool, ComparedName, Forgets}
use Rattle.symres_decisions.proofs.Common.{IsListing, IsNamed, IsPermutation, IsSortedBy, List, None, Some, State, []}
use Rattle.symres_decisions.proofs.Common.{ap, arith, cases_eq, cases_lt, compared_number, cond, entries_of, false}
use Rattle.symres_decisions.proofs.Common.{filter, get_or, get_or-insert_at, get_or-map, insert, is_known, is_some}
use Rattle.symres_decisions.proofs.Common.{length, length-insert, length-map, map, nat_list_cmp_total, nat_lt, ranks_by}
use Rattle.symres_decisions.proofs.Common.{refl, set, slice_cmp, subst, suc, sym, take, take_all, take_more, true}
use Rattle.symres_decisions.proofs.Common.{true≢false, zero, ℕ, ⊎_elim, ◌++◌, ◌+◌, ◌-◌, ◌<◌, ◌∙◌, ◌∷◌, ◌≡◌, ◌≤◌}
use Rattle.std.specs.Cmp.{IsStrictWeakOrder}
use Rattle.std.specs.Ordering.{is_lt, nat_cmp}
use Rattle.std.proofs.lemmas.List.Edits.{get_or-insert_above, get_or-insert_below, swap_is}
use Rattle.std.proofs.lemmas.List.Kept.{IsSortedBy-filter}
use Rattle.std.proofs.lemmas.List.Sorted.{IsPermutation-cons, IsPermutation-insert, IsPermutation-keeps}
use Rattle.std.proofs.lemmas.List.Sorted.{IsPermutation-refl, All-permutation, IsPermutation-push_more}
use Rattle.std.proofs.lemmas.List.Sorted.{IsPermutation-swap, IsPermutation-trans, sorted_far}
use Rattle.symres_decisions.specs.NameText.{BelongsAt, IsInByteOrder, comes_before}
use Rattle.symres_decisions.proofs.Listed.{Listed}

-- ---- what a test leaves of a list whose members change places

module _ {X : Type 0} (p : X → Bool) where
  under : (b : Bool) (x : X) (us vs : List X) → IsPermutation us vs
      → IsPermutation (cond b (x ∷ us) us) (cond b (x ∷ vs) vs)
  under true x us vs h = IsPermutation-cons x us vs h
  under false x us vs h = h

  flipped : (a b : Bool) (x y : X) (us : List X)
      → IsPermutation (cond a (x ∷ cond b (y ∷ us) us) (cond b (y ∷ us) us))
      (cond b (y ∷ cond a (x ∷ us) us) (cond a (x ∷ us) us))
  flipped true true x y us =
      IsPermutation-swap (x ∷ y ∷ us) (y ∷ x ∷ us) 0 1 (omega arith) (omega arith) refl
  flipped true false x y us = IsPermutation-refl (x ∷ us)
  flipped false true x y us = IsPermutation-refl (y ∷ us)
  flipped false false x y us = IsPermutation-refl us

  put : (x : X) (l : List X) (j : ℕ) (d : X) → j < length l
      → IsPermutation (filter p (x ∷ l)) (filter p (get_or l j d ∷ set l j x))
  put x [] j d h = absurd (omega (arith, h))
  put x (y ∷ l) zero d h = flipped (p x) (p y) x y (filter p l)
  put x (y ∷ l) (suc j) d h =
      let z : X = get_or l j d in
      IsPermutation-trans _ _ _ (flipped (p x) (p y) x y (filter p l))
      (IsPermutation-trans _ _ _
      (under (p y) y (filter p (x ∷ l)) (filter p (z ∷ set l j x)) (put x l j d (omega (arith, h))))
      (flipped (p y) (p z) y z (filter p (set l j x))))

  exchanged : (l : List X) (i j : ℕ) (d : X) → i < length l → j < length l
      → IsPermutation (filter p l) (filter p (set (set l i (get_or l j d)) j (get_or l i d)))
  exchanged [] i j d a b = absurd (omega (arith, a))
  exchanged (x ∷ l) zero zero d a b = IsPermutation-refl (filter p (x ∷ l))
  exchanged (x ∷ l) zero (suc j) d a b = put x l j d (omega (arith, b))
  exchanged (x ∷ l) (suc i) zero d a b = put x l i d (omega (arith, a))
  exchanged (x ∷ l) (suc i) (suc j) d a b =
      under (p x) x (filter p l) (filter p (set (set l i (get_or l j d)) j (get_or l i d)))
      (exchanged l i j d (omega (arith, a)) (omega (arith, b)))

  some_in : (l : List X) (i : ℕ) → i < length l → X
  some_in [] i h = absurd (omega (arith, h))
  some_in (x ∷ l) i h = x

  pub kept_permuted : (xs ys : List X) → IsPermutation xs ys → IsPermutation (filter p xs) (filter p ys)
  kept_permuted xs ys h =
      IsPermutation-keeps xs (λ l. IsPermutation (filter p xs) (filter p l)) (IsPermutation-refl (filter p xs))
      (λ l i j a b g.
      let d : X = some_in l i a in
      IsPermutation-trans _ _ _ g
      (subst (λ m. IsPermutation (filter p l) (filter p m)) (swap_is l i j d a b) (exchanged l i j d a b)))
      ys h

-- ---- one more

pub sorted_insert : {X : Type 0} (lt : X → X → Bool) (xs : List X) (i : ℕ) (y : X) → i ≤ length xs
    → IsSortedBy lt xs → ((k : ℕ) (d : X) → k < i → lt y (get_or xs k d) ≡ false)
    → ((k : ℕ) (d : X) → i ≤ k → k < length xs → lt (get_or xs k d) y ≡ false) → IsSortedBy lt (insert xs i y)
sorted_insert {X} lt xs i y l up below above k d from within =
    let long = length-insert xs i y l in
    ⊎_elim
    (λ low. before low)
    (λ high. ⊎_elim (λ here. at here) (λ other. after (omega (arith, high, other))) (cases_eq k i))
    (cases_lt k i)
  where
    long' : length (insert xs i y) ≡ length xs + 1
    long' = length-insert xs i y l

    zs : List X
    zs = insert xs i y

    before : k < i → lt (get_or zs (k + 1) d) (get_or zs k d) ≡ false
    before low =
        let second : get_or zs k d ≡ get_or xs k d = get_or-insert_below xs i y d k low l in
        ⊎_elim
        (λ lower.
        ap (lt (get_or zs (k + 1) d)) second
        ∙ ap (λ x. lt x (get_or xs k d)) (get_or-insert_below xs i y d (k + 1) lower l)
        ∙ up k d from (omega (arith, lower, l)))
        (λ upper.
        let same : i ≡ k + 1 = omega (arith, upper, low) in
        ap (lt (get_or zs (k + 1) d)) second
        ∙ ap (λ x. lt x (get_or xs k d)) (ap (λ n. get_or zs n d) (sym same) ∙ get_or-insert_at xs i y d l)
        ∙ below k d low)
        (cases_lt (k + 1) i)

    at : k ≡ i → lt (get_or zs (k + 1) d) (get_or zs k d) ≡ false
    at here =
        ap (lt (get_or zs (k + 1) d)) (ap (λ n. get_or zs n d) here ∙ get_or-insert_at xs i y d l)
        ∙ ap (λ x. lt x y) (get_or-insert_above xs i y d k (omega (arith, here)) l)
        ∙ above k d (omega (arith, here)) (omega (arith, within, long'))

    after : i < k → lt (get_or zs (k + 1) d) (get_or zs k d) ≡ false
    after high =
        let back : k ≡ k - 1 + 1 = omega (arith, high) in
        let low : i ≤ k - 1 = omega (arith, high) in
        ap (lt (get_or zs (k + 1) d)) (ap (λ n. get_or zs n d) back ∙ get_or-insert_above xs i y d (k - 1) low l)
        ∙ ap (λ x. lt x (get_or xs (k - 1) d))
        (get_or-insert_above xs i y d k (omega (arith, high)) l ∙ ap (λ n. get_or xs n d) back)
        ∙ up (k - 1) d (omega arith) (omega (arith, within, long', high))

-- names in byte order, and one more in its place
pub one_more : (names : List Listed) (name : List ℕ) (key place : ℕ) → IsInByteOrder names
    → BelongsAt names name place → AreInOrder ((name, key) ∷ names) (insert names place (name, key))
one_more names name key place up at = record {
  same = IsPermutation-insert names place (name, key);
  up = sorted_insert comes_before names place (name, key) at.within up
      (λ k d low. order.one_way (get_or names k d) (name, key) (at.before k d low)) at.after;
}
  where
    order : IsStrictWeakOrder comes_before
    order = ranks_by nat_list_cmp_total (λ (x : Listed). x.0)

-- ---- the place of a name

abbrev pub precedes : List Listed → ℕ → Listed → List ℕ → Bool
precedes names i e name = is_lt (slice_cmp nat_cmp (get_or names i e).0 name)

chained : (x y z : Listed) → comes_before x y ≡ false → comes_before y z ≡ false → comes_before x z ≡ false
chained = (ranks_by nat_list_cmp_total (λ (x : Listed). x.0)).chain

-- the names up to one that comes before a name come before it
pub before_middle : (names : List Listed) (name : List ℕ) (middle : ℕ) → IsInByteOrder names → middle < length names
    → ((e : Listed) → precedes names middle e name ≡ true) → (i : ℕ) (e : Listed) → i < middle + 1
    → precedes names i e name ≡ true
before_middle names name middle up inside here i e low = go (precedes names i e name) refl
  where
    go : (b : Bool) → precedes names i e name ≡ b → precedes names i e name ≡ true
    go true h = h
    go false h =
        absurd (true≢false (sym (here e)
        ∙ chained (get_or names middle e) (get_or names i e) (name, 0)
        (sorted_far comes_before (ranks_by nat_list_cmp_total (λ (x : Listed). x.0)) names up i middle e
        (omega (arith, low)) inside) h))

-- those from one on that doesn't come before it don't
pub after_middle : (names : List Listed) (name : List ℕ) (middle : ℕ) → IsInByteOrder names
    → ((e : Listed) → precedes names middle e name ≡ false) → (i : ℕ) (e : Listed) → middle ≤ i → i < length names
    → precedes names i e name ≡ false
after_middle names name middle up here i e high inside =
    chained (get_or names i e) (get_or names middle e) (name, 0)
    (sorted_far comes_before (ranks_by nat_list_cmp_total (λ (x : Listed). x.0)) names up middle i e high inside)
    (here e)

-- ---- the known names

-- the name at the next place of the list is put among those before it
pub one_listed : (order text new : List Listed) (place : ℕ) (x : Listed) → place < length order
    → ((e : Listed) → get_or order place e ≡ x) → AreInOrder (take place order) text → AreInOrder (x ∷ text) new
    → AreInOrder (take (place + 1) order) new
one_listed order text new place x within is before after = record {
  same = subst (λ (xs : List Listed). IsPermutation xs new)
      (sym (take_more order place x within ∙ ap (λ (y : Listed). take place order ++ y ∷ []) (is x)))
      (IsPermutation-push_more (take place order) text new x before.same after.same);
  up = after.up;
}

pub all_listed : (order text : List Listed) (place : ℕ) → length order ≤ place → AreInOrder (take place order) text
    → AreInOrder order text
all_listed order text place past h =
    subst (λ (xs : List Listed). AreInOrder xs text) (take_all place order past) h

-- names that have keys, where some of them are forgotten
same_kept : {X : Type 0} (p q : X → Bool) (xs : List X) → All (λ x. p x ≡ q x) xs → filter p xs ≡ filter q xs
same_kept p q [] h = refl
same_kept p q (x ∷ xs) h =
    ap (λ b. cond b (x ∷ filter p xs) (filter p xs)) (All-head (λ y. p y ≡ q y) x xs h)
    ∙ ap (λ ys. cond (q x) (x ∷ ys) ys) (same_kept p q xs (All-tail (λ y. p y ≡ q y) x xs h))

used_known : (before now : State) (x : Listed) → Forgets before now → IsNamed before.names x.1 x.0
    → nat_lt 0 (length (entries_of x.0 before.objects)) ≡ is_known now.names x
used_known before now x f named =
    go (nat_lt 0 (length (entries_of x.0 before.objects))) ∙ sym (ap is_some (f.names x.1 x.0 named))
  where
    go : (b : Bool) → b ≡ is_some (cond b (Some x.0) None)
    go true = refl
    go false = refl

pub text_forgotten : (before now : State) (text new : List Listed) → IsListing before.names before.order
    → Forgets before now → new ≡ filter (is_known now.names) text → AreInOrder before.order text
    → AreInOrder now.order new
text_forgotten before now text new listing f is h =
    let used : Listed → Bool = λ e. nat_lt 0 (length (entries_of e.0 before.objects)) in
    let named : All (λ (e : Listed). IsNamed before.names e.1 e.0) text =
    All-permutation (λ (e : Listed). IsNamed before.names e.1 e.0) before.order text h.same listing.sound in
    let kept : filter used text ≡ new =
    same_kept used (is_known now.names) text
    (All-weaker (λ (e : Listed). IsNamed before.names e.1 e.0) (λ (e : Listed). used e ≡ is_known now.names e)
    (λ e n. used_known before now e f n) text named)
    ∙ sym is in
    record {
      same = subst (IsPermutation now.order) kept
          (subst (λ (xs : List Listed). IsPermutation xs (filter used text)) (sym f.order)
          (kept_permuted used before.order text h.same));
      up = subst IsInByteOrder kept
          (IsSortedBy-filter comes_before (ranks_by nat_list_cmp_total (λ (x : Listed). x.0)) used text h.up);
    }

-- ---- names that are quick to compare

abbrev pub is_first : ComparedName → ComparedName → Bool
is_first x y = is_lt (slice_cmp nat_cmp x.name y.name)

pub compared_up : (xs : List ComparedName) → IsSortedBy is_first xs → IsInByteOrder (map compared_number xs)
compared_up xs s = λ k e l h.
    let d : ComparedName = record { name = []; key = record { 0 = 0 } } in
    let long : k + 1 < length xs = omega (arith, h, length-map xs compared_number) in
    let second = get_or-map compared_number xs (k + 1) d e long in
    let first = get_or-map compared_number xs k d e (omega (arith, long)) in
    ap (λ (x : Listed). comes_before x (get_or (map compared_number xs) k e)) second
    ∙ ap (λ (y : Listed). comes_before (compared_number (get_or xs (k + 1) d)) y) first
    ∙ s k d l long
