-- Where a name stands among others.
use Rattle.emit_relocate.proofs.Common.{AreUp, Bool, Equal, Greater, IsPartitionPoint, IsPartitionedBy, IsPlaceAmong}
use Rattle.emit_relocate.proofs.Common.{IsSortedBy, IsStrictWeakOrder, Less, List, NamedKey, Ordering, Some, ap, arith}
use Rattle.emit_relocate.proofs.Common.{false, false≢true, get_or, is_before, is_le, is_lt, is_some_and, lists_agrees}
use Rattle.emit_relocate.proofs.Common.{nat_cmp, nat_list_cmp_total, ordering_reverse, ranks_by, refl, slice_cmp}
use Rattle.emit_relocate.proofs.Common.{slice_partial_cmp, sorted_far, sym, true, ℕ, ◌+◌, ◌∙◌, ◌≡◌}

abbrev Name : Type 0
Name = List ℕ

abbrev order : Name → Name → Ordering
order a b = slice_cmp nat_cmp a b

names_order : IsStrictWeakOrder is_before
names_order = ranks_by nat_list_cmp_total (λ (n : Name). n)

-- ---- the operator of slices

abbrev at_most : Name → Name → Bool
at_most a b = is_some_and is_le (slice_partial_cmp (λ (x : ℕ) (y : ℕ). Some (nat_cmp x y)) a b)

at_most_is : (a b : Name) → at_most a b ≡ is_le (order a b)
at_most_is a b = ap (is_some_and is_le) (lists_agrees (λ x y. refl) a b)

not_after : (o p : Ordering) → p ≡ ordering_reverse o → is_le o ≡ true → is_lt p ≡ false
not_after Less p e h = ap is_lt e
not_after Equal p e h = ap is_lt e
not_after Greater p e h = absurd (false≢true h)

up_to : (o p : Ordering) → p ≡ ordering_reverse o → is_lt p ≡ false → is_le o ≡ true
up_to Less p e h = refl
up_to Equal p e h = refl
up_to Greater p e h = absurd (false≢true (sym h ∙ ap is_lt e))

past : (o p : Ordering) → p ≡ ordering_reverse o → is_le o ≡ false → is_lt p ≡ true
past Less p e h = absurd (false≢true (sym h))
past Equal p e h = absurd (false≢true (sym h))
past Greater p e h = ap is_lt e

before_it : (a b : Name) → at_most a b ≡ true → is_before b a ≡ false
before_it a b h = not_after (order a b) (order b a) (nat_list_cmp_total.antisymm b a) (sym (at_most_is a b) ∙ h)

is_at_most : (a b : Name) → is_before b a ≡ false → at_most a b ≡ true
is_at_most a b h = at_most_is a b ∙ up_to (order a b) (order b a) (nat_list_cmp_total.antisymm b a) h

after_it : (a b : Name) → at_most a b ≡ false → is_before b a ≡ true
after_it a b h = past (order a b) (order b a) (nat_list_cmp_total.antisymm b a) (sym (at_most_is a b) ∙ h)

-- ---- names with keys

abbrev pub comes_by : Name → NamedKey → Bool
comes_by name x = at_most x.name.now name

abbrev key_before : NamedKey → NamedKey → Bool
key_before x y = is_before x.name.now y.name.now

sorted_keys : (xs : List NamedKey) → AreUp xs → IsSortedBy key_before xs
sorted_keys xs up k d low high =
    names_order.one_way (get_or xs k d).name.now (get_or xs (k + 1) d).name.now (up k (k + 1) d (omega arith) high)

pub partitioned : (name : Name) (xs : List NamedKey) → AreUp xs → IsPartitionedBy (comes_by name) xs
partitioned name xs up i j d l h earlier =
    let x = (get_or xs i d).name.now in
    let y = (get_or xs j d).name.now in
    is_at_most x name
    (names_order.chain name y x (before_it y name earlier)
    (sorted_far key_before (ranks_by nat_list_cmp_total (λ (z : NamedKey). z.name.now)) xs (sorted_keys xs up) i j d l
    h))

pub place_among : (name : Name) (xs : List NamedKey) (n : ℕ)
    → IsPartitionPoint (λ x. comes_by name x ≡ true) (λ x. comes_by name x ≡ false) xs n → IsPlaceAmong name xs n
place_among name xs n parts = (
  λ k d l h. before_it _ name (parts.0 k d l h),
  λ k d l h. after_it _ name (parts.1 k d l h),
)
