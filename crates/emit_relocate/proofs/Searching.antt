-- The symbol of a name: where symbols are in byte order of their names, it is the first that is not before that name.
use Rattle.emit_relocate.proofs.Common.{Bool, Equal, Greater, IsPartitionPoint, IsPartitionedBy, Less, List, Option}
use Rattle.emit_relocate.proofs.Common.{Ordering, OutputSymbol, Some, [], ap, arith, bytes_eq, cases_lt, false, find_at}
use Rattle.emit_relocate.proofs.Common.{found_symbol, get_or, inl, inr, is_eq, is_lt, is_some_and, length, lists_agrees}
use Rattle.emit_relocate.proofs.Common.{nat_cmp, nat_list_cmp_total, ordering_reverse, position_or_len_is, ranks_by}
use Rattle.emit_relocate.proofs.Common.{refl, slice_cmp, slice_get, slice_get-get_or, slice_get_past, slice_partial_cmp}
use Rattle.emit_relocate.proofs.Common.{sorted_far, sym, true, true≢false, ℕ, ◌<◌, ◌∙◌, ◌∷◌, ◌≡◌, ◌≤◌, ◌⊎◌}
use Rattle.std.proofs.Common.{None}
use Rattle.std.proofs.lemmas.Map.Text.{is_eq-slice_cmp}
use Rattle.emit_relocate.specs.AssertedSymbols.{AreInOrder}

abbrev Name : Type 0
Name = List ℕ

abbrev order : Name → Name → Ordering
order a b = slice_cmp nat_cmp a b

abbrev name_of : OutputSymbol → Name
name_of x = x.name.now

abbrev is_before : OutputSymbol → OutputSymbol → Bool
is_before x y = is_lt (order (name_of x) (name_of y))

abbrev is_named : Name → OutputSymbol → Bool
is_named name x = bytes_eq (name_of x) name

-- ---- the operators of slices

abbrev compared : Name → Name → Option Ordering
compared a b = slice_partial_cmp (λ (x : ℕ) (y : ℕ). Some (nat_cmp x y)) a b

abbrev less : Name → Name → Bool
less a b = is_some_and is_lt (compared a b)

compared_is : (a b : Name) → compared a b ≡ Some (order a b)
compared_is a b = lists_agrees (λ x y. refl) a b

less_is : (a b : Name) → less a b ≡ is_lt (order a b)
less_is a b = ap (is_some_and is_lt) (compared_is a b)

-- ---- the search

abbrev pub precedes : Name → OutputSymbol → Bool
precedes name x = less (name_of x) name

-- the symbols before i come before a name, and the others do not
abbrev Parts : Name → List OutputSymbol → ℕ → Type 0
Parts name xs i = IsPartitionPoint (λ x. precedes name x ≡ true) (λ x. precedes name x ≡ false) xs i

-- symbols in order are parted so by any name
below_of : (name x y : Name) → is_lt (order y x) ≡ false → is_lt (order y name) ≡ true → is_lt (order x name) ≡ true
below_of name x y after earlier = go (is_lt (order x name)) refl
  where
    go : (b : Bool) → is_lt (order x name) ≡ b → is_lt (order x name) ≡ true
    go true e = e
    go false e =
        absurd (true≢false (sym earlier ∙ (ranks_by nat_list_cmp_total (λ (n : Name). n)).chain y x name after e))

pub parted : (name : Name) (xs : List OutputSymbol) → AreInOrder xs → IsPartitionedBy (precedes name) xs
parted name xs sorted i j d l h earlier =
    less_is (name_of (get_or xs i d)) name
    ∙ below_of name (name_of (get_or xs i d)) (name_of (get_or xs j d))
    (sorted_far is_before (ranks_by nat_list_cmp_total name_of) xs sorted i j d l h)
    (sym (less_is (name_of (get_or xs j d)) name) ∙ earlier)

less_is_unequal : (o : Ordering) → is_lt o ≡ true → is_eq o ≡ false
less_is_unequal Less e = refl
less_is_unequal Equal e = absurd (true≢false (sym e))
less_is_unequal Greater e = refl

earlier_is_other : (a b : Name) → less a b ≡ true → bytes_eq a b ≡ false
earlier_is_other a b h = sym (is_eq-slice_cmp a b) ∙ less_is_unequal (order a b) (sym (less_is a b) ∙ h)

-- the first of a name stands where those before the name end
pub found : (name : Name) (xs : List OutputSymbol) (i : ℕ) (x : OutputSymbol) → Parts name xs i → i < length xs
    → x ≡ get_or xs i x
    → is_named name x ≡ true → found_symbol xs name ≡ Some x
found name xs i x parts inside at same =
    let here : is_named name (get_or xs i x) ≡ true = ap (is_named name) (sym at) ∙ same in
    let is = position_or_len_is (is_named name) xs i x (omega arith)
    (λ j h. earlier_is_other (name_of (get_or xs j x)) name (parts.0 j x (omega arith) h)) (λ h. here) in
    find_at (is_named name) xs ∙ ap (slice_get xs) is ∙ slice_get-get_or xs i x inside ∙ ap Some (sym at)

is_greater : (o : Ordering) → is_lt o ≡ false → is_eq o ≡ false → o ≡ Greater
is_greater Less l e = absurd (true≢false l)
is_greater Equal l e = absurd (true≢false e)
is_greater Greater l e = refl

-- past one of a later name there is none of the name
none_past : (name x y : Name) → is_lt (order y x) ≡ false → order x name ≡ Greater → is_eq (order y name) ≡ false
none_past name x y after greater = go (order y name) refl
  where
    go : (o : Ordering) → order y name ≡ o → is_eq o ≡ false
    go Less e = refl
    go Equal e =
        let below : order y x ≡ Less =
        nat_list_cmp_total.congr y name x e ∙ nat_list_cmp_total.antisymm name x ∙ ap ordering_reverse greater in
        absurd (true≢false (sym (ap is_lt below) ∙ after))
    go Greater e = refl

none_of : (name : Name) (xs : List OutputSymbol) (d : OutputSymbol)
    → ((j : ℕ) → j < length xs → is_named name (get_or xs j d) ≡ false) → found_symbol xs name ≡ None
none_of name xs d h =
    let is = position_or_len_is (is_named name) xs (length xs) d (omega arith) h (λ l. absurd (omega arith)) in
    find_at (is_named name) xs ∙ ap (slice_get xs) is ∙ slice_get_past xs (length xs) (omega arith)

-- there is none where another stands there
pub missed : (name : Name) (xs : List OutputSymbol) (i : ℕ) (x : OutputSymbol) → AreInOrder xs → Parts name xs i
    → i < length xs
    → x ≡ get_or xs i x → is_named name x ≡ false → found_symbol xs name ≡ None
missed name xs i x sorted parts inside at other =
    none_of name xs x (λ j h. each j h (cases_lt j i))
  where
    here : Name
    here = name_of (get_or xs i x)

    greater : order here name ≡ Greater
    greater =
        is_greater (order here name) (sym (less_is here name) ∙ parts.1 i x (omega arith) inside)
        (is_eq-slice_cmp here name ∙ ap (is_named name) (sym at) ∙ other)

    each : (j : ℕ) → j < length xs → (j < i) ⊎ (i ≤ j) → is_named name (get_or xs j x) ≡ false
    each j h (inl l) = earlier_is_other (name_of (get_or xs j x)) name (parts.0 j x (omega arith) l)
    each j h (inr l) =
        sym (is_eq-slice_cmp (name_of (get_or xs j x)) name)
        ∙ none_past name here (name_of (get_or xs j x))
        (sorted_far is_before (ranks_by nat_list_cmp_total name_of) xs sorted i j x l h) greater

-- nor where none does
pub missed_at_end : (name : Name) (xs : List OutputSymbol) (i : ℕ) → Parts name xs i → length xs ≤ i
    → found_symbol xs name ≡ None
missed_at_end name [] i parts past = refl
missed_at_end name (x ∷ xs) i parts past =
    none_of name (x ∷ xs) x
    (λ j h. earlier_is_other (name_of (get_or (x ∷ xs) j x)) name (parts.0 j x (omega arith) (omega arith)))
