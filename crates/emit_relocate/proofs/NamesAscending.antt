-- Lists of names in byte order, each once.
use Rattle.emit_relocate.proofs.Common.{AllPairs, Bool, IsSortedBy, IsStrictWeakOrder, List, [], ap, arith, bytes_eq}
use Rattle.emit_relocate.proofs.Common.{bytes_eq-Decides, false, get_or, inl, inr, is_before, is_lt, length, map}
use Rattle.emit_relocate.proofs.Common.{map-id, nat_list_cmp_total, ranks_by, refl, subst, suc, sym, true, true≢false}
use Rattle.emit_relocate.proofs.Common.{zero, ℕ, ⊎_elim, ◌++◌, ◌+◌, ◌<◌, ◌∙◌, ◌∷◌, ◌≡◌, ◌⊎◌}
use Rattle.emit_text.proofs.ByteOrder.{Asc, Below, In, Lt, Name, append_in, below_all, below_in, in_append}
use Rattle.emit_text.proofs.ByteOrder.{lt_from_before, lt_from_not_before}

names_order : IsStrictWeakOrder is_before
names_order = ranks_by nat_list_cmp_total (λ (n : Name). n)

-- ---- by pairs

below_at : (x : Name) (xs : List Name) (j : ℕ) (d : Name) → Below x xs → j < length xs
    → is_before x (get_or xs j d) ≡ true
below_at x [] j d b h = absurd (omega (arith, h))
below_at x (y ∷ ys) zero d b h = ap is_lt b.0
below_at x (y ∷ ys) (suc j) d b h = below_at x ys j d b.1 (omega (arith, h))

pub asc_pairs : (xs : List Name) → Asc xs → AllPairs (λ (x y : Name). is_before x y ≡ true) xs
asc_pairs xs a i j d l h = go xs a i j l h
  where
    go : (ys : List Name) → Asc ys → (i j : ℕ) → i < j → j < length ys
        → is_before (get_or ys i d) (get_or ys j d) ≡ true
    go [] a i j l h = absurd (omega (arith, h))
    go (y ∷ ys) a i zero l h = absurd (omega (arith, l))
    go (y ∷ ys) a zero (suc j) l h = below_at y ys j d a.0 (omega (arith, h))
    go (y ∷ ys) a (suc i) (suc j) l h = go ys a.1 i j (omega (arith, l)) (omega (arith, h))

pub pairs_asc : {X : Type 0} (f : X → Name) (xs : List X) → AllPairs (λ (x y : X). is_before (f x) (f y) ≡ true) xs
    → Asc (map f xs)
pairs_asc f [] h = tt
pairs_asc f (x ∷ xs) h = (
  below xs (λ j d l. h 0 (suc j) d (omega arith) (omega (arith, l))),
  pairs_asc f xs (λ i j d l w. h (suc i) (suc j) d (omega (arith, l)) (omega (arith, w))),
)
  where
    below : (ys : List _) → ((j : ℕ) (d : _) → j < length ys → is_before (f x) (f (get_or ys j d)) ≡ true)
        → Below (f x) (map f ys)
    below [] g = tt
    below (y ∷ ys) g = (
      lt_from_before (f x) (f y) (g 0 y (omega arith)),
      below ys (λ j d l. g (suc j) d (omega (arith, l))),
    )

pub names_asc : (xs : List Name) → AllPairs (λ (x y : Name). is_before x y ≡ true) xs → Asc xs
names_asc xs h = subst Asc (map-id xs) (pairs_asc (λ (x : Name). x) xs h)

pub asc_sorted : (xs : List Name) → Asc xs → IsSortedBy is_before xs
asc_sorted xs a k d low high =
    names_order.one_way (get_or xs k d) (get_or xs (k + 1) d) (asc_pairs xs a k (k + 1) d (omega arith) high)

-- ---- one list after another

pub asc_join : (xs ys : List Name) → Asc xs → Asc ys → ((x y : Name) → In x xs → In y ys → Lt x y) → Asc (xs ++ ys)
asc_join [] ys s t h = t
asc_join (x ∷ xs) ys s t h = (
  below_all x (xs ++ ys) (λ z i.
      ⊎_elim (λ j. below_in x z xs s.0 j) (λ j. h x z (inl refl) j) (in_append z xs ys i)),
  asc_join xs ys s.1 t (λ a b i j. h a b (inr i) j),
)

pub asc_left : (xs ys : List Name) → Asc (xs ++ ys) → Asc xs
asc_left [] ys h = tt
asc_left (x ∷ xs) ys h = (
  below_all x xs (λ z i. below_in x z (xs ++ ys) h.0 (append_in z xs ys (inl i))),
  asc_left xs ys h.1,
)

pub asc_right : (xs ys : List Name) → Asc (xs ++ ys) → Asc ys
asc_right [] ys h = h
asc_right (x ∷ xs) ys h = asc_right xs ys h.1

pub asc_cross : (xs ys : List Name) → Asc (xs ++ ys) → (x y : Name) → In x xs → In y ys → Lt x y
asc_cross [] ys h x y i j = absurd i
asc_cross (a ∷ xs) ys h x y (inl e) j =
    subst (λ w. Lt w y) (sym e) (below_in a y (xs ++ ys) h.0 (append_in y xs ys (inr j)))
asc_cross (a ∷ xs) ys h x y (inr i) j = asc_cross xs ys h.1 x y i j

-- what does not come after a name is it, or comes before it
pub at_most : (x y : Name) → is_before y x ≡ false → (y ≡ x) ⊎ Lt x y
at_most x y h = go (bytes_eq y x) refl
  where
    go : (b : Bool) → bytes_eq y x ≡ b → (y ≡ x) ⊎ Lt x y
    go true e = inl ((bytes_eq-Decides y x).0 e)
    go false e =
        inr (lt_from_not_before y x (λ same. true≢false (sym ((bytes_eq-Decides y x).1 same) ∙ e)) h)
