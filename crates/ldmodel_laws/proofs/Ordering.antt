-- Sorting by insertion puts a list in order, and no other list is the same one in that order.
use Rattle.ldmodel_laws.proofs.Common.{Bool, Contains, IsOrdered, IsSortedBy, List, None, Option, Piece, Some, []}
use Rattle.ldmodel_laws.proofs.Common.{and_parts, ap, arith, below, cond, false, false≢true, filter, get_or, insert_by}
use Rattle.ldmodel_laws.proofs.Common.{length, not, not-true, piece_alignment, refl, sort_by, subst, suc, sym, ties}
use Rattle.ldmodel_laws.proofs.Common.{true, zero, ◌+◌, ◌<◌, ◌↔◌, ◌∙◌, ◌∷◌, ◌≡◌}
use Rattle.std.specs.Cmp.{IsStrictWeakOrder}
use Rattle.std.specs.Cmp.Lexicographic.{nat_list_cmp_total}
use Rattle.std.proofs.lemmas.List.Sorted.{sorted_far, ranks_by, IsStrictWeakOrder-flip, IsStrictWeakOrder-by_number}
use Rattle.ldscript.specs.statements.declared.input.Sort.{Sort}
use Rattle.ldscript.specs.statements.declared.input.Sort.TheVariants.{ByName, ByAlignment}
use Rattle.ldmodel_laws.proofs.Members.{here, later}

-- what a filter has first, its list contains
filtered_in : {X : Type 0} (p : X → Bool) (ys : List X) (z : X) (zs : List X) → filter p ys ≡ z ∷ zs → Contains ys z
filtered_in p [] z zs h = cc
filtered_in p (y ∷ ys) z zs h = go (p y) h (filtered_in p ys z zs)
  where
    go : (b : Bool) → cond b (y ∷ filter p ys) (filter p ys) ≡ z ∷ zs → (filter p ys ≡ z ∷ zs → Contains ys z)
        → Contains (y ∷ ys) z
    go true e f = let same : y ≡ z = cc in subst (λ x. Contains (y ∷ ys) x) same (here y ys)
    go false e f = later y ys z (f e)

same_rest : {X : Type 0} (b : Bool) (y : X) (us vs : List X) → cond b (y ∷ us) us ≡ cond b (y ∷ vs) vs → us ≡ vs
same_rest true y us vs h = cc
same_rest false y us vs h = h

-- two tests that are not both passed commute
apart : {X : Type 0} (b c : Bool) (x y : X) (zs : List X) → (b ≡ true → c ≡ true → ⊥)
    → cond c (y ∷ cond b (x ∷ zs) zs) (cond b (x ∷ zs) zs) ≡ cond b (x ∷ cond c (y ∷ zs) zs) (cond c (y ∷ zs) zs)
apart true true x y zs n = absurd (n refl refl)
apart true false x y zs n = refl
apart false true x y zs n = refl
apart false false x y zs n = refl

module _ {X : Type 0} (lt : X → X → Bool) (o : IsStrictWeakOrder lt) where
  not_below_itself : (x : X) → lt x x ≡ false
  not_below_itself x = go (lt x x) refl
    where
      go : (b : Bool) → lt x x ≡ b → b ≡ false
      go true e = absurd (false≢true (sym (o.one_way x x e) ∙ e))
      go false e = refl

  ties_with : (x y : X) → lt x y ≡ false → lt y x ≡ false → ties lt x y ≡ true
  ties_with x y a b = rw (a, b) refl

  ties_itself : (x : X) → ties lt x x ≡ true
  ties_itself x = ties_with x x (not_below_itself x) (not_below_itself x)

  least : (y : X) (ys : List X) → IsSortedBy lt (y ∷ ys) → (z : X) → Contains (y ∷ ys) z → lt z y ≡ false
  least y ys up z c = subst (λ x. lt x y ≡ false) c.2 (sorted_far lt o (y ∷ ys) up 0 c.0 z (omega arith) c.1)

  rest_sorted : (y : X) (ys : List X) → IsSortedBy lt (y ∷ ys) → IsSortedBy lt ys
  rest_sorted y ys up k d l h =
      let e : suc k + 1 ≡ suc (k + 1) = omega arith in
      subst (λ n. lt (get_or (y ∷ ys) n d) (get_or ys k d) ≡ false) e (up (suc k) d (omega arith) (omega (arith, h)))

  -- a list in order is known by its classes of equal keys
  one_order : (ys zs : List X) → IsSortedBy lt ys → IsSortedBy lt zs
      → ((a : X) → filter (ties lt a) ys ≡ filter (ties lt a) zs) → ys ≡ zs
  one_order [] [] s t h = refl
  one_order [] (z ∷ zs) s t h = let e = rw (ties_itself z) at (h z) in cc
  one_order (y ∷ ys) [] s t h = let e = rw (ties_itself y) at (h y) in cc
  one_order (y ∷ ys) (z ∷ zs) s t h =
      let ez : filter (ties lt z) (y ∷ ys) ≡ z ∷ filter (ties lt z) zs = h z
      ∙ ap (λ b. cond b (z ∷ filter (ties lt z) zs) (filter (ties lt z) zs)) (ties_itself z) in
      let ey : filter (ties lt y) (z ∷ zs) ≡ y ∷ filter (ties lt y) ys = sym (h y)
      ∙ ap (λ b. cond b (y ∷ filter (ties lt y) ys) (filter (ties lt y) ys)) (ties_itself y) in
      let a = least y ys s z (filtered_in (ties lt z) (y ∷ ys) z _ ez) in
      let b = least z zs t y (filtered_in (ties lt y) (z ∷ zs) y _ ey) in
      let both : z ∷ filter (ties lt y) zs ≡ y ∷ filter (ties lt y) ys =
      sym (ap (λ q. cond q (z ∷ filter (ties lt y) zs) (filter (ties lt y) zs)) (ties_with y z b a)) ∙ ey in
      let same : z ≡ y = cc in
      let rest : (x : X) → filter (ties lt x) ys ≡ filter (ties lt x) zs = λ x.
      same_rest (ties lt x y) y (filter (ties lt x) ys) (filter (ties lt x) zs) (h x
      ∙ ap (λ q. cond (ties lt x q) (q ∷ filter (ties lt x) zs) (filter (ties lt x) zs)) same) in
      let tails : ys ≡ zs = one_order ys zs (rest_sorted y ys s) (rest_sorted z zs t) rest in
      cc

  -- the head is not above what follows
  abbrev IsHead : X → List X → Type 0
  IsHead y zs = (d : X) → 0 < length zs → lt (get_or zs 0 d) y ≡ false

  sorted_cons : (y : X) (zs : List X) → IsHead y zs → IsSortedBy lt zs → IsSortedBy lt (y ∷ zs)
  sorted_cons y zs h up zero d l m = h d (omega (arith, m))
  sorted_cons y zs h up (suc k) d l m =
      let e : suc (k + 1) ≡ suc k + 1 = omega arith in
      subst (λ n. lt (get_or (y ∷ zs) n d) (get_or zs k d) ≡ false) e (up k d (omega arith) (omega (arith, m)))

  head_of : (y : X) (ys : List X) → IsSortedBy lt (y ∷ ys) → IsHead y ys
  head_of y ys up d l = up 0 d (omega arith) (omega (arith, l))

  inserted_head : (y x : X) (ys : List X) → lt x y ≡ false → IsHead y ys → IsHead y (insert_by lt x ys)
  inserted_head y x [] e h d l = e
  inserted_head y x (z ∷ zs) e h d l = go (lt z x)
    where
      go : (b : Bool) → lt (get_or (cond b (z ∷ insert_by lt x zs) (x ∷ z ∷ zs)) 0 d) y ≡ false
      go true = h d (omega arith)
      go false = e

  insert_sorted : (x : X) (ys : List X) → IsSortedBy lt ys → IsSortedBy lt (insert_by lt x ys)
  insert_sorted x [] up = sorted_cons x [] (λ d l. absurd (omega (arith, l))) up
  insert_sorted x (y ∷ ys) up = go (lt y x) refl (insert_sorted x ys (rest_sorted y ys up))
    where
      go : (b : Bool) → lt y x ≡ b → IsSortedBy lt (insert_by lt x ys)
          → IsSortedBy lt (cond b (y ∷ insert_by lt x ys) (x ∷ y ∷ ys))
      go true e rest = sorted_cons y (insert_by lt x ys) (inserted_head y x ys (o.one_way y x e) (head_of y ys up)) rest
      go false e rest = sorted_cons x (y ∷ ys) (λ d l. e) up

  -- of two with equal keys as a, neither is below the other
  not_both : (a x y : X) → lt y x ≡ true → ties lt a x ≡ true → ties lt a y ≡ true → ⊥
  not_both a x y e tx ty =
      let ax = not-true (lt a x) (and_parts (not (lt a x)) (not (lt x a)) tx).0 in
      let ya = not-true (lt y a) (and_parts (not (lt a y)) (not (lt y a)) ty).1 in
      false≢true (sym (o.chain y a x ya ax) ∙ e)

  insert_stable : (a x : X) (ys : List X) → filter (ties lt a) (insert_by lt x ys) ≡ filter (ties lt a) (x ∷ ys)
  insert_stable a x [] = refl
  insert_stable a x (y ∷ ys) = go (lt y x) refl (insert_stable a x ys)
    where
      go : (b : Bool) → lt y x ≡ b → filter (ties lt a) (insert_by lt x ys) ≡ filter (ties lt a) (x ∷ ys)
          → filter (ties lt a) (cond b (y ∷ insert_by lt x ys) (x ∷ y ∷ ys)) ≡ filter (ties lt a) (x ∷ y ∷ ys)
      go true e rest =
          ap (λ zs. cond (ties lt a y) (y ∷ zs) zs) rest
          ∙ apart (ties lt a x) (ties lt a y) x y (filter (ties lt a) ys) (not_both a x y e)
      go false e rest = refl

  is_sorted : (xs : List X) → IsSortedBy lt (sort_by lt xs)
  unfolding sort_by
  is_sorted [] = λ k d l h. absurd (omega (arith, h))
  is_sorted (x ∷ xs) = insert_sorted x (sort_by lt xs) (is_sorted xs)

  is_stable : (xs : List X) (a : X) → filter (ties lt a) (sort_by lt xs) ≡ filter (ties lt a) xs
  unfolding sort_by
  is_stable [] a = refl
  is_stable (x ∷ xs) a = insert_stable a x (sort_by lt xs) ∙ ap (λ zs. cond (ties lt a x) (x ∷ zs) zs) (is_stable xs a)

  sort_is_ordered : (xs : List X) → IsOrdered lt xs (sort_by lt xs)
  sort_is_ordered xs = record { sorted = is_sorted xs; stable = is_stable xs }

  pub ordered_once : (xs ys : List X) → IsOrdered lt xs ys ↔ ys ≡ sort_by lt xs
  ordered_once xs ys = (
    λ r. one_order ys (sort_by lt xs) r.sorted (is_sorted xs) (λ a. r.stable a ∙ sym (is_stable xs a)),
    λ e. subst (λ zs. IsOrdered lt xs zs) (sym e) (sort_is_ordered xs),
  )

ranks : (sort : Option Sort) → IsStrictWeakOrder (below sort)
ranks None = record { one_way = λ x y h. absurd (false≢true h); chain = λ x y z h k. refl }
ranks (Some ByName) = ranks_by nat_list_cmp_total (λ (s : Piece). s.name)
ranks (Some ByAlignment) = IsStrictWeakOrder-flip _ (IsStrictWeakOrder-by_number piece_alignment)

pub row_by_order : (sort : Option Sort) (xs ys : List Piece) → IsOrdered (below sort) xs ys ↔ ys
    ≡ sort_by (below sort) xs
row_by_order sort = ordered_once (below sort) (ranks sort)
