-- Keys of objects are one exactly where their names are one, which has bytes.
use Rattle.place.proofs.Common.{Bool, List, NamedObject, None, Option, Project, Some, [], ap, arith, both_ways}
use Rattle.place.proofs.Common.{bytes_eq, bytes_eq-Decides, cond, count_by, eq-eqb, eqb-true, length, object_name}
use Rattle.place.proofs.Common.{option_map_or, refl, slice_get, suc, sym, true, zero, ℕ, ◌<◌, ◌==◌, ◌∙◌, ◌∷◌, ◌≡◌, ◌≤◌}
use Rattle.std.proofs.lemmas.List.Sums.{sum_by-cons}
use Rattle.ldmodel.specs.Edits.{AreNamesDistinct, has_name}

module _ (p : NamedObject → Bool) where
  abbrev one_if : NamedObject → ℕ
  one_if o = cond (p o) 1 0

  one_here : (o : NamedObject) → p o ≡ true → one_if o ≡ 1
  one_here o e = ap (λ b. cond b 1 0) e

  -- a member that passes is counted
  counted : (xs : List NamedObject) (i : ℕ) (o : NamedObject) → slice_get xs i ≡ Some o → p o ≡ true
      → 1 ≤ count_by p xs
  counted [] i o at e = cc
  counted (x ∷ xs) zero o at e =
      let same : x ≡ o = cc in
      let one : one_if x ≡ 1 = one_here x (ap p same ∙ e) in
      omega (arith, sum_by-cons one_if x xs, one)
  counted (x ∷ xs) (suc i) o at e = omega (arith, sum_by-cons one_if x xs, counted xs i o at e)

  -- where one is counted at most, only one place has a member that passes
  one_place : (xs : List NamedObject) (i j : ℕ) (o u : NamedObject) → count_by p xs ≤ 1
      → slice_get xs i ≡ Some o → slice_get xs j ≡ Some u → p o ≡ true → p u ≡ true → i ≡ j
  one_place [] i j o u once at there e f = cc
  one_place (x ∷ xs) zero zero o u once at there e f = refl
  one_place (x ∷ xs) zero (suc j) o u once at there e f =
      let same : x ≡ o = cc in
      let one : one_if x ≡ 1 = one_here x (ap p same ∙ e) in
      absurd (omega (arith, sum_by-cons one_if x xs, one, counted xs j u there f))
  one_place (x ∷ xs) (suc i) zero o u once at there e f =
      let same : x ≡ u = cc in
      let one : one_if x ≡ 1 = one_here x (ap p same ∙ f) in
      absurd (omega (arith, sum_by-cons one_if x xs, one, counted xs i o at e))
  one_place (x ∷ xs) (suc i) (suc j) o u once at there e f =
      ap suc (one_place xs i j o u (omega (arith, sum_by-cons one_if x xs)) at there e f)

own_name : (name : List ℕ) (o : NamedObject) → o.name ≡ name → has_name name o ≡ true
own_name name o e = (bytes_eq-Decides o.name name).1 e

abbrev name_of : Option NamedObject → List ℕ
name_of o = option_map_or (λ (x : NamedObject). x.name) o []

pub same_key : (p : Project) → AreNamesDistinct p.objects → (i j : ℕ) → 0 < length (object_name p i)
    → (i == j) ≡ bytes_eq (object_name p i) (object_name p j)
same_key p distinct i j some =
    both_ways (i == j) (bytes_eq (object_name p i) (object_name p j))
    (λ e. (bytes_eq-Decides (object_name p i) (object_name p j)).1 (ap (object_name p) (eqb-true i j e)))
    (λ e. eq-eqb i j
    (go (slice_get p.objects i) refl (slice_get p.objects j) refl some
    ((bytes_eq-Decides (object_name p i) (object_name p j)).0 e)))
  where
    go : (a : Option NamedObject) → slice_get p.objects i ≡ a → (b : Option NamedObject) → slice_get p.objects j ≡ b
        → 0 < length (name_of a) → name_of a ≡ name_of b → i ≡ j
    go None at b there some e = let none : 0 < 0 = some in absurd (omega (arith, none))
    go (Some o) at None there some e =
        let none : length o.name ≡ 0 = ap length e in
        let more : 0 < length o.name = some in
        absurd (omega (arith, none, more))
    go (Some o) at (Some u) there some e =
        one_place (has_name o.name) p.objects i j o u (distinct o.name) at there (own_name o.name o refl)
        (own_name o.name u (sym e))
