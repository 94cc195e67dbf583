-- What a stable sort of pieces makes of the pieces that they stand for.
use Rattle.gather.proofs.Common.{All, All-cons, All-head, All-nil, All-permutation, All-tail, Bool, Bor, Err}
use Rattle.gather.proofs.Common.{IsStrictWeakOrder, List, NamedPlace, Ok, OnOk, Option, Ordering, Orders, Project}
use Rattle.gather.proofs.Common.{Result, Sort, [], ap, arith, cond, false, filter, filter_agree, get_or, get_or-map}
use Rattle.gather.proofs.Common.{inl, inr, length, length-map, map, not, object_name, piece_in, refl, sym, true}
use Rattle.gather.proofs.Common.{true≢false, ℕ, ⊎_elim, ◌&&◌, ◌++◌, ◌+◌, ◌<◌, ◌↔◌, ◌∙◌, ◌∷◌, ◌≡◌, ◌⊎◌}
use Rattle.std.specs.List.Sorted.{IsPermutation, IsSortedBy, IsStableBy, IsSortedByClosure, IsStableByClosure, ties}
use Rattle.std.specs.Fn.{ComparesAs}
use denote.Param.Members.{Mut}
use Rattle.ldmodel.specs.Rows.{Piece, below}
use Rattle.ldmodel.specs.CodeValues.{piece_of}
use Rattle.ldmodel.specs.Sorting.{IsOrdered, sort_by}
use Rattle.ldmodel.specs.declared.rows.Piece as code
use Rattle.gather.specs.NamedPieces.{AreNamed, HasName, piece_at, pieces_at}

module _ {X Y : Type 0} (f : X → Y) (p : Y → Bool) where
  pub filter_of_map : (xs : List X) → filter p (map f xs) ≡ map f (filter (λ x. p (f x)) xs)
  filter_of_map [] = refl
  filter_of_map (x ∷ xs) = go (p (f x)) (filter_of_map xs)
    where
      go : (b : Bool) → filter p (map f xs) ≡ map f (filter (λ x. p (f x)) xs)
          → cond b (f x ∷ filter p (map f xs)) (filter p (map f xs))
          ≡ map f (cond b (x ∷ filter (λ x. p (f x)) xs) (filter (λ x. p (f x)) xs))
      go true e = ap (λ l. f x ∷ l) e
      go false e = e

-- a member passes a test, or none does
some_or_none : {X : Type 0} (test : X → Bool) (xs : List X) → ((x : X) × (test x ≡ true)) ⊎ All (λ x. test x ≡ false) xs
some_or_none test [] = inr (All-nil (λ x. test x ≡ false))
some_or_none {X} test (x ∷ xs) = go (test x) refl (some_or_none test xs)
  where
    go : (b : Bool) → test x ≡ b → ((x : X) × (test x ≡ true)) ⊎ All (λ x. test x ≡ false) xs
        → ((x : X) × (test x ≡ true)) ⊎ All (λ x. test x ≡ false) (x ∷ xs)
    go true e rest = inl (x, e)
    go false e (inl some) = inl some
    go false e (inr none) = inr (All-cons (λ x. test x ≡ false) x xs e none)

filter_none : {X : Type 0} (test : X → Bool) (xs : List X) → All (λ x. test x ≡ false) xs → filter test xs ≡ []
filter_none test [] none = refl
filter_none test (x ∷ xs) none =
    ap (λ b. cond b (x ∷ filter test xs) (filter test xs)) (All-head (λ x. test x ≡ false) x xs none)
    ∙ filter_none test xs (All-tail (λ x. test x ≡ false) x xs none)

both_false : (a b : Bool) → (not a && not b) ≡ true → (a ≡ false) × (b ≡ false)
both_false true b e = absurd (true≢false (sym e))
both_false false true e = absurd (true≢false (sym e))
both_false false false e = (refl, refl)

-- two that are false under the same conditions
same_false : (a b : Bool) → (a ≡ false → b ≡ false) → (b ≡ false → a ≡ false) → a ≡ b
same_false true true to from = refl
same_false true false to from = from refl
same_false false b to from = sym (to refl)

-- what ties with one of two that tie, ties with the other
tie_alike : {Y : Type 0} (lt : Y → Y → Bool) → IsStrictWeakOrder lt → (a b z : Y) → ties lt a b ≡ true
    → ties lt a z ≡ ties lt b z
tie_alike lt order a b z tied =
    let apart = both_false (lt a b) (lt b a) tied in
    ap (λ c. not c && not (lt z a))
    (same_false (lt a z) (lt b z) (order.chain b a z apart.1) (order.chain a b z apart.0))
    ∙ ap (λ c. not (lt b z) && not c)
    (same_false (lt z a) (lt z b) (λ h. order.chain z a b h apart.0) (λ h. order.chain z b a h apart.1))

-- a list that is sorted by what its members stand for
module _ {X Y : Type 0} (f : X → Y) (lt : Y → Y → Bool) where
  sorted_map : (ys : List X) → IsSortedBy (λ x y. lt (f x) (f y)) ys → IsSortedBy lt (map f ys)
  sorted_map [] up k d l h = absurd (omega (arith, h))
  sorted_map (y ∷ ys) up k d l h =
      let in_list : k + 1 < length (y ∷ ys) = omega (arith, length-map (y ∷ ys) f, h) in
      ap (λ x. lt x (get_or (map f (y ∷ ys)) k d)) (get_or-map f (y ∷ ys) (k + 1) y d in_list)
      ∙ ap (lt (f (get_or (y ∷ ys) (k + 1) y))) (get_or-map f (y ∷ ys) k y d (omega arith)) ∙ up k y l in_list

  stable_map : IsStrictWeakOrder lt → (xs ys : List X) → IsPermutation xs ys
      → IsStableBy (λ x y. lt (f x) (f y)) xs ys → IsStableBy lt (map f xs) (map f ys)
  stable_map order xs ys moved stable a =
      filter_of_map f (ties lt a) ys ∙ ap (map f) (⊎_elim some none (some_or_none test xs))
      ∙ sym (filter_of_map f (ties lt a) xs)
    where
      test : X → Bool
      test x = ties lt a (f x)

      some : (x : X) × (test x ≡ true) → filter test ys ≡ filter test xs
      some found =
          let alike : (z : X) → test z ≡ ties lt (f found.0) (f z) =
          λ z. tie_alike lt order a (f found.0) (f z) found.1 in
          filter_agree test (λ z. ties lt (f found.0) (f z)) alike ys ∙ stable found.0
          ∙ sym (filter_agree test (λ z. ties lt (f found.0) (f z)) alike xs)

      none : All (λ x. test x ≡ false) xs → filter test ys ≡ filter test xs
      none h = filter_none test ys (All-permutation (λ x. test x ≡ false) xs ys moved h)
          ∙ sym (filter_none test xs h)

abbrev pub OneOrder : Type 0
OneOrder = (sort : Option Sort) (pieces sorted : List Piece) → IsOrdered (below sort) pieces sorted ↔ sorted
    ≡ sort_by (below sort) pieces

-- members that stand for pieces, and a sort of them by a closure that compares as a sort of the pieces does
module _ {X : Type 0} (f : X → Piece) (law : OneOrder) (sort : Option Sort)
    (order : IsStrictWeakOrder (below sort)) where
  -- which of two the sort puts first
  abbrev pub below_by : X → X → Bool
  below_by x y = below sort (f x) (f y)

  -- the pieces are in the order of the sort
  pub ordered : {F : Type 0} {g : Mut F (Bor X × (Bor X × Unit {0})) Ordering} {c : F} (xs ys : List X)
      → ComparesAs g below_by c → IsPermutation xs ys → IsSortedByClosure g c ys → IsStableByClosure g c xs ys
      → map f ys ≡ sort_by (below sort) (map f xs)
  ordered xs ys compares moved sorted stable =
      let own : IsStrictWeakOrder below_by = record {
        one_way = λ x y. order.one_way (f x) (f y);
        chain = λ x y z. order.chain (f x) (f y) (f z);
      } in
      (law sort (map f xs) (map f ys)).0
      (record {
        sorted = sorted_map f (below sort) ys (sorted below_by own compares);
        stable = stable_map f (below sort) order xs ys moved (stable below_by own compares);
      })

  pub ordered_if : {F : Type 0} {g : Mut F (Bor X × (Bor X × Unit {0})) Ordering} {c : F} {T E : Type 0}
      (r : Result T E) (xs ys : List X) → ComparesAs g below_by c → IsPermutation xs ys
      → OnOk r (IsSortedByClosure g c ys) → IsStableByClosure g c xs ys
      → OnOk r (map f ys ≡ sort_by (below sort) (map f xs))
  ordered_if (Ok x) xs ys compares moved sorted stable = ordered xs ys compares moved sorted stable
  ordered_if (Err e) xs ys compares moved sorted stable = tt

-- a piece with a name beside its place, as the piece of that name
abbrev pub named_in : Project → List ℕ → List code.Piece → NamedPlace → Piece
named_in p start xs x = piece_of (object_name p) (λ _. start ++ x.name) (piece_at xs x)

-- where the names are right, they are the pieces alone
pub as_pieces : (p : Project) (start : List ℕ) (xs : List code.Piece) (places : List NamedPlace)
    → All (HasName p start xs) places → map (named_in p start xs) places ≡ map (piece_in p) (pieces_at xs places)
as_pieces p start xs [] are = refl
as_pieces p start xs (x ∷ places) are =
    ap (λ (name : List ℕ). piece_of (object_name p) (λ _. name) (piece_at xs x) ∷ map (named_in p start xs) places)
    (All-head (HasName p start xs) x places are).name
    ∙ ap (λ l. piece_in p (piece_at xs x) ∷ l)
    (as_pieces p start xs places (All-tail (HasName p start xs) x places are))

-- places with names, put in an order of the pieces and names there, are of the pieces in that order
pub ordered_named : (p : Project) (start : List ℕ) (sort : Option Sort) (xs : List code.Piece)
    (places sorted : List NamedPlace) → AreNamed p start xs places → IsPermutation places sorted
    → map (named_in p start xs) sorted ≡ sort_by (below sort) (map (named_in p start xs) places)
    → Orders p sort xs (pieces_at xs sorted)
ordered_named p start sort xs places sorted are moved order =
    sym (as_pieces p start xs sorted (All-permutation (HasName p start xs) places sorted moved are.names))
    ∙ (order
    ∙ ap (sort_by (below sort)) (as_pieces p start xs places are.names ∙ ap (map (piece_in p)) are.pieces))

pub all_within : (p : Project) (start : List ℕ) (xs : List code.Piece) (places : List NamedPlace)
    → All (HasName p start xs) places → All (λ (x : NamedPlace). x.place < length xs) places
all_within p start xs places are k d l = (are k d l).within
