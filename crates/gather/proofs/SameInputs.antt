-- Two scripts with the same input statements take the same sections.
use Rattle.gather.proofs.Common.{Bool, IsMatched, LinkedSection, List, Matches, NamedObject, None, Some, Statement, []}
use Rattle.gather.proofs.Common.{ap, cond, first_match, input_of, input_statements, length, length-map, map, nat_lt}
use Rattle.gather.proofs.Common.{not, position, position_or_len, refl, sym, takes, ℕ, ◌+◌, ◌∙◌, ◌∷◌, ◌≡◌}

-- the place of the first element that passes is that of the first one of the mapped list
place_of_mapped : {X Y : Type 0} (f : X → Y) (p : Y → Bool) (xs : List X)
    → position_or_len (λ x. p (f x)) xs ≡ position_or_len p (map f xs)
place_of_mapped f p [] = refl
place_of_mapped f p (x ∷ xs) = ap (λ n. cond (not (p (f x))) (1 + n) 0) (place_of_mapped f p xs)

first_of_mapped : {X Y : Type 0} (f : X → Y) (p : Y → Bool) (xs : List X)
    → position (λ x. p (f x)) xs ≡ position p (map f xs)
first_of_mapped f p xs =
    ap (λ n. cond (nat_lt n (length xs)) (Some n) None) (place_of_mapped f p xs)
    ∙ ap (λ n. cond (nat_lt (position_or_len p (map f xs)) n) (Some (position_or_len p (map f xs))) None)
    (sym (length-map xs f))

first_matches : (one other : List Statement)
    → map input_of (input_statements one) ≡ map input_of (input_statements other)
    → (file section : List ℕ) → first_match one file section ≡ first_match other file section
unfolding first_match
first_matches one other same file section =
    first_of_mapped input_of (takes file section) (input_statements one)
    ∙ ap (position (takes file section)) same
    ∙ sym (first_of_mapped input_of (takes file section) (input_statements other))

all_matches : (one other : List Statement) (file : List ℕ)
    → ((section : List ℕ) → first_match one file section ≡ first_match other file section)
    → (names : List (List ℕ)) → map (first_match one file) names ≡ map (first_match other file) names
all_matches one other file same [] = refl
all_matches one other file same (n ∷ ns) =
    ap (λ x. x ∷ map (first_match one file) ns) (same n)
    ∙ ap (λ xs. first_match other file n ∷ xs) (all_matches one other file same ns)

pub same_matches : (one other : List Statement)
    → map input_of (input_statements one) ≡ map input_of (input_statements other)
    → (object : NamedObject) (x : Matches) → IsMatched one object x → IsMatched other object x
same_matches one other same object x matched = record {
  linked = matched.linked
      ∙ all_matches one other object.name (first_matches one other same object.name)
      (map (λ (s : LinkedSection). s.name) object.object.sections);
  common = matched.common ∙ first_matches one other same object.name _;
  commons = matched.commons;
}
