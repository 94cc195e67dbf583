-- The groups of the code, from the first output section to the last, are those of the definition.
use Rattle.place.proofs.Common.{Bool, Current, List, None, PlacedOutput, [], ap, append_assoc, extended, false, groups}
use Rattle.place.proofs.Common.{groups_after, groups_from, if◌then◌else◌, refl, single, sym, true, ◌++◌, ◌∙◌, ◌∷◌, ◌≡◌}
use Rattle.ldmodel.specs.Segments.{Group, group_sections, shares_segment, with_front}

-- a group that may go on, before the groups of those after it
abbrev continue : Current → List Group → List Group
continue c [] = c.group ∷ []
continue c (g ∷ gs) =
    if shares_segment c.last g.first then record {
      first = c.group.first;
      others = c.group.others
          ++ group_sections g;
    } ∷ gs
    else (c.group ∷ g ∷ gs)

abbrev joint : PlacedOutput → Group → Group
joint q g = record { first = q; others = group_sections g }

-- the same with one more section before those groups
over_front : (c : Current) (q : PlacedOutput) (gs : List Group)
    → continue c (with_front q gs)
    ≡ (if shares_segment c.last q then continue (record { group = extended c.group q; last = q }) gs
    else (c.group ∷ continue (record { group = single q; last = q }) gs))
over_front c q [] = refl
over_front c q (g ∷ gs) = by_case (shares_segment q g.first) where
  by_case : (b : Bool) → continue c (if b then joint q g ∷ gs else (single q ∷ g ∷ gs))
      ≡ (if shares_segment c.last q
      then (if b then record {
        first = c.group.first;
        others = (c.group.others ++ q ∷ [])
            ++ group_sections g;
      } ∷ gs else
      (extended c.group q ∷ g ∷ gs))
      else (c.group ∷ (if b then joint q g ∷ gs else (single q ∷ g ∷ gs))))
  by_case true =
      ap (λ (o : List PlacedOutput).
      if shares_segment c.last q then record {
        first = c.group.first;
        others =
            o;
      } ∷ gs else (c.group ∷ joint q g ∷ gs))
      (sym (append_assoc c.group.others (q ∷ []) (group_sections g)))
  by_case false = refl

pub after_is : (c : Current) (qs : List PlacedOutput) → groups_after c qs ≡ continue c (groups qs)
unfolding groups_after groups
after_is c [] = refl
after_is c (q ∷ qs) =
    ap (λ (x : List Group).
    if shares_segment c.last q then x else (c.group ∷ groups_after (record { group = single q; last = q }) qs))
    (after_is (record { group = extended c.group q; last = q }) qs)
    ∙ ap (λ (x : List Group).
    if shares_segment c.last q then continue (record { group = extended c.group q; last = q }) (groups qs) else
    (c.group ∷ x))
    (after_is (record { group = single q; last = q }) qs)
    ∙ sym (over_front c q (groups qs))

-- a section in front begins a group
front_is : (q : PlacedOutput) (gs : List Group) → continue (record { group = single q; last = q }) gs ≡ with_front q gs
front_is q [] = refl
front_is q (g ∷ gs) = refl

pub from_none : (qs : List PlacedOutput) → groups qs ≡ groups_from None qs
unfolding groups_from groups
from_none [] = refl
from_none (q ∷ qs) = sym (after_is (record { group = single q; last = q }) qs ∙ front_is q (groups qs))
