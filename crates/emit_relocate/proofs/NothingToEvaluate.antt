-- A section of an object of which nothing is to be evaluated.
use Rattle.emit_relocate.proofs.Common.{Adds, FileRange, GoodLink, InTable, IsAbsentAt, IsEvaluatedOf, IsFoundStayed}
use Rattle.emit_relocate.proofs.Common.{IsSome, KnownLink, NeedsNoEvaluation, ObjectPlace, ObjectSection, Option}
use Rattle.emit_relocate.proofs.Common.{PlacedPiece, Results, SectionRef, Some, ap, is_some, placed_part, refl}
use Rattle.emit_relocate.proofs.Common.{section_ref, sym, ⊎_elim, ◌<◌, ◌^◌, ◌∙◌, ◌≡◌}
use Rattle.std.proofs.Common.{None}
use Rattle.emit_relocate.proofs.Changing.{known_as, retained, retained_as}
use Rattle.emit_relocate.proofs.Filling.{none_in, renewed_none, start_is}
use Rattle.emit_relocate.proofs.Moving.{moved_in_none}

pub settled_added : (old : GoodLink) (l : KnownLink) (range : SectionRef → Option FileRange) (s : ObjectSection)
    → NeedsNoEvaluation old l range s.object → (a : Results) → a.counts.fields < 2 ^ 64
    → Adds l (IsEvaluatedOf old l range s) a a
settled_added old l range s is a h = ⊎_elim stayed out (is.wholly_stayed s.section.number)
  where
    stayed : IsFoundStayed old l range (section_ref is.place s) → Adds l (IsEvaluatedOf old l range s) a a
    stayed known =
        retained_as old l range s is.place is.named known a a (λ r kept.
        retained old l range s (section_ref is.place s) r a a kept.stayed refl refl
        (moved_in_none old l s is.place is.named (is.values (_, known.known)) r a.patches a.faults a.counts h))

    out : IsAbsentAt l range (section_ref is.place s) → Adds l (IsEvaluatedOf old l range s) a a
    out absent =
        known_as old l range s is.place is.named None (sym absent.unknown) a a
        (renewed_none l s
        (none_in (placed_part l.layout s.object.name (InTable s.section.number))
        (sym absent.absent ∙ start_is l s is.place is.named)) a h)
