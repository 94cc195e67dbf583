use Rattle.emit_relocate.proofs.Common.{IsSectionAddress, PlacedPiece, ap, option_map, subst, sym}
use Rattle.emit_relocate.proofs.name_row.start_at.Goals as goal

pub returns-in-None : goal.returns-in-None
returns-in-None c p s k h =
    sym (ap (option_map (λ (x : PlacedPiece). x.start)) (subst (IsSectionAddress p s k) c.in-None.is h))

pub returns-in-Some : goal.returns-in-Some
returns-in-Some c p s k h = sym ((subst (IsSectionAddress p s k) c.in-Some.is h).0)
