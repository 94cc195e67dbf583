use Rattle.emit_relocate.proofs.Common.{good_link}
use Rattle.emit_relocate.proofs.Patching.{each_patch}
use Rattle.emit_relocate.proofs.law.patches_are_fields.Goals as goal

pub returns : goal.returns
returns c =
    λ old l range a b h none profile placed.
    each_patch old l range (c.sites_by_piece.ensures.same l.project l.layout placed)
    (λ x among stays. (c.stayed_in_both.ensures.stayed old (good_link l) x).1 (among, stays)) profile a b none h
