use Rattle.emit_relocate.proofs.Common.{good_link, has_new_value}
use Rattle.emit_relocate.proofs.Patching.{all_patches, one_each}
use Rattle.emit_relocate.proofs.Settling.{same_where}
use Rattle.emit_relocate.proofs.law.patches_are_those_retargeted.Goals as goal

pub returns-clause-all : goal.returns-clause-all
returns-clause-all c =
    λ old l range a b h none complete profile sized placed.
    let new = good_link l in
    all_patches old l range complete (c.sites_by_piece.ensures.same l.project l.layout placed)
    (λ x t field within is. c.fields_in_image.ensures.wide new x t field within is)
    (λ x stays. (c.stayed_in_both.ensures.stayed old new x).0 stays) profile sized a b none h

pub returns-clause-exact : goal.returns-clause-exact
returns-clause-exact c =
    λ old l range a b h none complete profile filed before after placed.
    let new = good_link l in
    one_each old l range complete (c.sites_by_piece.ensures.same l.project l.layout placed)
    (λ x t field within is. c.fields_in_image.ensures.wide new x t field within is)
    (λ x among. c.stayed_by_part.ensures.piece old new placed x among) profile filed
    (λ x among t within. c.fields_in_image.ensures.found new after x among t within) a b none h
    (c.stayed_by_part.ensures.valued old new placed before after (has_new_value old l)
    (λ t among inside. same_where old l t))
