use Rattle.emit_relocate.proofs.Common.{Contains, Fields, HasField, List, Site, ap, arith, flat_map, good_link}
use Rattle.emit_relocate.proofs.Common.{has_new_value, in_filter, length, length_permutation, raised, sites, subst, ◌+◌}
use Rattle.emit_relocate.proofs.Common.{◌∙◌, ◌≡◌}
use Rattle.ldmodel.specs.Stayed.{retargeted}
use Rattle.ldmodel.specs.WorkBound.{sites_outside}
use Rattle.emit_relocate.proofs.Changing.{sites_of}
use Rattle.emit_relocate.proofs.Evaluations.{all_evaluated}
use Rattle.emit_relocate.proofs.Settling.{due_of_all, home, how_many, is_due, same_where}
use Rattle.emit_relocate.proofs.law.due_sites_count.Goals as goal

pub returns : goal.returns
returns c =
    λ old l range a b h complete before after placed.
    let new = good_link l in
    let by_piece = c.sites_by_piece.ensures.same l.project l.layout placed in
    let outside = length_permutation _ _ (c.stayed_by_part.ensures.outside old new placed) in
    let moved = length_permutation _ _
    (c.stayed_by_part.ensures.valued old new placed before after (has_new_value old l)
    (λ t among inside. same_where old l t))
    in
    let due = how_many old l range complete by_piece
    (λ x among. c.stayed_by_part.ensures.piece old new placed x among) h.sections h.each in
    let many : length (flat_map sites_of h.sections)
    ≡ length (sites_outside old new) + length (retargeted old new) = omega (arith, due, outside, moved) in
    let found : (t : Site) → Contains (flat_map sites_of h.sections) t → HasField new t = λ t inside.
    let at = home old l by_piece t
    ((in_filter (is_due old l) (sites l.project l.layout) t
    (subst (λ (ts : List Site). Contains ts t)
    (due_of_all old l range complete by_piece
    (λ x among. c.stayed_by_part.ensures.piece old new placed x among) h.sections h.each) inside)).0) in
    c.fields_in_image.ensures.found new after at.piece at.among t at.within
    in
    h.counts.counted ∙ ap (raised a.counts Fields) (all_evaluated l (flat_map sites_of h.sections) found ∙ many)
