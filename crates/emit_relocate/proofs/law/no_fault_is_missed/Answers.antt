use Rattle.emit_relocate.proofs.Common.{ap, faults_of, good_link, ◌++◌, ◌∙◌}
use Rattle.emit_relocate.proofs.Settling.{faults_of_all}
use Rattle.emit_relocate.proofs.law.no_fault_is_missed.Goals as goal

pub returns : goal.returns
returns c =
    λ old l range a b h good read placed.
    let new = good_link l in
    h.counts.faults
    ∙ ap (λ fs. faults_of l a.faults ++ fs)
    (faults_of_all old l range (c.sites_by_piece.ensures.same l.project l.layout placed) (λ x t among stays within same.
    c.unmoved_sites.ensures.found old new good read x t ((c.stayed_in_both.ensures.stayed old new x).1 (among, stays))
    within same) h.sections h.each)
