use Rattle.relink_driver.proofs.Common.{IsPassEnd, Link, ap, err_from_is_err_and, faults_in, gathering_faults, layout}
use Rattle.relink_driver.proofs.Common.{map, placed, subst, sym, ◌∙◌}
use Rattle.ldmodel.specs.declared.fault.Fault.TheVariants.{Orphan}
use Rattle.relink_driver.proofs.EarlyEnds.{orphans_as_faults}
use Rattle.relink_driver.proofs.passes.gather_inputs.Goals as goal

pub returns-clause-rest : goal.returns-clause-rest
returns-clause-rest c =
    let p = c.args.context.project.now in
    let keys = c.in_ok-gathering.gathering.orphans.items in
    c.requires.rest
    ∙ c.in_ok-end_if_faulty.ensures.good (gathering_faults p) (placed p (layout p))
    (ap (faults_in p) (c.deref-2.ensures.value ∙ (c.in_ok-faults.ensures ∙ ap (map Orphan) c.deref.ensures.value))
    ∙ (orphans_as_faults p keys ∙ c.in_ok-gathering.ensures.orphans))

pub returns-in_err-end_if_faulty-clause-stop : goal.returns-in_err-end_if_faulty-clause-stop
returns-in_err-end_if_faulty-clause-stop c =
    let p = c.args.context.project.now in
    let keys = c.in_ok-gathering.gathering.orphans.items in
    let e = err_from_is_err_and c.from_residual-in_err-end_if_faulty.result
    c.from_residual-in_err-end_if_faulty.ensures.1 in
    rw (e.1, e.2)
    (subst (λ (l : Link). IsPassEnd l c.in_err-end_if_faulty.field-0.0) (sym c.requires.rest)
    (c.in_err-end_if_faulty.ensures.stop (gathering_faults p) (placed p (layout p))
    (ap (faults_in p) (c.deref-2.ensures.value ∙ (c.in_ok-faults.ensures ∙ ap (map Orphan) c.deref.ensures.value))
    ∙ (orphans_as_faults p keys ∙ c.in_ok-gathering.ensures.orphans))))
