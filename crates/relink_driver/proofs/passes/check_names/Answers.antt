use Rattle.relink_driver.proofs.Common.{ap, err_from_is_err_and, faults_in, gathering_faults, layout, link, name_faults}
use Rattle.relink_driver.proofs.Common.{placed, unless, ◌∙◌}
use Rattle.relink_driver.proofs.passes.check_names.Goals as goal

pub returns-clause-rest : goal.returns-clause-rest
unfolding link
returns-clause-rest c =
    let p = c.args.context.project.now in
    c.in_ok-end_if_faulty.ensures.good (name_faults p) (unless (gathering_faults p) (placed p (layout p)))
    (ap (faults_in p) c.deref.ensures.value ∙ c.in_ok-faults.ensures)

pub returns-in_err-end_if_faulty-clause-stop : goal.returns-in_err-end_if_faulty-clause-stop
unfolding link
returns-in_err-end_if_faulty-clause-stop c =
    let p = c.args.context.project.now in
    let e = err_from_is_err_and c.from_residual-in_err-end_if_faulty.result
    c.from_residual-in_err-end_if_faulty.ensures.1 in
    rw (e.1, e.2)
    (c.in_err-end_if_faulty.ensures.stop (name_faults p) (unless (gathering_faults p) (placed p (layout p)))
    (ap (faults_in p) c.deref.ensures.value ∙ c.in_ok-faults.ensures))
