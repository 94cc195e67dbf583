use Rattle.relink_driver.proofs.Common.{IsPassEnd, ap, faults_in, gathering_faults, layout, link, name_faults, placed}
use Rattle.relink_driver.proofs.Common.{subst, sym, unless, ◌∙◌}
use Rattle.relink_driver.proofs.name_faults.name_fault_lines.Goals as goal

pub returns-in-Err-Faulty : goal.returns-in-Err-Faulty
unfolding link
returns-in-Err-Faulty c =
    let p = c.args.project.now in
    sym (subst (IsPassEnd (link p)) c.in-Err-Faulty.field-0-is
    (c.in-Err-Faulty.ensures.stop (name_faults p) (unless (gathering_faults p) (placed p (layout p)))
    (ap (faults_in p) c.deref.ensures.value ∙ c.in_ok-faults.ensures)))
