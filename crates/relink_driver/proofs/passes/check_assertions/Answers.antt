use Rattle.relink_driver.proofs.Common.{IsPassEnd, Link, ap, assertion_faults, err_from_is_err_and, faults_in, good}
use Rattle.relink_driver.proofs.Common.{subst, sym, ◌∙◌}
use Rattle.relink_driver.proofs.passes.check_assertions.Goals as goal

pub returns-clause-good : goal.returns-clause-good
returns-clause-good c =
    let p = c.args.context.project.now in
    let h = c.requires.short.placed in
    let s = h.known.layout in
    record {
      filled = c.requires;
      rest = c.requires.rest
          ∙ c.in_ok-end_if_faulty.ensures.good (assertion_faults p s) (good p s)
          (ap (faults_in p) c.deref.ensures.value ∙ c.in_ok-faults.ensures s h.symbol_table h.known.link_layout
          h.values);
    }

pub returns-in_err-end_if_faulty-clause-stop : goal.returns-in_err-end_if_faulty-clause-stop
returns-in_err-end_if_faulty-clause-stop c =
    let p = c.args.context.project.now in
    let h = c.requires.short.placed in
    let s = h.known.layout in
    let e = err_from_is_err_and c.from_residual-in_err-end_if_faulty.result
    c.from_residual-in_err-end_if_faulty.ensures.1 in
    rw (e.1, e.2)
    (subst (λ (l : Link). IsPassEnd l c.in_err-end_if_faulty.field-0.0) (sym c.requires.rest)
    (c.in_err-end_if_faulty.ensures.stop (assertion_faults p s) (good p s)
    (ap (faults_in p) c.deref.ensures.value ∙ c.in_ok-faults.ensures s h.symbol_table h.known.link_layout
    h.values)))
