use Rattle.relink_driver.proofs.Common.{ap, arith, err_from_is_err_and, files_of, held, length, sym, ◌∙◌, ◌∷◌, ◌≡◌}
use Rattle.std.specs.Vec.Iter.{into_iter_items}
use Rattle.relink_driver.proofs.Courses.{ending, none_left, stepped, stopped}
use Rattle.relink_driver.proofs.from_files.add_all.Goals as goal

pub returns-in_err-add : goal.returns-in_err-add
returns-in_err-add c =
    let p = err_from_is_err_and c.from_residual.result c.from_residual.ensures.1 in
    let steps : into_iter_items c.loop-file.file-iterator ≡ c.in-Some.file ∷ into_iter_items c.next.new.self =
    c.in-Some.ensures.steps.0 in
    rw (p.1, p.2) (stopped (held c.add.new.project) _ c.loop-file.invariant.reached (ap files_of steps)
    c.in_err-add.ensures.refused)

pub loop-file-preserved : goal.loop-file-preserved
loop-file-preserved c =
    let at = c.loop-file in
    let steps : into_iter_items at.file-iterator ≡ c.in-Some.file ∷ into_iter_items c.next.new.self =
    c.in-Some.ensures.steps.0 in
    let fewer = c.in-Some.ensures.steps.1 in
    let short = ap length steps in
    let counted = at.invariant.counted in
    let exact = at.invariant.exact in
    record {
      next = tt;
      finite = tt;
      counted = omega arith;
      exact = omega arith;
      reached = stepped at.invariant.reached (ap files_of steps) c.in_ok-add.ensures.accepted;
    }

pub returns : goal.returns
returns c =
    let at = c.loop-file in
    let none = none_left (into_iter_items at.file-iterator) (sym at.invariant.exact ∙ c.in-None.ensures.steps.0) in
    ending at.invariant.reached (ap files_of none)
