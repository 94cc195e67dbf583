use Rattle.relink_driver.proofs.Common.{GoodLink, HasTouched, IsNextLink, Option, PreviousState, Project}
use Rattle.relink_driver.proofs.Common.{ReplacedObjectState, Some, ap, arith, inr, previous_of, previous_state}
use Rattle.relink_driver.proofs.Common.{project_of, replaced_state, same_Some, subst, sym, true, ◌<◌, ◌^◌, ◌∙◌, ◌≡◌}
use Rattle.relink_driver.proofs.ObjectOverwritten.{no_fault, touched_work}
use Rattle.relink_driver.proofs.in_place.rewrite_if_only_contents_differ.Goals as goal

pub returns-in-Done-clause-done : goal.returns-in-Done-clause-done
returns-in-Done-clause-done c =
    let p : Project = project_of c.args.context in
    let x : PreviousState = previous_state c.in-Some.previous in
    let r : ReplacedObjectState = replaced_state c.in-Some-find_replaced.replaced in
    let f = c.in-Some-find_replaced.ensures.found in
    let names = c.inputs-inputs.ensures.distinct in
    let keeps = λ (o : GoodLink). c.outlines_decide.ensures o p r.new_place.0 in
    let last_is : previous_of c.args.context.previous ≡ Some x = ap previous_of c.in-Some.is in
    let pieces : c.args.meter.now.pieces < 2 ^ 64 = omega (arith, c.pieces-pieces.type_inv, c.pieces-pieces.ensures) in
    let made = c.in_ok-rewrite_object.ensures in
    subst (λ (l : Option PreviousState). HasTouched p l c.args.canvas.now.bytes c.rewrite_object.new.canvas.bytes
    c.args.meter.now c.rewrite_object.new.meter true) (sym last_is) (
      made.link c.in-Done.is,
      made.reads,
      touched_work p x r f names keeps c.args.meter.now c.rewrite_object.new.meter pieces (made.counted c.in-Done.is),
    )

pub returns-in-Faulty-clause-done : goal.returns-in-Faulty-clause-done
returns-in-Faulty-clause-done c =
    let made = c.in_ok-rewrite_object.ensures in
    (made.refused c.in-Faulty.is, inr (made.faulty c.in-Faulty.is, made.reads))

pub returns-in-Faulty-clause-passed : goal.returns-in-Faulty-clause-passed
returns-in-Faulty-clause-passed c = λ no can.
    no_fault (project_of c.args.context) can.good (c.in_ok-rewrite_object.ensures.faulty c.in-Faulty.is)

pub returns-in_default-find_replaced-clause-passed : goal.returns-in_default-find_replaced-clause-passed
returns-in_default-find_replaced-clause-passed c = λ no can.
    let p : Project = project_of c.args.context in
    let x : PreviousState = previous_state c.in-Some.previous in
    let same : can.before ≡ x = same_Some _ _ (sym can.was ∙ ap previous_of c.in-Some.is) in
    c.in_default-find_replaced.ensures.none can.replaced
    (subst (λ (y : PreviousState). IsNextLink y p can.replaced) same can.next)
