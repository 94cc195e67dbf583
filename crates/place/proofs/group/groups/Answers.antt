-- One step a section; in the end all of them are in groups.
use Rattle.place.proofs.Common.{AllZip, Grouped, IsGroup, None, [], groups, nonempty, subst, sym}
use Rattle.place.proofs.Steps.{at_end, last_left, none_left, starts, take_at}
use Rattle.place.proofs.group.groups.Goals as goal

pub loop-number-init : goal.loop-number-init
loop-number-init c s same = subst (λ l. Grouped s s l None) (sym c.new.ensures.items) (starts s)

pub loop-number-preserved : goal.loop-number-preserved
loop-number-preserved c s same =
    take_at s c.args.sections.now c.loop-number.number _ c.loop-number.grouping.done.items c.take.new.self.done.items
    c.loop-number.grouping.running c.take.new.self.running same c.loop-number-test.true (c.in_ok-take.ensures)
    (c.loop-number.invariant s same)

pub returns-in_ok-push-in-Some : goal.returns-in_ok-push-in-Some
returns-in_ok-push-in-Some c s same =
    subst (λ l. AllZip (IsGroup s) (groups (nonempty s)) l) (sym (c.in_ok-push-in-Some.ensures.items))
    (last_left s c.loop-number.grouping.done.items c.in-Some.running
    (subst (λ r. Grouped s [] c.loop-number.grouping.done.items r) c.in-Some.is
    (at_end s c.args.sections.now c.loop-number.number c.loop-number.grouping.done.items c.loop-number.grouping.running
    same c.loop-number-test.false (c.loop-number.invariant s same))))

pub returns-in-None : goal.returns-in-None
returns-in-None c s same =
    none_left s c.loop-number.grouping.done.items
    (subst (λ r. Grouped s [] c.loop-number.grouping.done.items r) c.in-None.is
    (at_end s c.args.sections.now c.loop-number.number c.loop-number.grouping.done.items c.loop-number.grouping.running
    same c.loop-number-test.false (c.loop-number.invariant s same)))
