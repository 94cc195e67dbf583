-- Each case is a step of its own.
use Rattle.place.proofs.Common.{Some, Takes, subst, sym, ◌∙◌}
use Rattle.place.proofs.Steps.{take_begins, take_goes_on, take_ends}
use Rattle.place.proofs.group.Grouping.take.Goals as goal

pub returns-then-is_shared : goal.returns-then-is_shared
returns-then-is_shared c =
    subst (λ r. Takes c.args.self.now.done.items r c.args.number c.args.section.now c.args.self.now.done.items
    (Some (record { group = c.join.result; last = c.args.section.now }))) (sym c.in-Some.is)
    (take_goes_on c.args.self.now.done.items c.in-Some.running c.args.number c.args.section.now c.in_ok-number.number
    c.join.result c.in_ok-number.ensures.is c.if-section-eq0.false c.join.ensures (sym c.is_shared.ensures
    ∙ c.if-is_shared.true))

pub returns-in_ok-push-in-Some : goal.returns-in_ok-push-in-Some
returns-in_ok-push-in-Some c =
    subst (λ r. Takes c.args.self.now.done.items r c.args.number c.args.section.now c.push.new.list.items
    (Some (record { group = c.begin.result; last = c.args.section.now }))) (sym c.in-Some.is)
    (subst (λ l. Takes c.args.self.now.done.items (Some c.in-Some.running) c.args.number c.args.section.now l
    (Some (record { group = c.begin.result; last = c.args.section.now }))) (sym (c.in_ok-push-in-Some.ensures.items))
    (take_ends c.args.self.now.done.items c.in-Some.running c.args.number c.args.section.now c.in_ok-number.number
    c.begin.result c.in_ok-number.ensures.is c.if-section-eq0.false c.begin.ensures (sym c.is_shared.ensures
    ∙ c.if-is_shared.false)))

pub returns-in-None : goal.returns-in-None
returns-in-None c =
    subst (λ r. Takes c.args.self.now.done.items r c.args.number c.args.section.now c.args.self.now.done.items
    (Some (record { group = c.begin-in-None.result; last = c.args.section.now }))) (sym c.in-None.is)
    (take_begins c.args.self.now.done.items c.args.number c.args.section.now c.in_ok-number.number
    c.begin-in-None.result c.in_ok-number.ensures.is c.if-section-eq0.false c.begin-in-None.ensures)
