use Rattle.place_terms.proofs.Common.{arith, length, sym, ◌<◌, ◌≤◌}
use Rattle.place_terms.proofs.Marking.{marks_there, marks_past, marks_unknown}
use Rattle.place_terms.proofs.provided.mark.Goals as goal

pub returns-then-place-len : goal.returns-then-place-len
returns-then-place-len c =
    let l : c.in-Some.place < length c.args.in_force.now.items = omega (arith, c.len.ensures) in
    marks_there c.args.script.now c.args.in_force.now.items c.args.name.now c.in-Some.place (sym c.in-Some.ensures) l

pub returns-else-place-len : goal.returns-else-place-len
returns-else-place-len c =
    let l : length c.args.in_force.now.items ≤ c.in-Some.place = omega (arith, c.len.ensures) in
    marks_past c.args.script.now c.args.in_force.now.items c.args.name.now c.in-Some.place (sym c.in-Some.ensures) l

pub returns-in_default : goal.returns-in_default
returns-in_default c =
    marks_unknown c.args.script.now c.args.in_force.now.items c.args.name.now (sym c.in_default.ensures)
