use Rattle.place_terms.proofs.Common.{arith, length, sym, ◌≤◌}
use Rattle.place_terms.proofs.Found.{freed_past}
use Rattle.place_terms.proofs.regions.Regions.free_from.Goals as goal

pub returns-else-number-len : goal.returns-else-number-len
returns-else-number-len c =
    let l : length c.self.inside.list.items ≤ c.in-Some.number = omega (arith, c.len.ensures) in
    let f = freed_past c.self.inside.script.now c.self.inside.list.items c.args.name.now
    (c.self.invariant c.if-self.true)
    c.in-Some.number c.args.next (sym c.in-Some.ensures) l in
    cc
