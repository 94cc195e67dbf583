use Rattle.symres_table.proofs.Common.{arith, eqb-false, eqb-true, get_or, length, rules, sym, ◌<◌, ◌≡◌}
use Rattle.symres_table.proofs.Finding.{found_here, found_other, found_past}
use Rattle.symres_table.proofs.places.find.Goals as goal

pub returns-then-eq : goal.returns-then-eq
returns-then-eq c =
    let within : c.count_below-number.result < length c.args.places.now = search rules in
    let is : c.in-Some.place.now ≡ get_or c.args.places.now c.count_below-number.result c.in-Some.place.now =
    search rules in
    found_here c.args.places.now c.args.key.0 c.count_below-number.result c.in-Some.place.now
    c.count_below-number.ensures within is (eqb-true _ _ (sym c.if-eq.ensures))

pub returns-else-eq : goal.returns-else-eq
returns-else-eq c =
    let within : c.count_below-number.result < length c.args.places.now = search rules in
    let is : c.in-Some.place.now ≡ get_or c.args.places.now c.count_below-number.result c.in-Some.place.now =
    search rules in
    found_other c.args.places.now c.args.key.0 c.count_below-number.result c.in-Some.place.now c.requires
    c.count_below-number.ensures within is (eqb-false _ _ (sym c.if-eq.ensures))

pub returns-in-None : goal.returns-in-None
returns-in-None c = found_past c.args.places.now c.args.key.0 c.count_below-number.result c.count_below-number.ensures
    (omega (arith, c.in-None.ensures.lookup))
