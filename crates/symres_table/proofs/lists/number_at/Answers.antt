use Rattle.symres_table.proofs.Common.{IsNamed, ap, arith, false, get_or, is_local, length, refl, slice_range, subst}
use Rattle.symres_table.proofs.Common.{sym, ◌<◌, ◌∙◌, ◌≡◌}
use Rattle.symres_table.proofs.Naming.{nothing, visible_is}
use Rattle.symres_table.proofs.Spelling.{name_is}
use Rattle.symres_table.proofs.lists.number_at.Goals as goal

pub returns-then-is_same_span : goal.returns-then-is_same_span
returns-then-is_same_span c = λ names a d.
    let xs = c.args.object.now.symbols in
    let s = get_or c.args.list.now c.args.at nothing in
    let lt : c.args.at < length c.args.list.now = omega (arith, c.if-at-list.false) in
    let of = a c.args.at nothing lt in
    let seen : is_local s.symbol.binding ≡ false = visible_is (is_local s.symbol.binding) c.if-is_visible.ensures in
    let same : c.name_place-place.result ≡ c.name_place.result = c.if-is_same_span.ensures refl in
    let here = name_is xs s.number _ d c.name_place-place.ensures of.0 in
    let there = name_is xs c.args.number _ d c.name_place.ensures c.requires.within in
    subst (IsNamed names s.name)
    (here ∙ ap (λ p. slice_range c.args.object.now.text p.start p.end) same ∙ sym there) (of.1 seen d)
