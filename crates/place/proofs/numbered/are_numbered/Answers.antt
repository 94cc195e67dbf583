use Rattle.place.proofs.Common.{Each, EachLater, InputObject, LinkedSection, NamedObject, add-one, arith, each_into_map}
use Rattle.place.proofs.Common.{false, shown_input, subst, sym, take, take_all, ◌==◌, ◌≡◌}
use Rattle.place.proofs.Ascending.{each_more}
use Rattle.place.proofs.numbered.are_numbered.Goals as goal

abbrev HasNumbers : NamedObject → Type 0
HasNumbers o = EachLater (λ (x y : LinkedSection). (x.number.0 == y.number.0) ≡ false) o.object.sections

pub loop-input-preserved : goal.loop-input-preserved
loop-input-preserved c =
    let xs = c.inputs-input-items.result.now in
    let n = c.loop-input.input-index in
    subst (λ k. Each (λ (x : InputObject). HasNumbers (shown_input x)) (take k xs)) (sym (add-one n))
    (each_more (λ (x : InputObject). HasNumbers (shown_input x)) xs n c.input-item.result c.loop-input-test.true
    c.input-item.is c.loop-input.invariant c.sections_differ.ensures)

pub returns : goal.returns
returns c =
    let xs = c.inputs-input-items.result.now in
    let all : take c.loop-input.input-index xs ≡ xs = take_all _ xs (omega (arith, c.loop-input-test.false)) in
    subst (Each HasNumbers) c.inputs-input-items.ensures.same
    (each_into_map HasNumbers shown_input xs
    (subst (Each (λ (x : InputObject). HasNumbers (shown_input x))) all c.loop-input.invariant))
