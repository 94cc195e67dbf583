-- One output section a step.
use Rattle.emit.proofs.Common.{AllZip-long, AreDrawnOf, IsOutput, arith, subst, sym, take, take_all}
use Rattle.emit.proofs.Joining.{drawn_all}
use Rattle.emit.proofs.Lists.{next_zip}
use Rattle.emit.proofs.parts.lend_sections.Goals as goal

pub loop-output-preserved : goal.loop-output-preserved
loop-output-preserved c p s stays outputs =
    let k = c.loop-output.output-index in
    let next = next_zip (IsOutput p s stays) s.sections c.args.outputs.now k c.output-item.result outputs
    (omega (arith, c.loop-output-test.true)) (sym c.output-item.is) in
    subst (λ qs. AreDrawnOf p s stays qs c.add_section.new.sections.items) (sym next.taken)
    (c.in_ok-add_section.ensures p s stays next.member (take k s.sections) next.is
    (c.loop-output.invariant p s stays outputs))

pub returns : goal.returns
returns c p s stays named outputs =
    let k = c.loop-output.output-index in
    let long = AllZip-long (IsOutput p s stays) s.sections c.args.outputs.now outputs in
    drawn_all p s stays c.loop-output.sections.items named (c.segments_by_neighbours.ensures.is s.sections)
    (subst (λ qs. AreDrawnOf p s stays qs c.loop-output.sections.items)
    (take_all k s.sections (omega (arith, long, c.loop-output-test.false)))
    (c.loop-output.invariant p s stays outputs))
