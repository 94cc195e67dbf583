use Rattle.gather.proofs.Common.{AreBlocksOf, Some, arith, length, shown_input, slice_get, subst, sym, ◌≡◌, ◌≤◌}
use Rattle.gather.proofs.Preparing.{all_gathered, as_many, as_many_blocks, as_many_matched}
use Rattle.gather.proofs.Preparing.{blocks_given, matched_at, more_gathered, object_here}
use Rattle.gather.proofs.gathered_section.input_sections.Goals as goal

pub bounds-matches-place : goal.bounds-matches-place
bounds-matches-place c =
    omega (
      arith,
      c.loop-place-test.true,
      as_many_matched c.args.project.now c.args.matches.now c.requires.matches,
      as_many c.args.project.now c.inputs-inputs.result.now c.inputs-inputs.ensures.same,
    )

pub bounds-blocks-place : goal.bounds-blocks-place
bounds-blocks-place c =
    omega (
      arith,
      c.loop-place-test.true,
      as_many_blocks c.args.project.now c.args.blocks.now c.requires.blocks,
      as_many c.args.project.now c.inputs-inputs.result.now c.inputs-inputs.ensures.same,
    )

pub loop-place-preserved : goal.loop-place-preserved
loop-place-preserved c =
    let p = c.args.project.now in
    let n = c.loop-place.place in
    let x = c.index-inputs-place.result in
    let at : slice_get p.objects n ≡ Some (shown_input x) =
    object_here p c.inputs-inputs.result.now n x c.inputs-inputs.ensures.same
    (omega (arith, c.loop-place-test.true)) (sym c.index-inputs-place.is) in
    more_gathered p n (shown_input x) c.loop-place.sections.items c.add_object.new.sections.items at
    (c.in_ok-add_object.ensures.added p
    (matched_at p n (shown_input x) c.args.matches.now c.index-matches-place.result c.requires.matches
    c.index-matches-place.is at)
    (subst (AreBlocksOf p n (shown_input x)) (sym c.deref.ensures.value)
    (blocks_given p n (shown_input x) c.args.blocks.now c.index-blocks-place.result c.requires.blocks
    c.index-blocks-place.is at)))
    c.in_ok-add_object.ensures.ascending c.loop-place.invariant

pub returns : goal.returns
returns c =
    let p = c.args.project.now in
    let past : length p.objects ≤ c.loop-place.place =
    omega (arith, c.loop-place-test.false, as_many p c.inputs-inputs.result.now c.inputs-inputs.ensures.same) in
    all_gathered p c.loop-place.place c.loop-place.sections.items past c.loop-place.invariant
