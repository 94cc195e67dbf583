use Rattle.gather.proofs.Common.{AreCommonsIn, Bor, Matches, NamedObject, Some, ap, arith, length, option_map}
use Rattle.gather.proofs.Common.{shown_input, slice_get, subst, sym, ◌≡◌, ◌≤◌}
use Rattle.gather.proofs.Preparing.{all_blocks, as_many, as_many_matched, matched_at, more_blocks, object_here}
use Rattle.gather.proofs.blocks.common_blocks.Goals as goal

pub bounds-matches-place : goal.bounds-matches-place
bounds-matches-place c =
    omega (
      arith,
      c.loop-place-test.true,
      as_many_matched c.args.project.now c.args.matches.now c.requires.matches,
      as_many c.args.project.now c.inputs-inputs.result.now c.inputs-inputs.ensures.same,
    )

pub blocks_of-requires-clause-object : goal.blocks_of-requires-clause-object
blocks_of-requires-clause-object c =
    ap (option_map (λ (o : NamedObject). o.object))
    (object_here c.args.project.now c.inputs-inputs.result.now c.loop-place.place c.index-inputs-place.result
    c.inputs-inputs.ensures.same (omega (arith, c.loop-place-test.true)) (sym c.index-inputs-place.is))

pub blocks_of-requires-clause-commons : goal.blocks_of-requires-clause-commons
blocks_of-requires-clause-commons c =
    let p = c.args.project.now in
    let n = c.loop-place.place in
    let x = c.index-inputs-place.result in
    let at : slice_get p.objects n ≡ Some (shown_input x) =
    object_here p c.inputs-inputs.result.now n x c.inputs-inputs.ensures.same
    (omega (arith, c.loop-place-test.true)) (sym c.index-inputs-place.is) in
    subst (λ (m : Bor Matches). AreCommonsIn x.object.now.symbols m.now.commons.start m.now.commons.end)
    c.index-matches-place.is
    (matched_at p n (shown_input x) c.args.matches.now c.index-matches-place.result c.requires.matches
    c.index-matches-place.is at).commons

pub loop-place-preserved : goal.loop-place-preserved
loop-place-preserved c =
    let p = c.args.project.now in
    let n = c.loop-place.place in
    let x = c.index-inputs-place.result in
    let at : slice_get p.objects n ≡ Some (shown_input x) =
    object_here p c.inputs-inputs.result.now n x c.inputs-inputs.ensures.same
    (omega (arith, c.loop-place-test.true)) (sym c.index-inputs-place.is) in
    more_blocks p n (shown_input x) c.loop-place.all.items c.push.new.list.items c.in_ok-blocks_of.field-0 at
    (c.in_ok-blocks_of.ensures x.name.now) c.in_ok-push.ensures.items c.loop-place.invariant

pub returns : goal.returns
returns c =
    let p = c.args.project.now in
    let past : length p.objects ≤ c.loop-place.place =
    omega (arith, c.loop-place-test.false, as_many p c.inputs-inputs.result.now c.inputs-inputs.ensures.same) in
    all_blocks p c.loop-place.place c.loop-place.all.items past c.loop-place.invariant
