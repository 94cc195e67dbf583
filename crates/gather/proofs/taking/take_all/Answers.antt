use Rattle.gather.proofs.Common.{AreBlocksOf, IsTaken, Some, [], ap, arith, input_statements, length, rules}
use Rattle.gather.proofs.Common.{shown_input, slice_get, subst, sym, ◌++◌, ◌∙◌, ◌≡◌, ◌≤◌}
use Rattle.ldmodel.specs.Options.{LinkOptions}
use Rattle.gather.proofs.Preparing.{all_gathered, as_many, as_many_blocks, as_many_matched}
use Rattle.gather.proofs.Preparing.{blocks_given, matched_at, object_here}
use Rattle.gather.proofs.AllTaken.{after_object, before_objects}
use Rattle.gather.proofs.taking.take_all.Goals as goal

pub bounds-matches-place : goal.bounds-matches-place
bounds-matches-place c =
    omega (
      arith,
      c.loop-place-test.true,
      as_many_matched c.args.project.now c.args.matches.now c.requires.matches,
      as_many c.args.project.now c.inputs-inputs.result.now c.inputs-inputs.ensures.same,
    )

pub bounds-blocks-place : goal.bounds-blocks-place
bounds-blocks-place c =
    omega (
      arith,
      c.loop-place-test.true,
      as_many_blocks c.args.project.now c.args.blocks.now c.requires.blocks,
      as_many c.args.project.now c.inputs-inputs.result.now c.inputs-inputs.ensures.same,
    )

pub loop-place-init : goal.loop-place-init
loop-place-init c =
    let none = c.in_ok-buckets.ensures in
    record {
      sections = [];
      before = before_objects c.args.project.now;
      taken = record {
        buckets = record { long = none.long; bucket = none.each };
        orphans = search rules;
      };
    }

pub loop-place-preserved : goal.loop-place-preserved
loop-place-preserved c =
    let p = c.args.project.now in
    let n = c.loop-place.place in
    let x = c.index-inputs-place.result in
    let at : slice_get p.objects n ≡ Some (shown_input x) =
    object_here p c.inputs-inputs.result.now n x c.inputs-inputs.ensures.same
    (omega (arith, c.loop-place-test.true)) (sym c.index-inputs-place.is) in
    let h = c.loop-place.invariant in
    let new = c.in_ok-take_object.ensures.added p
    (matched_at p n (shown_input x) c.args.matches.now c.index-matches-place.result c.requires.matches
    c.index-matches-place.is at)
    (subst (AreBlocksOf p n (shown_input x)) (sym c.deref.ensures.value)
    (blocks_given p n (shown_input x) c.args.blocks.now c.index-blocks-place.result c.requires.blocks
    c.index-blocks-place.is at)) in
    record {
      sections = h.sections ++ new.sections;
      before = after_object p n (shown_input x) h.sections new.sections at new.facts
          c.in_ok-take_object.ensures.ascending h.before;
      taken = new.takes (length c.args.statements.now) h.sections h.taken;
    }

pub returns : goal.returns
returns c =
    let p = c.args.project.now in
    let past : length p.objects ≤ c.loop-place.place =
    omega (arith, c.loop-place-test.false, as_many p c.inputs-inputs.result.now c.inputs-inputs.ensures.same) in
    let h = c.loop-place.invariant in
    record {
      sections = h.sections;
      gathered = all_gathered p c.loop-place.place h.sections past h.before;
      taken = subst (λ or. IsTaken (input_statements p.script) or (length c.args.statements.now) h.sections
          c.loop-place.taken)
          (c.orphans-orphans.ensures ∙ ap (λ (o : LinkOptions). o.orphans) c.options.ensures)
          (subst (λ st. IsTaken st c.orphans-orphans.result (length c.args.statements.now) h.sections
          c.loop-place.taken) c.requires.statements h.taken);
    }
