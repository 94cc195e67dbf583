-- One output section a step.
use Rattle.emit.proofs.Common.{AllZip, Bor, Global, IsOutput, List, OutputDrawing, OutputSectionAt, Vec, arith, length}
use Rattle.emit.proofs.Common.{length-map, map, shown_sections, subst, sym, take, vec_items, ◌+◌, ◌<◌}
use Rattle.ldmodel.specs.declared.placed.PlacedData.{PlacedData}
use Rattle.ldscript.specs.statements.declared.numbering.OutputSectionAt as code_section
use Rattle.emit.proofs.Joining.{one_joined, reached}
use Rattle.emit.proofs.Lists.{own_member}
use Rattle.emit.proofs.output.join.Goals as goal
use Rattle.emit.proofs.output.join.Goals.{in-Some+in_ok-push-in-Some, in-None}

pub loop-number-preserved : goal.loop-number-preserved
loop-number-preserved c p s stays joined =
    let now : Bor (List PlacedData) → List PlacedData = λ run. run.now in
    let show : code_section.OutputSectionAt → OutputSectionAt =
    λ o. record { line = o.line; section = o.section.now } in
    let k = c.loop-number.number in
    let rows = map vec_items c.args.pieces.now in
    let runs = map now c.args.runs.now in
    let low : k < length c.args.placed.now = omega (arith, c.loop-number-test.true) in
    elim c.match-output_at.branch [
      | in-Some+in_ok-push-in-Some w ↦
          subst (λ (v : Vec OutputDrawing Global). AllZip (IsOutput p s stays) (take (k + 1) s.sections) v.items)
          (sym w.outputs-is)
          (one_joined p s stays c.args.placed.now (shown_sections c.args.sections.now) c.args.offsets.now rows runs
          k _ w.in-Some.output c.loop-number.outputs.items _ joined low (own_member c.args.placed.now k _)
          (λ q at. w.in-Some.ensures.some p s stays q at) w.in_ok-push-in-Some.ensures.items
          (c.loop-number.invariant p s stays joined))
      | in-None w ↦
          let all = reached p s stays c.args.placed.now (shown_sections c.args.sections.now) c.args.offsets.now rows
          runs k joined low in
          absurd (w.in-None.ensures.none
          (omega (arith, all.section, length-map c.args.sections.now show))
          all.offset
          (omega (arith, all.row, length-map c.args.pieces.now vec_items))
          (omega (arith, all.run, length-map c.args.runs.now now)))
    ]
