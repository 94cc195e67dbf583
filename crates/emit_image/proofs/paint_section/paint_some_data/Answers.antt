use Rattle.emit_image.proofs.Common.{Byte, arith, file_offset_of, section_image, ◌∙◌}
use Rattle.ldmodel.specs.declared.placed.PlacedData.{PlacedData}
use Rattle.emit_image.proofs.InSection.{data-from}
use Rattle.emit_image.proofs.Painting.{painted_then}
use Rattle.emit_image.proofs.paint_section.paint_some_data.Goals as goal

abbrev none : PlacedData
none = record { section = record { 0 = 0 }; start = 0; width = Byte; value = 0 }

pub returns-then-x-now-clause-data_commands : goal.returns-then-x-now-clause-data_commands
returns-then-x-now-clause-data_commands c =
    data-from c.args.x.now c.loop-k.now.data_commands c.args.below none c.requires.orderly
    (omega (arith, c.loop-k.invariant.data_commands, c.loop-k-test.true)) c.if-x-now.true

pub loop-k-preserved : goal.loop-k-preserved
loop-k-preserved c =
    let x = c.args.x.now in
    let i = c.loop-k.invariant in
    let e = c.paint_next_data-now.ensures in
    record {
      reached = e.reached;
      pieces = e.pieces ∙ i.pieces;
      data_commands = omega (arith, e.data_commands, i.data_commands);
      ready = e.ready;
      painted = painted_then c.args.canvas.now.bytes c.loop-k.canvas.bytes c.paint_next_data-now.new.canvas.bytes
          c.args.meter.now c.loop-k.meter c.paint_next_data-now.new.meter (file_offset_of x c.args.cursor.at)
          (file_offset_of x c.loop-k.now.at) (file_offset_of x c.paint_next_data-now.result.at) (section_image x)
          (omega (arith, i.up, c.requires.reached.low)) (omega (arith, e.up, i.reached.low)) i.painted e.painted;
      up = omega (arith, e.up, i.up);
    }
