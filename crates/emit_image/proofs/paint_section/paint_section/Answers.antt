use Rattle.emit_image.proofs.Common.{IsPainted, PiecesFrom, arith, file_offset_of, refl, section_image, subst, ℕ, ◌+◌}
use Rattle.emit_image.proofs.Common.{◌≤◌}
use Rattle.emit_image.proofs.Adding.{begins, ends, fill_section}
use Rattle.emit_image.proofs.InSection.{reached-none}
use Rattle.emit_image.proofs.Painting.{painted_none, painted_then}
use Rattle.emit_image.proofs.paint_section.paint_section.Goals as goal

pub loop-k-init : goal.loop-k-init
loop-k-init c =
    let x = c.args.section.now in
    record {
      reached = reached-none x c.requires.orderly;
      pieces = refl;
      ready = c.requires.ready;
      painted = painted_none c.args.canvas.now.bytes c.args.meter.now (file_offset_of x x.start)
          (file_offset_of x x.start)
          (section_image x) refl;
    }

pub loop-k-preserved : goal.loop-k-preserved
loop-k-preserved c =
    let x = c.args.section.now in
    let i = c.loop-k.invariant in
    let e = c.paint_next_piece-cursor.ensures in
    record {
      reached = e.reached;
      pieces = omega (arith, e.pieces, i.pieces);
      ready = e.ready;
      painted = painted_then c.args.canvas.now.bytes c.loop-k.canvas.bytes c.paint_next_piece-cursor.new.canvas.bytes
          c.args.meter.now c.loop-k.meter c.paint_next_piece-cursor.new.meter (file_offset_of x x.start)
          (file_offset_of x c.loop-k.cursor.at) (file_offset_of x c.paint_next_piece-cursor.result.at) (section_image x)
          (omega (arith, i.reached.low)) (omega (arith, e.up, i.reached.low)) i.painted e.painted;
    }

pub returns-clause-painted : goal.returns-clause-painted
returns-clause-painted c =
    let x = c.args.section.now in
    let i = c.loop-k.invariant in
    let last = c.paint_data_before-last.result in
    let e = c.paint_data_before-last.ensures in
    let to : ℕ = x.start + x.size in
    let none : PiecesFrom x last.pieces to = λ n y a l s.
    absurd (omega (arith, e.pieces, i.pieces, c.loop-k-test.false)) in
    let old = c.args.canvas.now.bytes in
    let before = c.loop-k.canvas.bytes in
    let mid = c.paint_data_before-last.new.canvas.bytes in
    let new = c.paint_fill.new.canvas.bytes in
    let m = c.args.meter.now in
    let p = c.loop-k.meter in
    let q = c.paint_data_before-last.new.meter in
    let n = c.paint_fill.new.meter in
    let filled = fill_section x last.pieces last.data_commands last.at to mid new q n e.reached none e.data_commands
    e.reached.high (rw (c.file_offset.ensures, c.file_offset-2.ensures) at c.paint_fill.ensures.painted) in
    let first : file_offset_of x x.start ≤ file_offset_of x c.loop-k.cursor.at = omega (arith, i.reached.low) in
    let second : file_offset_of x c.loop-k.cursor.at ≤ file_offset_of x last.at = omega (arith, i.reached.low, e.up) in
    let third : file_offset_of x last.at ≤ file_offset_of x to = omega (arith, e.reached.low, e.reached.high) in
    let begun : file_offset_of x x.start ≤ file_offset_of x last.at = omega (arith, e.reached.low) in
    let all = painted_then old mid new m q n (file_offset_of x x.start) (file_offset_of x last.at) (file_offset_of x to)
    (section_image x) begun third
    (painted_then old before mid m p q (file_offset_of x x.start) (file_offset_of x c.loop-k.cursor.at)
    (file_offset_of x last.at)
    (section_image x) first second i.painted e.painted)
    filled in
    subst (λ (k : ℕ). IsPainted old new m n k (x.offset + x.size) (section_image x)) (begins x)
    (subst (λ (k : ℕ). IsPainted old new m n (file_offset_of x x.start) k (section_image x)) (ends x) all)
