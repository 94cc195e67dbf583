-- The whole section has each input section.
use Rattle.emit.proofs.Common.{ImageSection, Placed, ap, arith, refl}
use Rattle.emit.proofs.parts.lend_section.Goals as goal

pub returns-in-Ok : goal.returns-in-Ok
returns-in-Ok c p s stays q is =
    let x = c.args.output.now in
    let whole : ImageSection = record {
      offset = x.offset;
      start = x.placed.start;
      size = x.placed.size;
      fill = x.fill;
      pieces = record { ref_ptr = x.pieces.ref_ptr; now = is.row.whole };
      data_commands = x.data_commands;
    } in
    record {
      whole = whole;
      section = record {
        offset = is.offset;
        start = ap (λ (z : Placed). z.start) is.placed;
        size = ap (λ (z : Placed). z.size) is.placed;
        fill = is.fill;
        pieces = is.row.row.pieces;
        data_commands = is.data_commands;
      };
      filled = record { some_fill = is.some_fill; short_fill = is.short_fill; pieces = is.row.row.filled };
      kept = is.row.row.kept;
      joined = record {
        offset = omega (arith, c.in-Ok.ensures);
        start = refl;
        size = refl;
        fill = refl;
        pieces = is.row.joined;
        data_commands = refl;
      };
    }
