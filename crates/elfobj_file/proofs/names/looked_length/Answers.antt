use Rattle.std.proofs.Common.{arith}
use Rattle.elfobj_file.proofs.Stops.{stop_name, stop_string}
use Rattle.elfobj_file.proofs.names.looked_length.Goals as goal

pub returns-clause-name : goal.returns-clause-name
returns-clause-name c =
    stop_string c.args.table.now c.args.at _ c.graphic_count-length.result (omega (arith, c.if-at-table.false))
    (omega (arith, c.if-length-rest.false, c.graphic_count-length.ensures.within))
    c.graphic_count-length.ensures.graphic c.if-rest-length-ne0.false

pub returns-clause-limits : goal.returns-clause-limits
returns-clause-limits c =
    stop_name c.args.table.now c.args.at _ c.graphic_count-length.result (omega (arith, c.if-at-table.false))
    (omega (arith, c.if-length-rest.false, c.graphic_count-length.ensures.within))
    c.graphic_count-length.ensures.graphic c.if-rest-length-ne0.false
    (omega (arith, c.if-length-eq0.false)) (omega (arith, c.if-length-from.false, c.from.ensures))
