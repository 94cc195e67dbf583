use Rattle.emit_relocate.proofs.Common.{Some, ap, arith, get_or, length, not, symbol_of, ◌<◌, ◌∙◌, ◌≡◌}
use Rattle.std.proofs.Common.{None}
use Rattle.place.proofs.TermTables.{at_place, values_more, values_same}
use Rattle.emit_relocate.proofs.Giving.{found_inside, none_there, some_there}
use Rattle.emit_relocate.proofs.script_values.note_value.Goals as goal
use Rattle.emit_relocate.proofs.script_values.note_value.Goals.{else-number-len-via-then-number-len+else-is_none}
use Rattle.emit_relocate.proofs.script_values.note_value.Goals.{else-number-len-via-else-number-len}

pub returns-then-is_none-clause-noted : goal.returns-then-is_none-clause-noted
returns-then-is_none-clause-noted c = λ script xs found long h.
    let k = c.args.symbol.command.0 in
    let l : k < length c.args.values.now.items = omega (arith, c.len.ensures, c.if-number-len.true) in
    let none : get_or c.args.values.now.items k None ≡ None =
    at_place c.args.values.now.items k c.index.result.now None None c.index.ensures
    (none_there c.index.result.now (c.is_none.ensures ∙ ap not c.if-is_none.true)) l in
    values_more script c.args.values.now.items xs (symbol_of script c.args.symbol) k found h l none

pub returns-else-number-len-clause-noted : goal.returns-else-number-len-clause-noted
returns-else-number-len-clause-noted c = λ script xs found long h.
    let k = c.args.symbol.command.0 in
    elim c.else-number-len.branch [
      | else-number-len-via-then-number-len+else-is_none w ↦
          let l : k < length c.args.values.now.items = omega (arith, c.len.ensures, w.if-number-len.true) in
          let there = some_there w.index.result.now (w.is_none.ensures ∙ ap not w.if-is_none.false) in
          let some : get_or c.args.values.now.items k None ≡ Some there.0 =
          at_place c.args.values.now.items k w.index.result.now (Some there.0) None w.index.ensures there.1 l in
          values_same script c.args.values.now.items xs (symbol_of script c.args.symbol) k found h there.0 some
      | else-number-len-via-else-number-len w ↦
          let inside = found_inside script c.args.symbol found in
          absurd (omega (arith, inside, long, c.len.ensures, w.if-number-len.false))
    ]
