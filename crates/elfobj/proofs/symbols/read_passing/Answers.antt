use Rattle.elfobj.proofs.Common.{ap, arith, false, file_bytes, nat_lt, sym, symbol_entry_at, ◌*◌, ◌+◌, ◌∙◌, ◌≡◌}
use Rattle.elfobj_file.specs.Tables.{is_local_entry, is_wrong_symbol}
use Rattle.elfobj.proofs.PassingSymbols.{each_more, placed_all, right_all, same_by, symbols_more}
use Rattle.elfobj.proofs.symbols.read_passing.Goals as goal

pub loop-number-init : goal.loop-number-init
loop-number-init c = record {
  low = omega arith;
  named = c.in_ok-symbols.ensures c.args.bytes.now;
  sides = λ j a b. absurd (omega arith);
  right = λ j a b. absurd (omega arith);
}

pub loop-number-preserved : goal.loop-number-preserved
loop-number-preserved c =
    let bytes = c.args.bytes.now in
    let strings = file_bytes bytes c.args.strings.now in
    let start = c.args.table.now.sh_offset in
    let k = c.loop-number.number in
    let e = c.read_symbol_entry-entry.result in
    record {
      low = omega arith;
      named = symbols_more bytes strings start k e c.loop-number.symbols.symbols.items _
          c.loop-number.symbols.names.items _ c.symbol.result c.in-Some.name c.loop-number.invariant.low
          c.read_symbol_entry-entry.ensures
          c.symbol.ensures c.in-Some.ensures.within c.in-Some.ensures.name c.in_ok-push.ensures.symbols
          c.in_ok-push.ensures.names c.loop-number.invariant.named;
      sides = each_more (λ j. is_local_entry (symbol_entry_at bytes (start + 24 * j))
          ≡ nat_lt j c.args.table.now.sh_info) k
          (ap is_local_entry (sym c.read_symbol_entry-entry.ensures) ∙ sym c.is_local.ensures
          ∙ same_by _ _ c.if-is_local-number.false) c.loop-number.invariant.sides;
      right =
          each_more (λ j. is_wrong_symbol c.args.sections strings (symbol_entry_at bytes (start + 24 * j)) ≡ false) k
          (ap (is_wrong_symbol c.args.sections strings) (sym c.read_symbol_entry-entry.ensures)
          ∙ c.in-Some.ensures.right) c.loop-number.invariant.right;
    }

pub returns-clause-placed : goal.returns-clause-placed
returns-clause-placed c = placed_all c.args.bytes.now c.args.table.now c.loop-number.number
    (omega (arith, c.loop-number-test.false)) c.requires.low c.requires.high c.loop-number.invariant.sides

pub returns-clause-right : goal.returns-clause-right
returns-clause-right c =
    right_all c.args.bytes.now c.args.table.now
    (is_wrong_symbol c.args.sections (file_bytes c.args.bytes.now c.args.strings.now)) c.loop-number.number
    (omega (arith, c.loop-number-test.false)) c.loop-number.invariant.right
