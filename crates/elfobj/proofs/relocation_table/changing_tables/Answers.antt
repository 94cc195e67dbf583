use Rattle.elfobj.proofs.Common.{ap, arith, count_of, e_shnum, false, get_or, header_of, headers, headers_length, inr}
use Rattle.elfobj.proofs.Common.{length, null_header, refl, sym, symbol_table_number, take_at, true, ◌∙◌, ◌≡◌}
use Rattle.elfobj.specs.Reading.{entered}
use Rattle.elfobj.proofs.RelocationTables.{after_told, changed_below, right_more, right_same, tables_all, tables_more}
use Rattle.elfobj.proofs.RelocationTables.{tables_none, tables_same, wrong_found}
use Rattle.elfobj.proofs.relocation_table.changing_tables.Goals as goal
use Rattle.elfobj.proofs.relocation_table.changing_tables.Goals.{then-is_relocation_section+else-is_wrong_section}
use Rattle.elfobj.proofs.relocation_table.changing_tables.Goals.{else-is_relocation_section}

pub loop-number-init : goal.loop-number-init
loop-number-init c = record {
  right = refl;
  tables = tables_none c.args.bytes.now (length c.args.headers.now) c.in-Ok.tables.items
      (count_of c.args.bytes.now c.args.headers.now c.requires.headers) c.in-Ok.ensures;
}

pub returns-then-is_wrong_section-clause-wrong : goal.returns-then-is_wrong_section-clause-wrong
returns-then-is_wrong_section-clause-wrong c =
    inr (
      refl,
      wrong_found c.args.bytes.now c.loop-number.number
          (get_or c.args.headers.now c.loop-number.number null_header) c.loop-number.tables.items
          (omega (arith, count_of c.args.bytes.now c.args.headers.now c.requires.headers))
          (header_of c.args.bytes.now c.args.headers.now c.loop-number.number null_header c.requires.headers
          c.loop-number-test.true) (sym c.is_relocation_section.ensures
          ∙ c.if-is_relocation_section.true) c.loop-number.invariant.tables
          (after_told c.args.bytes.now c.args.headers.now c.symbol_table_number-symtab.result c.loop-number.tables.items
          c.deref.result.now (get_or c.args.headers.now c.loop-number.number null_header) c.is_wrong_section.result
          true c.requires.headers c.symbol_table_number-symtab.ensures c.deref.ensures.value
          c.is_wrong_section.ensures c.if-is_wrong_section.true),
    )

pub loop-number-preserved : goal.loop-number-preserved
loop-number-preserved c =
    let h = header_of c.args.bytes.now c.args.headers.now c.loop-number.number null_header c.requires.headers
    c.loop-number-test.true in
    elim c.if-is_relocation_section.branch [
      | then-is_relocation_section+else-is_wrong_section w ↦
          let relocates = sym c.is_relocation_section.ensures ∙ w.if-is_relocation_section.true in
          let right = after_told c.args.bytes.now c.args.headers.now c.symbol_table_number-symtab.result
          c.loop-number.tables.items w.deref.result.now
          (get_or c.args.headers.now c.loop-number.number null_header) w.is_wrong_section.result false
          c.requires.headers c.symbol_table_number-symtab.ensures w.deref.ensures.value
          w.is_wrong_section.ensures w.if-is_wrong_section.false in
          let below = changed_below (headers c.args.bytes.now)
          (symbol_table_number c.args.bytes.now) c.loop-number.tables.items
          (get_or c.args.headers.now c.loop-number.number null_header) right in
          rw w.tables-is (record {
            right = right_more c.args.bytes.now c.loop-number.number
                (get_or c.args.headers.now c.loop-number.number null_header) c.loop-number.tables.items h relocates
                c.loop-number.invariant.tables right c.loop-number.invariant.right;
            tables = tables_more c.args.bytes.now c.loop-number.number
                (get_or c.args.headers.now c.loop-number.number null_header) c.loop-number.tables.items _ h relocates
                (omega (arith, headers_length c.args.bytes.now))
                (take_at w.enter.new.tables _ c.loop-number.tables.len (w.enter.auto.tables ∙ w.deref_mut.ensures.len)
                ∙ w.enter.ensures
                ∙ ap (λ xs. entered xs (get_or c.args.headers.now c.loop-number.number null_header))
                w.deref_mut.ensures.value)
                c.loop-number.invariant.tables;
          })
      | else-is_relocation_section w ↦
          let other = sym c.is_relocation_section.ensures ∙ w.if-is_relocation_section.false in
          rw w.tables-is (record {
            right = right_same c.args.bytes.now c.loop-number.number
                (get_or c.args.headers.now c.loop-number.number null_header) h other c.loop-number.invariant.right;
            tables = tables_same c.args.bytes.now c.loop-number.number
                (get_or c.args.headers.now c.loop-number.number null_header) c.loop-number.tables.items h other
                c.loop-number.invariant.tables;
          })
    ]

pub returns-clause-tables : goal.returns-clause-tables
returns-clause-tables c =
    let count = count_of c.args.bytes.now c.args.headers.now c.requires.headers in
    let e : c.loop-number.number ≡ e_shnum c.args.bytes.now = omega arith in
    tables_all c.args.bytes.now c.loop-number.number c.loop-number.tables.items e c.loop-number.invariant.tables
