use Rattle.elfobj.proofs.Common.{All-more, Any, arith, false, is_refused_for, list_any, map, relocation_of, share_bytes}
use Rattle.elfobj.proofs.Common.{table_entries, ◌≡◌}
use Rattle.elfobj.specs.declared.relocation_run.SectionTable.{SectionTable}
use Rattle.elfobj.proofs.OrderedTables.{apart_all, passed_all, tables_more}
use Rattle.elfobj.proofs.Runs.{no_table, relocated_by, spans_all}
use Rattle.elfobj.proofs.ordered_table.read_ordered.Goals as goal

pub loop-table-preserved : goal.loop-table-preserved
loop-table-preserved c =
    let i = c.loop-table.table-index in
    record {
      read = tables_more c.args.bytes.now c.loop-table.all.items c.push_ordered.new.all.items c.args.tables.now i
          no_table c.loop-table.spans.items c.push.new.list.items _ c.loop-table-test.true
          (c.in_ok-push_ordered.ensures.read c.if-not-branch.false)
          (omega (arith, c.len-start.ensures, c.loop-table.all.ok.0))
          (omega (arith, c.len-end.ensures, c.push_ordered.new.all.ok.0)) c.in_ok-push.ensures.items
          c.loop-table.invariant.read;
      passes =
          All-more (λ (t : SectionTable). list_any (is_refused_for Any c.args.symbols t.section)
          (table_entries c.args.bytes.now t) ≡ false) c.args.tables.now i no_table c.loop-table-test.true
          c.loop-table.invariant.passes
          (c.in_ok-push_ordered.ensures.passes c.if-not-branch.false);
      apart =
          All-more (λ (t : SectionTable). share_bytes (map relocation_of (table_entries c.args.bytes.now t)) ≡ false)
          c.args.tables.now i no_table c.loop-table-test.true c.loop-table.invariant.apart
          (c.in_ok-push_ordered.ensures.apart c.if-not-branch.false);
    }

pub returns-clause-read : goal.returns-clause-read
returns-clause-read c =
    relocated_by c.args.bytes.now c.args.tables.now c.loop-table.all.items c.loop-table.spans.items c.requires
    (spans_all c.args.bytes.now c.loop-table.all.items c.args.tables.now c.loop-table.table-index
    c.loop-table.spans.items (omega (arith, c.loop-table-test.false)) c.loop-table.invariant.read)

pub returns-clause-passes : goal.returns-clause-passes
returns-clause-passes c = passed_all c.args.bytes.now c.args.symbols c.args.tables.now c.loop-table.table-index
    (omega (arith, c.loop-table-test.false)) c.requires c.loop-table.invariant.passes

pub returns-clause-apart : goal.returns-clause-apart
returns-clause-apart c = apart_all c.args.bytes.now c.args.tables.now c.loop-table.table-index c.loop-table.all.items
    c.loop-table.spans.items (omega (arith, c.loop-table-test.false)) c.loop-table.invariant.read
    c.loop-table.invariant.apart
