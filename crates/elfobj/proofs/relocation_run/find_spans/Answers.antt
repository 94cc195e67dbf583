use Rattle.elfobj.proofs.Common.{arith, get_or, mod-lt, refl, ℕ, ◌%◌}
use Rattle.elfobj.proofs.Runs.{no_run, no_table, span_none, span_some, spans_more}
use Rattle.elfobj.proofs.relocation_run.find_spans.Goals as goal
use Rattle.elfobj.proofs.relocation_run.find_spans.Goals.{then-table-eq0, else-table-eq0}

pub loop-table-preserved : goal.loop-table-preserved
loop-table-preserved c =
    spans_more c.args.bytes.now c.args.all.now c.args.tables.now c.loop-table.table-index no_table
    c.loop-table.spans.items c.push.new.list.items c.if-table-eq0.span c.loop-table-test.true
    (elim c.if-table-eq0.branch [
      | then-table-eq0 w ↦ rw w.span-is
          (span_none c.args.bytes.now c.args.all.now
          (get_or c.args.tables.now c.loop-table.table-index no_table) _ w.if-table-eq0.true refl refl)
      | else-table-eq0 w ↦
          let class : ℕ = (get_or c.args.tables.now c.loop-table.table-index no_table).start % 24 in
          let run = c.requires.runs.each class no_run
          (mod-lt (get_or c.args.tables.now c.loop-table.table-index no_table).start (omega arith)) in
          let covered = run.covers c.loop-table.table-index no_table c.loop-table-test.true
          (omega (arith, w.if-table-eq0.false)) refl in
          rw w.span-is (span_some c.args.bytes.now c.args.tables.now c.args.all.now class
          (get_or c.args.runs.now class no_run)
          (get_or c.args.tables.now c.loop-table.table-index no_table) w.span_in-span.result run refl
          covered.0 covered.1
          w.span_in-span.ensures.start w.span_in-span.ensures.end)
    ])
    c.in_ok-push.ensures.items c.loop-table.invariant
