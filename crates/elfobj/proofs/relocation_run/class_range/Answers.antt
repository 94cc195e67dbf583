use Rattle.elfobj.proofs.Common.{arith, div-add-mod, get_or}
use Rattle.elfobj.proofs.Runs.{cover_all, cover_more, cover_weaker, no_table}
use Rattle.elfobj.proofs.relocation_run.class_range.Goals as goal
use Rattle.elfobj.proofs.relocation_run.class_range.Goals.{then-table-gt0+then-table-class, else-table-gt0}
use Rattle.elfobj.proofs.relocation_run.class_range.Goals.{else-table-gt0-via-then-table-gt0+else-table-class}
use Rattle.elfobj.proofs.relocation_run.class_range.Goals.{else-table-gt0-via-else-table-gt0}

pub loop-table-preserved : goal.loop-table-preserved
loop-table-preserved c =
    let within = c.requires.within c.loop-table.table-index no_table c.loop-table-test.true in
    elim c.if-table-gt0.branch [
      | then-table-gt0+then-table-class w ↦
          rw (w.low-is, w.end-is) (record {
            end = omega (
              arith,
              w.max-end.ensures,
              within,
              c.loop-table.invariant.end,
              w.if-table-class.true,
              div-add-mod (get_or c.args.tables.now c.loop-table.table-index no_table).start 24,
            );
            covers = cover_more c.args.tables.now c.loop-table.table-index no_table c.args.class c.loop-table.low
                c.loop-table.end _ _ c.loop-table-test.true
                (omega (arith, w.min-low.ensures)) (omega (arith, w.max-end.ensures))
                (λ f m. (omega (arith, w.min-low.ensures), omega (arith, w.max-end.ensures)))
                c.loop-table.invariant.covers;
          })
      | else-table-gt0 w ↦
          rw (w.low-is, w.end-is) (record {
            end = c.loop-table.invariant.end;
            covers = cover_more c.args.tables.now c.loop-table.table-index no_table c.args.class c.loop-table.low
                c.loop-table.end _ _ c.loop-table-test.true
                (omega arith) (omega arith)
                (λ f m. elim w.else-table-gt0.branch [
                  | else-table-gt0-via-then-table-gt0+else-table-class w' ↦ absurd (w'.if-table-class.false m)
                  | else-table-gt0-via-else-table-gt0 w' ↦ absurd (omega (arith, w'.if-table-gt0.false))
                ]) c.loop-table.invariant.covers;
          })
    ]

pub returns-clause-covers : goal.returns-clause-covers
returns-clause-covers c =
    cover_weaker c.args.tables.now c.args.class c.loop-table.low c.loop-table.end c.min.result c.loop-table.end
    (omega (arith, c.min.ensures)) (omega arith)
    (cover_all c.args.tables.now c.loop-table.table-index c.args.class c.loop-table.low c.loop-table.end
    c.loop-table-test.false c.loop-table.invariant.covers)
