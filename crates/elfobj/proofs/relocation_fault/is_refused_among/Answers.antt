use Rattle.elfobj.proofs.Common.{All-more, PassesIn, ap, arith, get_or, has_refused_entry, is_refused_for, list_any}
use Rattle.elfobj.proofs.Common.{refl, sym, ◌∙◌}
use Rattle.elfobj.specs.declared.relocation_run.SectionTable.{SectionTable}
use Rattle.elfobj.proofs.EntryTests.{ends_up, passed_larger, passed_none, passes_all}
use Rattle.elfobj.proofs.RelocationReads.{found_mapped}
use Rattle.elfobj.proofs.Runs.{no_table}
use Rattle.elfobj.proofs.relocation_fault.is_refused_among.Goals as goal
use Rattle.elfobj.proofs.relocation_fault.is_refused_among.Goals.{then-is_of_class+else-is_table_refused}
use Rattle.elfobj.proofs.relocation_fault.is_refused_among.Goals.{else-is_of_class}

pub loop-table-init : goal.loop-table-init
loop-table-init c = record {
  long = refl;
  passed = λ j d a l. passed_none c.args.fault c.args.bytes.now c.args.symbols _ _ _ c.args.past.now refl
      c.requires.own;
  none = λ k d l. absurd (omega arith);
}

pub returns-then-is_table_refused-clause-some : goal.returns-then-is_table_refused-clause-some
returns-then-is_table_refused-clause-some c = λ h.
    let t = get_or c.args.tables.now c.loop-table.table-index no_table in
    found_mapped (λ (t : SectionTable). t.section)
    (has_refused_entry c.args.fault c.args.bytes.now c.args.symbols) c.args.tables.now c.loop-table.table-index
    no_table c.loop-table-test.true
    (ap (list_any (is_refused_for c.args.fault c.args.symbols t.section))
    (sym (c.requires.tables c.loop-table.table-index no_table c.loop-table-test.true).entries)
    ∙ sym c.is_table_refused.ensures.value ∙ c.if-is_table_refused.true)

pub loop-table-preserved : goal.loop-table-preserved
loop-table-preserved c =
    let i = c.loop-table.table-index in
    let t = get_or c.args.tables.now i no_table in
    elim c.if-is_of_class.branch [
      | then-is_of_class+else-is_table_refused w ↦
          rw w.past-is (record {
            long = omega (arith, w.is_table_refused.ensures.long, c.loop-table.invariant.long);
            passed = λ j d a l. passed_larger c.args.fault c.args.bytes.now c.args.symbols t.section
                (get_or c.args.tables.now j d).section _ w.is_table_refused.new.past
                (ends_up c.args.tables.now i j d no_table c.requires.order c.loop-table-test.true (omega arith) l)
                w.is_table_refused.ensures.passed;
            none = All-more (PassesIn c.args.class c.args.fault c.args.bytes.now c.args.symbols) c.args.tables.now i
                no_table c.loop-table-test.true c.loop-table.invariant.none
                (λ a b. ap (list_any (is_refused_for c.args.fault c.args.symbols t.section))
                (sym (c.requires.tables i no_table c.loop-table-test.true).entries)
                ∙ sym w.is_table_refused.ensures.value ∙ w.if-is_table_refused.false);
          })
      | else-is_of_class w ↦
          rw w.past-is (record {
            long = c.loop-table.invariant.long;
            passed = λ j d a l. c.loop-table.invariant.passed j d (omega arith) l;
            none = All-more (PassesIn c.args.class c.args.fault c.args.bytes.now c.args.symbols) c.args.tables.now i
                no_table c.loop-table-test.true c.loop-table.invariant.none
                (λ a b. absurd (c.is_of_class.ensures.no w.if-is_of_class.false a b));
          })
    ]

pub returns-clause-none : goal.returns-clause-none
returns-clause-none c = λ h. passes_all c.args.class c.args.fault c.args.bytes.now c.args.symbols c.args.tables.now
    c.loop-table.table-index c.loop-table-test.false c.loop-table.invariant.none
