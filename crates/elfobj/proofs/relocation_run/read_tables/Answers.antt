use Rattle.elfobj.proofs.Common.{AreRelocated, map, relocation_of, subst, table_entries}
use Rattle.elfobj.specs.declared.relocation_run.SectionTable.{SectionTable}
use Rattle.elfobj.proofs.Runs.{relocated_by}
use Rattle.elfobj.proofs.relocation_run.read_tables.Goals as goal

pub returns : goal.returns
returns c = relocated_by c.args.bytes.now c.args.tables.now c.in_ok-all.all.items c.in_ok-spans.spans.items
    c.requires.tables
    (subst
    (λ xs. AreRelocated
    (map (λ (t : SectionTable). map relocation_of (table_entries c.args.bytes.now t)) c.args.tables.now) xs
    c.in_ok-spans.spans.items) c.deref.ensures.value c.in_ok-spans.ensures)
