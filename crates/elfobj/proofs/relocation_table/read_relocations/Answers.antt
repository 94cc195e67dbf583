use Rattle.std.proofs.lemmas.Result.{err_from_is_err_and}
use Rattle.elfobj.proofs.OrderedTables.{ordered_none, told}
use Rattle.elfobj.proofs.RelocationReads.{err_told, relocated_all, sections_same}
use Rattle.elfobj.proofs.relocation_table.read_relocations.Goals as goal

pub returns-in_err-changing-clause-refused : goal.returns-in_err-changing-clause-refused
returns-in_err-changing-clause-refused c =
    let p = err_from_is_err_and c.from_residual.result c.from_residual.ensures.1 in
    rw (p.1, p.2) (err_told c.args.bytes.now c.in_err-changing.field-0.0 c.in_err-changing.ensures.wrong)

pub returns-in-Some-clause-ok : goal.returns-in-Some-clause-ok
returns-in-Some-clause-ok c =
    let r = c.in-Some.relocations in
    ordered_none c.args.bytes.now c.args.symbols c.args.sections.now c.in_ok-tables.tables.items c.deref-2.result.now
    r.all.items r.spans.items c.in_ok-changing.ensures.right c.requires.symbols c.requires.sections
    c.deref-2.ensures.value c.in_ok-tables.ensures (told _ _ r c.in-Some.is c.in_ok-relocations.ensures.passes)
    (told _ _ r c.in-Some.is c.in_ok-relocations.ensures.read)
    (told _ _ r c.in-Some.is c.in_ok-relocations.ensures.apart)

pub returns-in-Some-clause-relocations : goal.returns-in-Some-clause-relocations
returns-in-Some-clause-relocations c =
    let r = c.in-Some.relocations in
    relocated_all c.args.bytes.now c.args.sections.now r.all.items r.spans.items c.requires.sections
    (sections_same c.args.bytes.now c.args.sections.now c.in_ok-tables.tables.items c.deref-2.result.now r.all.items
    r.spans.items c.deref-2.ensures.value c.in_ok-tables.ensures
    (told _ _ r c.in-Some.is c.in_ok-relocations.ensures.read))
