use Rattle.symres_decisions.proofs.Common.{NamedSymbol, get_or, length}
use Rattle.symres_table.specs.Tally.{declaration_of}
use Rattle.symres_decisions.proofs.Used.{local_lost, seen_used, some_there, used_row}
use Rattle.symres_decisions.proofs.texts.has_entry.Goals as goal

pub returns-in-Some : goal.returns-in-Some
returns-in-Some c = λ sure before d h.
    let x : NamedSymbol = get_or c.args.object.now.symbols c.args.number d in
    let tables = c.args.names.now.objects in
    seen_used tables before x (c.in-Some.ensures d).0
    (used_row tables x.name c.entries.result.now (declaration_of x.name)
    (c.entries.ensures x.name (c.in-Some.ensures d).1)
    (some_there (length c.entries.result.now) c.is_empty.result c.is_empty.ensures sure))
    h

pub returns-in-None : goal.returns-in-None
returns-in-None c = λ sure before d h.
    local_lost c.args.names.now.objects before (get_or c.args.object.now.symbols c.args.number d)
    (c.in-None.ensures d) h
