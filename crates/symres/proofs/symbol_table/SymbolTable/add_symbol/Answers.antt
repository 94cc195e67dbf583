use Rattle.symres.proofs.Common.{List, ObjectPlace, Statement, ap, arith, definer_before, faults_of, get_or}
use Rattle.symres.proofs.Common.{is_assigned, on_ok_weaker, refl, sym, ◌++◌, ◌∙◌}
use Rattle.ldmodel.specs.declared.names.Entry.{Entry}
use Rattle.symres.proofs.Doubling.{name_read, no_more, one_more}
use Rattle.symres.proofs.symbol_table.SymbolTable.add_symbol.Goals as goal

pub returns-in-None-clause-found : goal.returns-in-None-clause-found
returns-in-None-clause-found c =
    λ p d ds symbol_table same.
    no_more p c.args.self.now.names ds c.args.place.0 c.args.number (get_or c.args.object.now.symbols c.args.number d)
    c.args.firsts.now.items c.args.faults.now.items (c.in-None.ensures.key p d symbol_table)

pub returns-in-Some-clause-found : goal.returns-in-Some-clause-found
returns-in-Some-clause-found c =
    on_ok_weaker c.add_if_not_first.result (λ more. λ p d ds symbol_table same.
    let e : Entry ObjectPlace = record { object = c.args.place; symbol = record { 0 = c.args.number } } in
    one_more p c.args.self.now ds c.args.place.0 c.args.number c.args.object.now.symbols d c.in-Some.key
    c.note_first-first.result c.args.firsts.now.items c.note_first-first.new.firsts.items c.args.faults.now.items
    c.add_if_not_first.new.faults.items c.name_of.result.now symbol_table c.requires.table c.requires.number
    (c.in-Some.ensures.key p d symbol_table) c.names_differ.ensures
    (omega (arith, c.in-Some.ensures.within c.in-Some.key refl, c.requires.long))
    c.note_first-first.ensures.first c.note_first-first.ensures.noted
    (name_read c.args.object.now.symbols c.args.number d c.name_of.result.now c.requires.number c.name_of.ensures)
    (more ∙ ap (λ (st : List Statement). c.args.faults.now.items
    ++ faults_of e (definer_before (is_assigned st c.name_of.result.now) c.note_first-first.result e)) (sym same)))
    c.add_if_not_first.ensures
