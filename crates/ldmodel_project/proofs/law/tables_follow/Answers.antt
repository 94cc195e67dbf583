use Rattle.ldmodel_project.proofs.Common.{IsAmong, List, Listed, NamedSymbol, Option, edited_key, next_entries, subst}
use Rattle.ldmodel_project.proofs.Common.{ℕ}
use Rattle.ldmodel_project.specs.Tables.{HasTableAt, symbols_under, tables_under}
use Rattle.ldmodel_project.proofs.Tabled.{table-among, tables-others}
use Rattle.ldmodel_project.proofs.law.tables_follow.Goals as goal

pub returns-clause-before : goal.returns-clause-before
returns-clause-before c entries s key h edited =
    table-among key s.places.before entries
    (subst (λ (t : Option ℕ). IsAmong t s.places.before entries) edited h.before)

pub returns-clause-after : goal.returns-clause-after
returns-clause-after c entries s key h edited =
    let next : List Listed = next_entries entries s in
    subst (λ (ts : List (ℕ × List NamedSymbol)).
    HasTableAt key (symbols_under next key) s.places.after ts (tables_under next))
    (tables-others entries next (edited_key s.step) key edited h.others)
    (table-among key s.places.after next (subst (λ (t : Option ℕ). IsAmong t s.places.after next) edited h.after))
