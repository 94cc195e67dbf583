-- Tables that are made when they are first needed.
use Rattle.relink.proofs.Common.{AreDecisionsOf, AreMatched, AreTablesOf, HasTables, LinkTables, List, Listed, Listing}
use Rattle.relink.proofs.Common.{Matches, NamedSymbol, None, Option, Project, Some, Statement, SymbolTableState, [], ap}
use Rattle.relink.proofs.Common.{arith, enumerate_from, keys_of, length, objects_of, project_of, refl, slice_index_or}
use Rattle.relink.proofs.Common.{subst, suc, sym, symbol_tables, tables_under, ℕ, ◌+◌, ◌<◌, ◌∙◌, ◌∷◌, ◌≡◌}
use Rattle.relink.specs.Deferred.{AreKeysFrom}

pub from_places : (n : ℕ) (ks : List ℕ) → ((k : ℕ) → k < length ks → slice_index_or ks k 0 ≡ n + k)
    → AreKeysFrom n ks
from_places n [] h = tt
from_places n (k ∷ ks) h =
    let first : k ≡ n = h 0 (omega arith) ∙ (omega arith) in
    (first, from_places (n + 1) ks (λ i low. h (suc i) (omega (arith, low)) ∙ (omega arith)))

placed_tables : (n : ℕ) (es : List Listed) → AreKeysFrom n (keys_of es)
    → enumerate_from n (symbol_tables (objects_of es)) ≡ tables_under es
placed_tables n [] h = refl
placed_tables n (e ∷ es) h =
    let symbols : List NamedSymbol = e.named.object.symbols in
    ap (λ (k : ℕ). (k, symbols) ∷ enumerate_from (n + 1) (symbol_tables (objects_of es))) (sym h.0)
    ∙ ap (λ (rest : List (ℕ × List NamedSymbol)). (e.key, symbols) ∷ rest) (placed_tables (n + 1) es h.1)

-- tables from nothing
pub made_tables : (p : Project) (table : SymbolTableState) (ms : List Matches) (script : List Statement)
    → table.kept.names.objects ≡ enumerate_from 0 (symbol_tables p.objects) → script ≡ p.script
    → AreDecisionsOf script table.kept → AreMatched p ms → (l : Listing) → p ≡ project_of l
    → AreKeysFrom 0 (keys_of l.entries) → AreTablesOf l table ms
made_tables p table ms script tables same names matches l is places = record {
  tables = tables ∙ (ap (λ (q : Project). enumerate_from 0 (symbol_tables q.objects)) is
      ∙ placed_tables 0 l.entries places);
  names = subst (λ (s : List Statement). AreDecisionsOf s table.kept) (same ∙ ap (λ (q : Project). q.script) is) names;
  matches = subst (λ (q : Project). AreMatched q ms) is matches;
}

pub tables_there : (l : Listing) (tables : Option LinkTables) (made : LinkTables) → tables ≡ Some made
    → HasTables l tables → AreTablesOf l made.symbol_table made.matches.items
tables_there l tables made is has = subst (HasTables l) is has

pub tables_not_there : (l : Listing) (tables : Option LinkTables) → tables ≡ None → HasTables l tables
    → AreKeysFrom 0 (keys_of l.entries)
tables_not_there l tables is has = subst (HasTables l) is has

pub tables_of_none : (l : Listing) (tables : Option LinkTables) → tables ≡ None → AreKeysFrom 0 (keys_of l.entries)
    → HasTables l tables
tables_of_none l tables is places = subst (HasTables l) (sym is) places
