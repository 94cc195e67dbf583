-- How many names are decided.
use Rattle.std.specs.Prelude.{ℕ, ◌≡◌, List, filter, flat_map, map, not, length, nat_lt, count_by, if◌then◌else◌}
use Rattle.std.specs.Prelude.{Bool}
use Rattle.elfobj.specs.Counts.{Counts}
use Rattle.elfobj.specs.Raised.{raised}
use Rattle.elfobj.specs.declared.meter.Count.TheVariants as counts
use Rattle.elfobj.specs.Symbols.{NamedSymbol}
use Rattle.ldmodel.specs.Names.{distinct, is_local}
use Rattle.symres_table.specs.State.{entries_of}

-- the names that a symbol table declares
abbrev pub declared_in : List NamedSymbol → List (List ℕ)
declared_in symbols =
    map (λ (symbol : NamedSymbol). symbol.name)
    (filter (λ (symbol : NamedSymbol). not (is_local symbol.symbol.binding)) symbols)

-- those of all tables
abbrev pub declared_names : List (ℕ × List NamedSymbol) → List (List ℕ)
declared_names tables = flat_map (λ (t : ℕ × List NamedSymbol). declared_in t.1) tables

-- the name has an entry
abbrev pub is_used : List (ℕ × List NamedSymbol) → List ℕ → Bool
is_used tables name = nat_lt 0 (length (entries_of name tables))

-- one for a name that has an entry
abbrev pub uses : List (ℕ × List NamedSymbol) → List ℕ → ℕ
uses tables name = if is_used tables name then 1 else 0

-- how many of the listed names have entries
abbrev pub all_uses : List (ℕ × List NamedSymbol) → List (List ℕ × ℕ) → ℕ
all_uses tables order = count_by (λ (e : List ℕ × ℕ). is_used tables e.0) order

-- the names that are listed here were decided and counted, each once
abbrev pub CountsNames : Counts → Counts → List (List ℕ) → Type 0
CountsNames old new names = new ≡ raised old counts.Names (length (distinct names))
