-- Tables of symbols under the keys of their objects.
use Rattle.std.specs.Prelude.{◌≡◌, ℕ, ◌≤◌, List, filter, insert, length, map, nat_eq, not, position, unwrap_or, Option}
use Rattle.std.specs.Prelude.{Some, None}
use Rattle.elfobj.specs.Symbols.{NamedSymbol}
use Rattle.ldmodel_project.specs.Listing.{Listed}
use Rattle.ldmodel_project.specs.Next.{named_under}

abbrev pub tables_under : List Listed → List (ℕ × List NamedSymbol)
tables_under entries = map (λ (e : Listed). (e.key, e.named.object.symbols)) entries

abbrev pub symbols_under : List Listed → ℕ → List NamedSymbol
symbols_under entries key = (named_under entries key).object.symbols

-- the tables of other objects
abbrev pub without_table : ℕ → List (ℕ × List NamedSymbol) → List (ℕ × List NamedSymbol)
without_table key tables = filter (λ (t : ℕ × List NamedSymbol). not (nat_eq t.0 key)) tables

-- the tables are these others, with that of the key's object at a place, or without
abbrev pub HasTableAt : ℕ → List NamedSymbol → Option ℕ → List (ℕ × List NamedSymbol) → List (ℕ × List NamedSymbol)
    → Type 0
HasTableAt key symbols None others tables = tables ≡ others
HasTableAt key symbols (Some place) others tables =
    (place ≤ length others) × (tables ≡ insert others place (key, symbols))

-- where a key stands; 0 for one that doesn't
abbrev pub place_or_0 : List ℕ → ℕ → ℕ
place_or_0 keys key = unwrap_or (position (nat_eq key) keys) 0
