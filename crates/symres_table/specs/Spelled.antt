-- The symbol tables that numbers of names stand for.
use Rattle.std.specs.Prelude.{ℕ, ◌≡◌, ◌+◌, ◌≤◌, List, [], ◌∷◌, Option, Some, None, Bool, true, false, not, length, map}
use Rattle.std.specs.Prelude.{◌<◌, filter, if◌then◌else◌, slice_index_or}
use Rattle.std.specs.List.{All}
use Rattle.elfobj.specs.Symbols.{NamedSymbol}
use Rattle.ldmodel.specs.Names.{is_local}
use Rattle.symres_table.specs.declared.symbol.Numbered.{Numbered}
use Rattle.symres_table.specs.Numbers.{Entered}
use Rattle.symres_table.specs.Objects.{ObjectsState, CanEnter}
use Rattle.symres_table.specs.State.{slot, IsNamed}

-- the bytes of a name
abbrev pub text : Option (List ℕ) → List ℕ
text None = []
text (Some name) = name

-- a local symbol has no name here
abbrev pub spell_symbol : List (Option (List ℕ)) → Numbered → NamedSymbol
spell_symbol names s =
    record { name = if is_local s.symbol.binding then [] else text (slot names s.name); symbol = s.symbol }

abbrev pub spell : List (Option (List ℕ)) → Entered → ℕ × List NamedSymbol
spell names o = (o.key, map (spell_symbol names) o.symbols)

-- the number of a symbol that isn't local has a name
abbrev pub HasName : List (Option (List ℕ)) → Numbered → Type 0
HasName names s = is_local s.symbol.binding ≡ false → (name : List ℕ) × IsNamed names s.name name

-- the symbols are numbered from n on
abbrev pub AreCounted : ℕ → List Numbered → Type 0
AreCounted n [] = Unit {0}
AreCounted n (s ∷ ss) = (s.number ≡ n) × AreCounted (n + 1) ss

-- the numbers stand for names, and the symbols are numbered in their order
pub record IsSpellable (names : List (Option (List ℕ))) (ss : List Numbered) : Type 0 where
  pub named : All (HasName names) ss
  pub counted : AreCounted 0 ss

-- the numbers stand for this symbol table
pub record Spells (names : List (Option (List ℕ))) (ss : List Numbered) (symbols : List NamedSymbol) : Type 0 where
  pub spelled : map (spell_symbol names) ss ≡ symbols
  pub well : IsSpellable names ss

-- each of these is a symbol of this table, and has its name there unless it is local
abbrev pub AreOf : List (Option (List ℕ)) → List NamedSymbol → List Numbered → Type 0
AreOf names symbols ss =
    All (λ (s : Numbered). (s.number < length symbols) × (is_local s.symbol.binding ≡ false
    → (d : NamedSymbol) → IsNamed names s.name (slice_index_or symbols s.number d).name)) ss

-- a symbol that other objects see
abbrev pub is_seen : NamedSymbol → Bool
is_seen symbol = not (is_local symbol.symbol.binding)

-- the numbers stand for those of these symbols that other objects see
pub record SpellsSeen (names : List (Option (List ℕ))) (ss : List Numbered) (symbols : List NamedSymbol) : Type 0 where
  pub spelled : map (spell_symbol names) ss ≡ filter is_seen symbols
  pub named : All (HasName names) ss
  pub seen : All (λ (s : Numbered). not (is_local s.symbol.binding) ≡ true) ss

-- what holds between the names, the objects and the lists
pub record IsJoined (names : List (Option (List ℕ))) (os : List Entered) (parked room : ℕ) : Type 0 where
  pub named : All (λ (o : Entered). IsSpellable names o.symbols) os
  pub lists : parked + length os ≤ room

-- the symbols have numbers with room
abbrev pub IsReady : List (Option (List ℕ)) → ObjectsState → List NamedSymbol → Type 0
IsReady names s symbols = (ss : List Numbered) × SpellsSeen names ss symbols × CanEnter s ss
