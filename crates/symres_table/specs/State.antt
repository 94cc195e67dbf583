-- A table of names as callers see it (this project's own): the entered objects by their symbol tables, and what is
-- reserved. What the entries of a table declare is in `ldmodel`.
use Rattle.std.specs.Prelude.{◌≡◌, ℕ, ◌+◌, ◌<◌, ◌≤◌, ◌==◌, ◌&&◌, List, [], ◌∷◌, ◌++◌, Option, Some, None, false, not}
use Rattle.std.specs.Prelude.{length, filter, slice_index_or, slice_get, true, bytes_eq, insert, remove, nat_lt}
use Rattle.std.specs.Prelude.{if◌then◌else◌}
use Rattle.std.specs.List.{All, IsDistinct}
use Rattle.std.specs.Map.{lookup}
use Rattle.elfobj.specs.Symbols.{NamedSymbol}
use Rattle.ldmodel.specs.Names.{Declaration, declarations_of, is_of_name, is_local}
use Rattle.ldmodel.specs.declared.names.ObjectKey.{ObjectKey}

-- the entries of a name, in object order and then symbol order, where the objects have these symbol tables
abbrev pub entries_of : List ℕ → List (ℕ × List NamedSymbol) → List Declaration
entries_of name tables = filter (is_of_name name) (declarations_of tables)

-- the symbols of this name that aren't local
abbrev pub naming : List ℕ → List NamedSymbol → List NamedSymbol
naming name symbols =
    filter (λ (symbol : NamedSymbol). not (is_local symbol.symbol.binding) && bytes_eq name symbol.name) symbols

-- the objects without the one of the key
abbrev pub without : ℕ → List (ℕ × List NamedSymbol) → List (ℕ × List NamedSymbol)
without key tables = filter (λ (t : ℕ × List NamedSymbol). not (t.0 == key)) tables

-- an object of the key is entered
abbrev pub HasObject : ℕ → List (ℕ × List NamedSymbol) → Type 0
HasObject key tables = (j : ℕ) × (j < length tables)
    × ((t : ℕ × List NamedSymbol) → (slice_index_or tables j t).0 ≡ key)

-- no object of the key is entered
abbrev pub IsFresh : ℕ → List (ℕ × List NamedSymbol) → Type 0
IsFresh key tables = All (λ (t : ℕ × List NamedSymbol). (t.0 == key) ≡ false) tables

-- the entered objects in their order, each as its key and its symbol table; the known names under their keys; and what
-- is reserved: for each name how many entries fit, for how many more objects there is room in the order and in the
-- table of places, and for how many symbols the lists set aside and those in use have memory; and the known names with
-- their keys, each once
pub record State : Type 0 where
  pub objects : List (ℕ × List NamedSymbol)
  pub names : List (Option (List ℕ))
  pub room : List ℕ
  pub order_room : ℕ
  pub place_room : ℕ
  pub spare : List ℕ
  pub held : List ℕ
  pub order : List (List ℕ × ℕ)

-- what is known under a key
abbrev pub slot : List (Option (List ℕ)) → ℕ → Option (List ℕ)
slot names n = slice_index_or names n None

-- the key is that of the name
abbrev pub IsNamed : List (Option (List ℕ)) → ℕ → List ℕ → Type 0
IsNamed names n name = slot names n ≡ Some name

-- each name keeps its key
abbrev pub KeepsNames : List (Option (List ℕ)) → List (Option (List ℕ)) → Type 0
KeepsNames old new = (n : ℕ) (name : List ℕ) → slot old n ≡ Some name → slot new n ≡ Some name

-- the same names are known, each under its key
abbrev pub SameNames : List (Option (List ℕ)) → List (Option (List ℕ)) → Type 0
SameNames old new = (n : ℕ) → slot new n ≡ slot old n

-- no two keys have one name
abbrev pub AreDistinct : List (Option (List ℕ)) → Type 0
AreDistinct names = (m n : ℕ) (name : List ℕ) → IsNamed names m name → IsNamed names n name → m ≡ n

-- the key has a name
abbrev pub HasName : List (Option (List ℕ)) → ℕ → Type 0
HasName names n = (name : List ℕ) × IsNamed names n name

abbrev pub IsSeenOr : Option NamedSymbol → Type 0
IsSeenOr None = ⊥
IsSeenOr (Some s) = is_local s.symbol.binding ≡ false

-- the object of the key has a symbol of this number that isn't local
abbrev pub HasSymbol : ℕ → ℕ → List (ℕ × List NamedSymbol) → Type 0
HasSymbol key number tables =
    All (λ (t : ℕ × List NamedSymbol). (t.0 == key) ≡ true → IsSeenOr (slice_get t.1 number)) tables

abbrev pub IsNamedOr : List (Option (List ℕ)) → ℕ → Option NamedSymbol → Type 0
IsNamedOr names n None = ⊥
IsNamedOr names n (Some s) = IsNamed names n s.name

-- the key is that of the name of this symbol of the object of the key
abbrev pub IsNameOfSymbol : List (Option (List ℕ)) → ℕ → ℕ → List (ℕ × List NamedSymbol) → ℕ → Type 0
IsNameOfSymbol names key number tables n =
    All (λ (t : ℕ × List NamedSymbol). (t.0 == key) ≡ true → IsNamedOr names n (slice_get t.1 number)) tables

-- the object at the place has a symbol of this number that isn't local
pub record IsSeenAt (tables : List (ℕ × List NamedSymbol)) (place number : ℕ) : Type 0 where
  pub within : place < length tables
  pub symbol : (t : ℕ × List NamedSymbol) → number < length (slice_index_or tables place t).1
  pub seen : (t : ℕ × List NamedSymbol) (symbol : NamedSymbol)
      → is_local (slice_index_or (slice_index_or tables place t).1 number symbol).symbol.binding ≡ false

-- the key is that of the name of the symbol of this number of the object at the place
abbrev pub IsNameAt : List (Option (List ℕ)) → List (ℕ × List NamedSymbol) → (place number n : ℕ) → Type 0
IsNameAt names tables place number n =
    (t : ℕ × List NamedSymbol) (symbol : NamedSymbol)
    → IsNamed names n (slice_index_or (slice_index_or tables place t).1 number symbol).name

-- the key of an entered object
abbrev pub object_key : ℕ × List NamedSymbol → ObjectKey
object_key table = record { 0 = table.0 }

-- each known name stands once in the list, with its key
pub record IsListing (names : List (Option (List ℕ))) (order : List (List ℕ × ℕ)) : Type 0 where
  pub sound : All (λ (e : List ℕ × ℕ). IsNamed names e.1 e.0) order
  pub complete : (n : ℕ) (name : List ℕ) → IsNamed names n name → lookup (λ (x : List ℕ). bytes_eq name x) order
      ≡ Some n
  pub once : IsDistinct (λ (x y : List ℕ × ℕ). bytes_eq x.0 y.0) order

-- a list set aside has memory for this number of symbols
abbrev pub HasList : List ℕ → ℕ → Type 0
HasList spare count = (i : ℕ) × (i < length spare) × (count ≤ slice_index_or spare i 0)

-- the name has a key with a row of entries
abbrev pub HasNumber : State → List ℕ → Type 0
HasNumber s name = (n : ℕ) × IsNamed s.names n name × (n < length s.room)

-- an object with this symbol table can be entered, and no memory is taken
pub record MayEnter (s : State) (symbols : List NamedSymbol) : Type 0 where
  pub known : All (λ (symbol : NamedSymbol). is_local symbol.symbol.binding ≡ false → HasNumber s symbol.name) symbols
  pub room : (n : ℕ) (name : List ℕ) → IsNamed s.names n name → n < length s.room
      → length (entries_of name s.objects) + length (naming name symbols) ≤ slice_index_or s.room n 0
  pub order : 0 < s.order_room
  pub places : 0 < s.place_room
  pub list : HasList s.spare (length symbols)

-- one of the lists set aside, with memory for this number of symbols, was put to use for the object at this place
pub record TakesList (old new : State) (at count : ℕ) : Type 0 where
  pub from : ℕ
  pub within : from < length old.spare
  pub long : count ≤ slice_index_or old.spare from 0
  pub spare : new.spare ≡ remove old.spare from
  pub held : new.held ≡ insert old.held at (slice_index_or old.spare from 0)

-- the list of the object of the key was set aside
pub record ParksList (old new : State) (key : ℕ) : Type 0 where
  pub at : ℕ
  pub within : at < length old.held
  pub is : (t : ℕ × List NamedSymbol) → (slice_index_or old.objects at t).0 ≡ key
  pub spare : new.spare ≡ old.spare ++ slice_index_or old.held at 0 ∷ []
  pub held : new.held ≡ remove old.held at

-- the names, and the room for their entries, stay
pub record IsSameBut (old new : State) : Type 0 where
  pub order : new.order ≡ old.order
  pub names : new.names ≡ old.names
  pub room : new.room ≡ old.room

-- names and room are only added, names after those that were known
pub record IsMore (old new : State) : Type 0 where
  pub listed : (more : List (List ℕ × ℕ)) × (new.order ≡ old.order ++ more)
  pub names : KeepsNames old.names new.names
  pub rows : length old.room ≤ length new.room
  pub room : (k : ℕ) → k < length old.room → slice_index_or old.room k 0 ≤ slice_index_or new.room k 0
  pub order : old.order_room ≤ new.order_room
  pub places : old.place_room ≤ new.place_room
  pub spare : (more : List ℕ) × (new.spare ≡ old.spare ++ more)
  pub held : new.held ≡ old.held

-- a name stays under its key where it has entries, and is dropped else; the others stand in the same order, and nothing
-- else changes
pub record Forgets (old new : State) : Type 0 where
  pub names : (n : ℕ) (name : List ℕ) → IsNamed old.names n name → slot new.names n
      ≡ (if nat_lt 0 (length (entries_of name old.objects)) then Some name else None)
  pub others : (n : ℕ) → slot old.names n ≡ None → slot new.names n ≡ None
  pub order : new.order ≡ filter (λ (e : List ℕ × ℕ). nat_lt 0 (length (entries_of e.0 old.objects))) old.order
  pub rest : new ≡ record old { names = new.names; order = new.order }
