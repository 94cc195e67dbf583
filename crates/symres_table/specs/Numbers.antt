-- The entries of names by the numbers of names.
use Rattle.std.specs.Prelude.{ℕ, ◌≡◌, ◌+◌, ◌-◌, ◌<◌, ◌≤◌, Bool, ◌||◌, ◌&&◌, not, nat_lt, ◌==◌, true, false, List, []}
use Rattle.std.specs.Prelude.{◌∷◌, ◌++◌, length, map, remove, slice_index_or}
use Rattle.std.specs.List.{filter, All}
use Rattle.std.specs.Vec.{vec_len, vec_capacity}
use Rattle.std.proofs.Common.{Vec, Global}
use Rattle.ldmodel.specs.Names.{is_local}
use Rattle.symres_table.specs.declared.places.PlacedKey.{PlacedKey}
use Rattle.symres_table.specs.declared.symbol.Declared.{Declared}
use Rattle.symres_table.specs.declared.symbol.Numbered.{Numbered}
use Rattle.symres_table.specs.Places.{place_of, is_below}

-- an entered object, by its key, and for how many symbols its list has memory
pub record Entered : Type 0 where
  pub key : ℕ
  pub symbols : List Numbered
  pub room : ℕ

abbrev pub declared : ℕ → Numbered → Declared
declared key s = record {
  entry = record { object = record { 0 = key }; symbol = record { 0 = s.number } };
  symbol = s.symbol;
}

-- the symbol isn't local, and has the name of this number
abbrev pub is_named : ℕ → Numbered → Bool
is_named k s = not (is_local s.symbol.binding) && (s.name == k)

-- the symbols of a name
abbrev pub named : ℕ → List Numbered → List Numbered
named k symbols = filter (is_named k) symbols

-- what an object says of a name
abbrev pub own : ℕ → ℕ → List Numbered → List Declared
own k key symbols = map (declared key) (named k symbols)

-- the entries of a name, in object order and then symbol order
abbrev pub entries : ℕ → List Entered → List Declared
entries k [] = []
entries k (o ∷ os) = own k o.key o.symbols ++ entries k os

-- if the symbol isn't local, its name is below a number
abbrev pub HasRow : ℕ → Numbered → Type 0
HasRow n s = is_local s.symbol.binding ≡ false → s.name < n

-- the declaration is of the object `key`, or of one that stands in front of `at`
abbrev pub before : List PlacedKey → ℕ → ℕ → Declared → Bool
before places at key d = (d.entry.object.0 == key) || is_below at (place_of places d.entry.object.0)

-- where a declaration of `key` goes: those from there on are not before it, and the one in front is
pub record IsPlace (places : List PlacedKey) (at key : ℕ) (ds : List Declared) (n : ℕ) : Type 0 where
  pub within : n ≤ length ds
  pub behind : (k : ℕ) (d : Declared) → n ≤ k → k < length ds → before places at key (slice_index_or ds k d) ≡ false
  pub front : (d : Declared) → 0 < n → before places at key (slice_index_or ds (n - 1) d) ≡ true

-- the table has the entries of each name
pub record IsTable (table : List (Vec Declared Global)) (objects : List Entered) : Type 0 where
  pub row : (k : ℕ) (d : Vec Declared Global) → k < length table → (slice_index_or table k d).items ≡ entries k objects

-- the objects in front stand before `at`, and those after do not and have another key
pub record IsSplit (places : List PlacedKey) (at key : ℕ) (xs ys : List Entered) : Type 0 where
  pub front : All (λ (o : Entered). is_below at (place_of places o.key) ≡ true) xs
  pub behind : All (λ (o : Entered). is_below at (place_of places o.key) ≡ false) ys
  pub other : All (λ (o : Entered). (o.key == key) ≡ false) ys

-- each row takes those of the symbols that have its name, with no allocation
abbrev pub HasRoom : List (Vec Declared Global) → List Numbered → Type 0
HasRoom table symbols = (k : ℕ) (d : Vec Declared Global) → k < length table
    → vec_len (slice_index_or table k d) + length (named k symbols) ≤ vec_capacity (slice_index_or table k d)

-- each row keeps its capacity, and has that number of declarations more
pub record Grows (old new : List (Vec Declared Global)) (symbols : List Numbered) : Type 0 where
  pub long : length new ≡ length old
  pub row : (k : ℕ) (d : Vec Declared Global) → k < length old
      → (vec_capacity (slice_index_or new k d) ≡ vec_capacity (slice_index_or old k d))
      × (vec_len (slice_index_or new k d) ≡ vec_len (slice_index_or old k d) + length (named k symbols))

-- the declarations of other objects
abbrev pub others : ℕ → List Declared → List Declared
others key ds = filter (λ (d : Declared). not (d.entry.object.0 == key)) ds

-- the objects without the one of the key
abbrev pub without : ℕ → List Entered → List Entered
without key os = filter (λ (o : Entered). not (o.key == key)) os

-- each row keeps its capacity
pub record KeepsRoom (old new : List (Vec Declared Global)) : Type 0 where
  pub long : length new ≡ length old
  pub row : (k : ℕ) (d : Vec Declared Global) → k < length old → vec_capacity (slice_index_or new k d)
      ≡ vec_capacity (slice_index_or old k d)

-- an object of the key has these symbols
abbrev pub HasSymbols : ℕ → List Numbered → List Entered → Type 0
HasSymbols key symbols os = All (λ (o : Entered). (o.key == key) ≡ true → o.symbols ≡ symbols) os

-- an object has left the list
pub record Leaves (os os' : List Entered) (o : Entered) : Type 0 where
  pub at : ℕ
  pub within : at < length os
  pub is : (d : Entered) → slice_index_or os at d ≡ o
  pub rest : os' ≡ remove os at

-- each row has its declarations and no less memory, and new rows are empty
pub record RowsGrow (old new : List (Vec Declared Global)) : Type 0 where
  pub long : length old ≤ length new
  pub items : (k : ℕ) (d : Vec Declared Global) → k < length old → (slice_index_or new k d).items
      ≡ (slice_index_or old k d).items
  pub room : (k : ℕ) (d : Vec Declared Global) → k < length old
      → vec_capacity (slice_index_or old k d) ≤ vec_capacity (slice_index_or new k d)
  pub fresh : (k : ℕ) (d : Vec Declared Global) → length old ≤ k → k < length new → (slice_index_or new k d).items ≡ []

-- the name has an entry
abbrev pub is_used : ℕ → List Entered → Bool
is_used name os = nat_lt 0 (length (entries name os))
