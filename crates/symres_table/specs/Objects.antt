-- The entered objects, their entries by numbers of names, and their places.
use Rattle.std.specs.Prelude.{ℕ, ◌≡◌, ◌+◌, ◌<◌, ◌≤◌, List, Some, length, slice_index_or}
use Rattle.std.specs.List.{All}
use Rattle.std.proofs.Common.{Vec, Global}
use Rattle.ldmodel.specs.declared.names.ObjectKey.{ObjectKey}
use Rattle.symres_table.specs.declared.places.PlacedKey.{PlacedKey}
use Rattle.symres_table.specs.declared.symbol.Declared.{Declared}
use Rattle.symres_table.specs.declared.symbol.Numbered.{Numbered}
use Rattle.symres_table.specs.Numbers.{Entered, HasRow, entries, named, IsTable}
use Rattle.symres_table.specs.Places.{AreSorted, place_of}

-- the entered objects in their order; for each name how many entries fit; how many more objects fit
pub record ObjectsState : Type 0 where
  pub objects : List Entered
  pub room : List ℕ
  pub order_room : ℕ
  pub place_room : ℕ

-- an object can be entered with no allocation
pub record CanEnter (s : ObjectsState) (symbols : List Numbered) : Type 0 where
  pub known : All (HasRow (length s.room)) symbols
  pub room : (k : ℕ) → k < length s.room
      → length (entries k s.objects) + length (named k symbols) ≤ slice_index_or s.room k 0
  pub order : 0 < s.order_room
  pub places : 0 < s.place_room

-- the places are those of the objects
pub record IsNumbered (places : List PlacedKey) (os : List Entered) : Type 0 where
  pub sorted : AreSorted places
  pub at : (j : ℕ) (o : Entered) → j < length os → place_of places (slice_index_or os j o).key ≡ Some j
  pub only : (key j : ℕ) → place_of places key ≡ Some j → (j < length os)
      × ((o : Entered) → (slice_index_or os j o).key ≡ key)

pub record IsObjectTable (os : List Entered) (rows : List (Vec Declared Global))
    (places : List PlacedKey) : Type 0 where
  pub table : IsTable rows os
  pub known : All (λ (o : Entered). All (HasRow (length rows)) o.symbols) os
  pub numbered : IsNumbered places os

-- the object of the key is entered
abbrev pub HasKey : ℕ → List Entered → Type 0
HasKey key os = (j : ℕ) × (j < length os) × ((o : Entered) → (slice_index_or os j o).key ≡ key)

abbrev pub key_of : Entered → ObjectKey
key_of o = record { 0 = o.key }

-- the objects and the room for them stay, and rows and room are only added
pub record GrowsRoom (old new : ObjectsState) : Type 0 where
  pub objects : new.objects ≡ old.objects
  pub rows : length old.room ≤ length new.room
  pub room : (k : ℕ) → k < length old.room → slice_index_or old.room k 0 ≤ slice_index_or new.room k 0
  pub order : old.order_room ≤ new.order_room
  pub places : old.place_room ≤ new.place_room
