-- How far the rows are, where some of an object's symbols were taken.
use Rattle.std.specs.Prelude.{ℕ, ◌≡◌, ◌<◌, ◌≤◌, ◌-◌, ◌==◌, ◌&&◌, Bool, true, false, List, [], ◌++◌, length}
use Rattle.std.specs.Prelude.{take, slice_index_or, slice_get, if◌then◌else◌, Option, Some, None, ◌⊎◌, ◌+◌}
use Rattle.std.specs.List.{list_any, All}
use Rattle.std.specs.Vec.{vec_len, vec_capacity}
use Rattle.std.proofs.Common.{Vec, Global}
use Rattle.ldmodel.specs.Names.{is_local}
use Rattle.symres_table.specs.declared.places.PlacedKey.{PlacedKey}
use Rattle.symres_table.specs.declared.symbol.Declared.{Declared}
use Rattle.symres_table.specs.declared.symbol.Numbered.{Numbered}
use Rattle.symres_table.specs.Numbers.{before, KeepsRoom, is_named, named, others, own}

-- the rows have the declarations of these symbols of an object at their ends, and each row keeps its capacity
pub record Appended (key : ℕ) (ss : List Numbered) (old new : List (Vec Declared Global)) : Type 0 where
  pub long : length new ≡ length old
  pub items : (k : ℕ) (d : Vec Declared Global) → k < length old → (slice_index_or new k d).items
      ≡ (slice_index_or old k d).items ++ own k key ss
  pub len : (k : ℕ) (d : Vec Declared Global) → k < length old → vec_len (slice_index_or new k d)
      ≡ vec_len (slice_index_or old k d) + length (named k ss)
  pub room : (k : ℕ) (d : Vec Declared Global) → k < length old → vec_capacity (slice_index_or new k d)
      ≡ vec_capacity (slice_index_or old k d)

-- the row has this number of entries more, after those that it had, and no less room
pub record HoldsMore (n : ℕ) (old new : Vec Declared Global) : Type 0 where
  pub items : take (length old.items) new.items ≡ old.items
  pub len : length new.items ≡ length old.items + n
  pub room : vec_capacity old ≤ vec_capacity new

-- each row has an entry more for each of these symbols that has its name
pub record Holds (ss : List Numbered) (old new : List (Vec Declared Global)) : Type 0 where
  pub long : length new ≡ length old
  pub row : (k : ℕ) (d : Vec Declared Global) → k < length old
      → HoldsMore (length (named k ss)) (slice_index_or old k d) (slice_index_or new k d)

-- the declarations of the objects in front, of those behind, and of the object of the key
pub record AreParts (places : List PlacedKey) (at key : ℕ) (fs bs os : List Declared) : Type 0 where
  pub front : All (λ (d : Declared). before places at key d ≡ true) fs
  pub behind : All (λ (d : Declared). before places at key d ≡ false) bs
  pub own : All (λ (d : Declared). (d.entry.object.0 == key) ≡ true) os

-- from n on all declarations are of the key, and the one in front is not
pub record IsOwnStart (key : ℕ) (ds : List Declared) (n : ℕ) : Type 0 where
  pub within : n ≤ length ds
  pub own : (k : ℕ) (d : Declared) → n ≤ k → k < length ds → ((slice_index_or ds k d).entry.object.0 == key) ≡ true
  pub other : (d : Declared) → 0 < n → ((slice_index_or ds (n - 1) d).entry.object.0 == key) ≡ false

abbrev pub is_entry : ℕ → ℕ → Option Declared → Bool
is_entry key number None = false
is_entry key number (Some d) = (d.entry.object.0 == key) && (d.entry.symbol.0 == number)

-- the last declaration is that of this symbol
abbrev pub ends_with : ℕ → ℕ → List Declared → Bool
ends_with key number ds = is_entry key number (slice_get ds (length ds - 1))

-- the object's declarations have come to their place, or some of its symbols that have the name are left
abbrev pub IsSettling : List Numbered → List Declared → List Declared → List Declared → List Declared → Type 0
IsSettling left fs bs os l = ((left ≡ [] → ⊥) × (l ≡ fs ++ (bs ++ os))) ⊎ (l ≡ fs ++ (os ++ bs))

-- where some of an object's symbols are left, the rows of those are as they were or in order, and the others in order
pub record Settling (places : List PlacedKey) (at key : ℕ) (ss left : List Numbered)
    (old new : List (Vec Declared Global))
    : Type 0 where
  pub long : length new ≡ length old
  pub len : (k : ℕ) (d : Vec Declared Global) → k < length old → vec_len (slice_index_or new k d)
      ≡ vec_len (slice_index_or old k d)
  pub room : (k : ℕ) (d : Vec Declared Global) → k < length old → vec_capacity (slice_index_or new k d)
      ≡ vec_capacity (slice_index_or old k d)
  pub items : (k : ℕ) (d : Vec Declared Global) (fs bs : List Declared) → k < length old
      → AreParts places at key fs bs (own k key ss)
      → (slice_index_or old k d).items ≡ fs ++ (bs ++ own k key ss)
      → IsSettling (named k left) fs bs (own k key ss) (slice_index_or new k d).items

-- if the symbol isn't local, its row has room for one more
abbrev pub HasRoomForOne : List (Vec Declared Global) → Numbered → Type 0
HasRoomForOne table s = is_local s.symbol.binding ≡ false → (d : Vec Declared Global)
    → vec_len (slice_index_or table s.name d) < vec_capacity (slice_index_or table s.name d)

abbrev pub cleared : ℕ → Bool → List Declared → List Declared
cleared key b ds = if b then others key ds else ds

abbrev pub has_name : ℕ → List Numbered → Bool
has_name k ss = list_any (is_named k) ss

-- the rows of these symbols have lost the declarations of the key
pub record Cleared (key : ℕ) (ss : List Numbered) (old new : List (Vec Declared Global)) : Type 0 where
  pub room : KeepsRoom old new
  pub row : (k : ℕ) (d : Vec Declared Global) → k < length old → (slice_index_or new k d).items
      ≡ cleared key (has_name k ss) (slice_index_or old k d).items

abbrev pub is_of : ℕ → Option Declared → Bool
is_of key None = false
is_of key (Some d) = d.entry.object.0 == key

-- the last declaration is of the key
abbrev pub ends_in : ℕ → List Declared → Bool
ends_in key ds = is_of key (slice_get ds (length ds - 1))

-- the row ends in a declaration of the key, or has none
abbrev pub IsMarkedLast : ℕ → List Declared → Type 0
IsMarkedLast key ds = (ends_in key ds ≡ true) ⊎ (others key ds ≡ ds)

-- the row has the same declarations of others, and ends in one of the key or has none
pub record MarksLast (key : ℕ) (old new : Vec Declared Global) : Type 0 where
  pub same : others key new.items ≡ others key old.items
  pub done : IsMarkedLast key new.items
  pub room : vec_capacity new ≡ vec_capacity old

-- the rows of these symbols were marked, and the others are as they were
pub record AllMarkedLast (key : ℕ) (ss : List Numbered) (old new : List (Vec Declared Global)) : Type 0 where
  pub room : KeepsRoom old new
  pub same : (k : ℕ) (d : Vec Declared Global) → k < length old → others key (slice_index_or new k d).items
      ≡ others key (slice_index_or old k d).items
  pub done : (k : ℕ) (d : Vec Declared Global) → k < length old → has_name k ss ≡ true
      → IsMarkedLast key (slice_index_or new k d).items
  pub rest : (k : ℕ) (d : Vec Declared Global) → k < length old → has_name k ss ≡ false
      → (slice_index_or new k d).items ≡ (slice_index_or old k d).items

-- the rows of these symbols, where they were marked, have lost the declarations of the key
pub record ClearedWhere (key : ℕ) (ss : List Numbered) (old new : List (Vec Declared Global)) : Type 0 where
  pub room : KeepsRoom old new
  pub row : (k : ℕ) (d : Vec Declared Global) → k < length old → (has_name k ss ≡ true → IsMarkedLast key
      (slice_index_or old k d).items)
      → (slice_index_or new k d).items ≡ cleared key (has_name k ss) (slice_index_or old k d).items
