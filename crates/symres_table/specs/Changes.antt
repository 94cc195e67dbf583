-- What a call that takes an object out, or enters one, makes of a table of names.
use Rattle.std.specs.Prelude.{ℕ, ◌≡◌, ◌+◌, ◌==◌, ◌≤◌, List, [], drop, insert, length, true}
use Rattle.std.specs.List.{All}
use Rattle.elfobj.specs.Symbols.{NamedSymbol}
use Rattle.symres_table.specs.State.{entries_of, IsMore, IsSameBut, MayEnter, ParksList, SameNames, State, TakesList}
use Rattle.symres_table.specs.State.{without}

-- the object of the key was taken out: `Names::withdraw`
pub record Withdraws (old new : State) (key : ℕ) : Type 0 where
  pub objects : new.objects ≡ without key old.objects
  pub same : IsSameBut old new
  pub order : new.order_room ≡ old.order_room + 1
  pub places : new.place_room ≡ old.place_room + 1
  pub list : ParksList old new key
  pub again : All (λ (t : ℕ × List NamedSymbol). (t.0 == key) ≡ true → MayEnter new t.1) old.objects
  pub others : (symbols : List NamedSymbol) → MayEnter old symbols → MayEnter new symbols

-- an object was entered under the key: `Names::enter`
pub record Enters (old new : State) (key at : ℕ) (symbols : List NamedSymbol) : Type 0 where
  pub within : at ≤ length old.objects
  pub objects : new.objects ≡ insert old.objects at (key, symbols)
  pub same : IsSameBut old new
  pub order : new.order_room + 1 ≡ old.order_room
  pub places : new.place_room + 1 ≡ old.place_room
  pub list : TakesList old new at (length symbols)

-- room was made for an object with this symbol table: `Names::reserve`
pub record Reserves (old new : State) (symbols : List NamedSymbol) : Type 0 where
  pub objects : new.objects ≡ old.objects
  pub more : IsMore old new
  pub may : MayEnter new symbols
  pub unused : All (λ (e : List ℕ × ℕ). entries_of e.0 old.objects ≡ []) (drop (length old.order) new.order)

-- room was made for an object, which was then entered under the key: `Names::add`
pub record Joins (old new : State) (key at : ℕ) (symbols : List NamedSymbol) : Type 0 where
  pub mid : State
  pub reserves : Reserves old mid symbols
  pub enters : Enters mid new key at symbols

-- memory was refused: the objects and the names are as before, and there may be more room
pub record IsRefused (old new : State) : Type 0 where
  pub objects : new.objects ≡ old.objects
  pub more : IsMore old new
  pub names : SameNames old.names new.names
  pub order : new.order ≡ old.order
