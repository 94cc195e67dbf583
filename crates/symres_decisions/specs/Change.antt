-- What changes under the key of an object.
use Rattle.std.specs.Prelude.{ℕ, ◌≡◌, ◌<◌, ◌≤◌, List, [], Option, Some, None, length, insert, remove, slice_index_or}
use Rattle.elfobj.specs.Symbols.{NamedSymbol}
use Rattle.symres_table.specs.Changes.{Enters, Withdraws}
use Rattle.symres_table.specs.State.{IsFresh, MayEnter, State, without}
use Rattle.symres_decisions.specs.Counted.{declared_in}
use Rattle.symres_decisions.specs.Decisions.{DecisionsState}
use Rattle.symres_decisions.specs.Texts.{AreFound}
use Rattle.symres_decisions.specs.declared.change.ObjectAt.{ObjectAt}
use Rattle.symres_decisions.specs.declared.change.ObjectChange.{ObjectChange}
use Rattle.symres_decisions.specs.declared.texts.KeySource.TheVariants as sources

abbrev pub Table : Type 0
Table = ℕ × List NamedSymbol

-- the symbol table of an object
abbrev pub symbols_at : ObjectAt → List NamedSymbol
symbols_at x = x.object.now.symbols

-- that of an object, if there is one
abbrev pub symbols_or : Option ObjectAt → List NamedSymbol
symbols_or None = []
symbols_or (Some x) = symbols_at x

-- the names that an object declares, if there is one
abbrev pub declared_by : Option ObjectAt → List (List ℕ)
declared_by x = declared_in (symbols_or x)

-- the symbol tables after an object went
abbrev pub taken_out : List Table → ℕ → Option ObjectAt → List Table
taken_out tables key None = tables
taken_out tables key (Some x) = without key tables

-- those after an object came
abbrev pub put_in : List Table → ℕ → Option ObjectAt → List Table
put_in tables key None = tables
put_in tables key (Some x) = insert tables x.place (key, symbols_at x)

-- those after a change
abbrev pub changed_tables : List Table → ObjectChange → List Table
changed_tables tables c = put_in (taken_out tables c.key.0 c.out) c.key.0 c.into

-- the change back
abbrev pub reversed : ObjectChange → ObjectChange
reversed c = record { key = c.key; out = c.into; into = c.out }

-- the object stands at its place under the key, and no other has the key
pub record StandsAt (tables : List Table) (key : ℕ) (x : ObjectAt) : Type 0 where
  pub within : x.place < length tables
  pub is : (t : Table) → slice_index_or tables x.place t ≡ (key, symbols_at x)
  pub only : IsFresh key (remove tables x.place)

-- what goes is there; where nothing goes, no object has the key
abbrev pub CanGo : List Table → ℕ → Option ObjectAt → Type 0
CanGo tables key None = IsFresh key tables
CanGo tables key (Some x) = StandsAt tables key x

-- there is such a place among those that stay
abbrev pub CanCome : List Table → Option ObjectAt → Type 0
CanCome tables None = Unit {0}
CanCome tables (Some x) = x.place ≤ length tables

-- the change fits the entered objects
pub record Fits (tables : List Table) (c : ObjectChange) : Type 0 where
  pub out : CanGo tables c.key.0 c.out
  pub into : CanCome (taken_out tables c.key.0 c.out) c.into

-- what comes can be entered, and no memory is taken
abbrev pub MayCome : State → Option ObjectAt → Type 0
MayCome s None = Unit {0}
MayCome s (Some x) = MayEnter s (symbols_at x)

-- what comes can be entered in each state that the withdrawal of what goes leads to
abbrev pub MayFollow : State → ℕ → (out into : Option ObjectAt) → Type 0
MayFollow s key None into = MayCome s into
MayFollow s key (Some x) into = (t : State) → Withdraws s t key → MayCome t into

-- the change can be made, and no memory is taken
pub record IsReadyFor (d : DecisionsState) (c : ObjectChange) : Type 0 where
  pub fits : Fits d.names.objects c
  pub room : MayFollow d.names c.key.0 c.out c.into

-- what goes was taken out
abbrev pub TakesOut : (old new : State) → ℕ → Option ObjectAt → Type 0
TakesOut old new key None = new ≡ old
TakesOut old new key (Some x) = Withdraws old new key

-- what comes was entered
abbrev pub PutsIn : (old new : State) → ℕ → Option ObjectAt → Type 0
PutsIn old new key None = new ≡ old
PutsIn old new key (Some x) = Enters old new key x.place (symbols_at x)

-- the object is there, if there is one
abbrev pub AreThere : State → Option ObjectAt → Type 0
AreThere s None = Unit {0}
AreThere s (Some x) = AreFound s (sources.Entered (record { 0 = x.place })) (symbols_at x)
