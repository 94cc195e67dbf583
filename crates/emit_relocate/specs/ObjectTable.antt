-- All objects of a link as the look-ups of their symbols need them.
use Rattle.std.specs.Prelude.{◌≡◌, ℕ, List, Some, length, slice_get}
use Rattle.ldmodel.specs.Project.{Project}
use Rattle.place.specs.declared.indexed_layout.IndexedLayout.{IndexedLayout}
use Rattle.emit_relocate.specs.ObjectParts.{AreAddresses, AreSymbols}
use Rattle.emit_relocate.specs.declared.object_parts.ObjectParts.{ObjectParts}
use Rattle.emit_relocate.specs.declared.object_table.ObjectTable.{ObjectTable}

-- an object, with its symbols and the addresses of its sections
pub record IsObject (project : Project) (layout : IndexedLayout) (n : ℕ) (x : ObjectParts) : Type 0 where
  pub place : x.place.0 ≡ n
  pub symbols : AreSymbols project x
  pub addresses : AreAddresses layout x

-- each stands at its place
abbrev pub AreObjects : Project → IndexedLayout → List ObjectParts → Type 0
AreObjects project layout xs =
    (n : ℕ) (x : ObjectParts) → slice_get xs n ≡ Some x → IsObject project layout n x

-- all objects of the project
pub record IsObjectTable (project : Project) (layout : IndexedLayout) (t : ObjectTable) : Type 0 where
  pub all : length t.objects.items ≡ length project.objects
  pub objects : AreObjects project layout t.objects.items
