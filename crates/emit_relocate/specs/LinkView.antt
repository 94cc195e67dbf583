-- A link as the evaluation of relocations knows it.
use Rattle.std.specs.Prelude.{◌≡◌, ℕ, List, None, Some, slice_index_or}
use Rattle.ldmodel.specs.Layout.{Layout, script_value}
use Rattle.ldmodel.specs.Project.{Project}
use Rattle.symres.specs.Decided.{HasCase}
use Rattle.symres.specs.SymbolTable.{IsSymbolTable, SymbolTableState}
use Rattle.place.specs.IndexedLayout.{IsIndexedLayout}
use Rattle.emit_relocate.specs.KnownLink.{KnownLink}
use Rattle.emit_relocate.specs.declared.link_view.LinkView.{LinkView}

-- a project at a layout; the key of an object is its place, and names have the keys of a table
abbrev pub known_link : Project → Layout → SymbolTableState → KnownLink
known_link project layout table =
    record { project = project; layout = layout; number = λ key. key; name = λ k. slice_index_or table.names k None }

-- what is kept is that of the link
pub record IsLinkView (l : KnownLink) (v : LinkView) : Type 0 where
  pub project : l.project ≡ v.project.now
  pub link : l ≡ known_link l.project l.layout v.symbol_table.now
  pub symbol_table : IsSymbolTable l.project v.symbol_table.now
  pub indexed_layout : IsIndexedLayout l.project l.layout v.indexed_layout.now
  pub given : (k : ℕ) (name : List ℕ) → l.name k ≡ Some name
      → slice_index_or v.given.items k None ≡ script_value l.layout name
  pub cases : (k : ℕ) (name : List ℕ) → l.name k ≡ Some name → HasCase v.symbol_table.now.cases k
