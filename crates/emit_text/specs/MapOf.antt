-- Which values the map of a link is made of.
use Rattle.std.specs.Prelude.{◌≡◌, ℕ, List, map, Option, Some, None, true, All, AllPairs, Contains}
use Rattle.ldscript.specs.Numbered.{shown_sections}
use Rattle.ldscript.specs.Numbering.{OutputSectionAt, output_sections}
use Rattle.ldmodel.specs.Layout.{Layout, PlacedPiece, PlacedOutput}
use Rattle.ldmodel.specs.PlacementView.{IsPlacementView}
use Rattle.ldmodel.specs.Names.{declared_names, decision}
use Rattle.ldmodel.specs.OutputSymbols.{is_before, is_defined}
use Rattle.ldmodel.specs.Project.{Project}
use Rattle.ldmodel.specs.Rows as model
use Rattle.ldmodel.specs.SymbolValues.{SymbolValue, Number, NotDefined, NotInOutput, entry_point, name_value}
use Rattle.ldmodel.specs.SymbolValues.{number_or_0}
use Rattle.ldmodel_project.specs.ByPlace.{rows_in}
use Rattle.emit_text.specs.Definer.{definer_of}
use Rattle.emit_text.specs.declared.maps.MapParts.{MapParts}
use Rattle.emit_text.specs.declared.symbols.MapSymbol.{MapSymbol}

-- the entries of the row of an output section
abbrev pub row_of : PlacedOutput → List model.Piece
row_of output = map (λ (placed : PlacedPiece). placed.piece) output.pieces

abbrev pub name_of : PlacedOutput → List ℕ
name_of output = output.name

abbrev pub name_in : OutputSectionAt → List ℕ
name_in o = o.section.name

-- a value, where there is one
abbrev pub IsValue : SymbolValue → Option ℕ → Type 0
IsValue (Number n) v = v ≡ Some n
IsValue NotInOutput v = v ≡ None
IsValue NotDefined v = v ≡ None

-- a name with what defines it and, where that is something, its value; the name is then one that is declared
pub record IsSymbolOf (project : Project) (layout : Layout) (x : MapSymbol) : Type 0 where
  pub definer : x.definer ≡ definer_of (decision project x.name.now)
  pub value : is_defined (decision project x.name.now) ≡ true → IsValue (name_value project layout x.name.now) x.value
  pub declared : is_defined (decision project x.name.now) ≡ true → Contains (declared_names project) x.name.now

-- such names in byte order, each once
pub record AreSymbolsOf (project : Project) (layout : Layout) (xs : List MapSymbol) : Type 0 where
  pub each : All (IsSymbolOf project layout) xs
  pub order : AllPairs (λ (x y : MapSymbol). is_before x.name.now y.name.now ≡ true) xs

abbrev pub symbol_names : List MapSymbol → List (List ℕ)
symbol_names xs = map (λ (x : MapSymbol). x.name.now) xs

-- the values are those of a project's link, which stands at a layout
pub record IsMapOf (project : Project) (layout : Layout) (m : MapParts) (symbols : List MapSymbol) : Type 0 where
  pub entry : m.entry ≡ number_or_0 (entry_point project layout)
  pub sections : shown_sections m.sections.now ≡ output_sections project.script
  pub names : map name_of layout.sections ≡ map name_in (output_sections project.script)
  pub placement : IsPlacementView project.script layout m.placement
  pub rows : rows_in project m.rows.now ≡ map row_of layout.sections
  pub listed : AreSymbolsOf project layout symbols
  -- each name that stands for something is one of theirs
  pub complete : (name : List ℕ) → Contains (declared_names project) name → is_defined (decision project name) ≡ true
      → Contains (symbol_names symbols) name
