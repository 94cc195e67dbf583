-- What is to come, told by a previous layout.
use Rattle.std.specs.Prelude.{◌≡◌, ℕ, List, ◌++◌, length, map, flat_map, Result, Ok, true}
use Rattle.ldscript.specs.statements.declared.statement.Statement.{Statement}
use Rattle.ldmodel.specs.Fault.{Fault}
use Rattle.ldmodel.specs.Layout.{Layout, PlacedOutput}
use Rattle.ldmodel.specs.PlacementView.{data_of, placed_of, starts_of, symbol_of}
use Rattle.ldmodel.specs.declared.script_symbol.DirectiveIndex.{DirectiveIndex}
use Rattle.place_terms.specs.LayoutSymbols.{AreFound, Rises}
use Rattle.place_sections.specs.Boundaries.{data_in}
use Rattle.place_sections.specs.Places.{Places, Ends}
use Rattle.place_sections.specs.declared.reusable_placement.ReusablePlacement.{ReusablePlacement}

-- all of a placement, before the row of a number, where these PROVIDEs are in force now
pub record Keeps (p : Places) (first : ℕ) (provided : List DirectiveIndex) (k : ReusablePlacement) : Type 0 where
  pub sections : k.previous.sections.now ≡ p.sections
  pub counts : k.previous.counts.now ≡ p.counts
  pub starts : k.previous.starts.now ≡ p.starts
  pub data_commands : k.previous.data_commands.now ≡ p.data_commands
  pub dots : k.dots.now ≡ p.dots
  pub symbols : k.symbols.now ≡ p.symbols
  pub boundaries : k.boundaries.now ≡ p.boundaries
  pub ends : Ends k.previous.sections.now
  pub first_is : k.first ≡ first
  pub provided_is : k.same_provided ≡ true → p.provided ≡ provided

-- a list begins with these
pub record Begins {X : Type 0} (xs ys : List X) : Type 0 where
  pub later : List X
  pub is : ys ≡ xs ++ later

abbrev pub counts_of : List PlacedOutput → List ℕ
counts_of sections = map (λ (output : PlacedOutput). length output.pieces) sections

-- it comes to a layout with which the kept one begins; symbols are those of a script
pub record Leads (script : List Statement) (k : ReusablePlacement) (wanted : Result Layout Fault) : Type 0 where
  pub layout : Layout
  pub comes : wanted ≡ Ok layout
  pub sections : Begins (map placed_of layout.sections) k.previous.sections.now
  pub counts : Begins (counts_of layout.sections) k.previous.counts.now
  pub starts : Begins (flat_map starts_of layout.sections) k.previous.starts.now
  pub data_commands : Begins (data_in layout.sections) (map data_of k.previous.data_commands.now)
  pub dots : Begins layout.dots k.dots.now
  pub symbols : Begins layout.symbols (map (symbol_of script) k.symbols.now)
  pub found : AreFound script k.symbols.now
  pub rises : Rises k.symbols.now
  pub ends : Ends k.previous.sections.now
