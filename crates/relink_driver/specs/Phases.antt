-- What is known of a link after each phase that follows its gathering.
use Rattle.std.specs.Prelude.{◌≡◌, ◌≤◌, ℕ, IfSome, IsSome, List, is_some}
use Rattle.std.specs.List.{All}
use Rattle.emit.specs.image.Redrawings.{ArePatchesOf}
use Rattle.emit.specs.image.Stretches.{EndsBy}
use Rattle.relink_driver.specs.DirtyObjects.{AreDirtyObjects}
use Rattle.relink_driver.specs.StayedSections.{IsPreviousOf, PreviousState, previous_of, range_of}
use Rattle.relink_driver.specs.declared.stayed_sections.StayedSections.{StayedSections}
use Rattle.ldmodel_laws.specs.Untouched.{IsGood}
use Rattle.place.specs.LinkLayout.{IsLinkLayout}
use Rattle.place.specs.declared.link_layout.LinkLayout.{LinkLayout}
use Rattle.ldmodel.specs.Assertions.{assertion_faults}
use Rattle.ldmodel.specs.Edits.{AreNamesDistinct}
use Rattle.ldmodel.specs.Image.{image}
use Rattle.ldmodel.specs.Layout.{Layout}
use Rattle.ldmodel.specs.Link as model
use Rattle.ldmodel.specs.Link.{link, max_image_length, placed, unless}
use Rattle.ldmodel.specs.Project.{Project}
use Rattle.ldmodel.specs.SectionHeaders.{image_length}
use Rattle.ldmodel.specs.Stayed.{GoodLink}
use Rattle.symres.specs.SymbolTable.{SymbolTableState}
use Rattle.emit.specs.Beside.{new_link}
use Rattle.emit.specs.Runs.{AreRunsUnless}
use Rattle.emit.specs.declared.relocated.Relocated.{Relocated}
use Rattle.place.specs.IndexedLayout.{IsIndexedLayout}
use Rattle.place.specs.declared.indexed_layout.IndexedLayout.{IndexedLayout}
use Rattle.emit.specs.relocate.LinkView.{IsLinkView, known_link}
use Rattle.emit.specs.relocate.LinkValues.{AreValues}
use Rattle.emit.specs.relocate.declared.link_view.LinkView.{LinkView}
use Rattle.emit.specs.relocate.declared.values.Values.{Values}

-- the previous link is one without faults
pub record HasPreviousLink (new : Project) (previous : PreviousState) : Type 0 where
  pub old : GoodLink
  pub is : IsPreviousOf old new previous

-- everything has its place, and the layout has no fault but perhaps the length of the image
pub record IsLaidOut (project : Project) (a : IndexedLayout) : Type 0 where
  pub layout : Layout
  pub link_layout : IsLinkLayout project layout a.link_layout
  pub indexed_layout : (layout : Layout) → IsLinkLayout project layout a.link_layout → IsIndexedLayout project layout a
  pub rest : link project ≡ placed project (model.layout project)

-- a link whose parts have their places is known
pub record IsKnown (project : Project) (table : SymbolTableState) (l : LinkLayout) (w : LinkView) : Type 0 where
  pub layout : Layout
  pub link_layout : IsLinkLayout project layout l
  pub view : IsLinkView (known_link project layout table) w
  pub rest : link project ≡ placed project (model.layout project)

-- and all names have their values
pub record IsPlaced (project : Project) (l : LinkLayout) (w : LinkView) (v : Values) : Type 0 where
  pub symbol_table : SymbolTableState
  pub known : IsKnown project symbol_table l w
  pub values : AreValues project known.layout symbol_table v

-- the image is not too long either
pub record IsShort (project : Project) (l : LinkLayout) (w : LinkView) (v : Values) : Type 0 where
  pub placed : IsPlaced project l w v
  pub length : image_length project placed.known.layout ≤ max_image_length
  pub rest : link project ≡ model.relocated project placed.known.layout

-- the tables of a link at a layout beside those of the previous one, if there is one
pub record AreBeside (project : Project) (layout : Layout) (stayed : StayedSections) : Type 0 where
  pub indexed_layout : IsIndexedLayout project layout stayed.indexed_layout.now
  pub previous : IfSome (previous_of stayed.previous) (HasPreviousLink project)
  pub dirty : (old : GoodLink) → IfSome (previous_of stayed.previous) (IsPreviousOf old project)
      → AreDirtyObjects old project layout stayed.dirty.now

-- at the layout of these tables
abbrev pub IsBeside : Project → StayedSections → Type 0
IsBeside project stayed = (layout : Layout) → IsLinkLayout project layout stayed.indexed_layout.now.link_layout
    → AreBeside project layout stayed

-- patches of what stayed: they end within the image, and are those of each previous link that this one may be
pub record ArePatches (project : Project) (layout : Layout) (stayed : StayedSections) (r : Relocated) : Type 0 where
  pub ends : All (EndsBy (image_length project layout)) r.retargeted.items
  pub patches : (old : GoodLink) → IfSome (previous_of stayed.previous) (IsPreviousOf old project)
      → IsSome stayed.previous
      → ArePatchesOf old (new_link project layout) r.retargeted.items

-- all relocations have their fields, but those of what stayed
pub record IsFilled (project : Project) (stayed : StayedSections) (v : Values) (r : Relocated) : Type 0 where
  pub known_by : LinkView
  pub short : IsShort project stayed.indexed_layout.now.link_layout known_by v
  pub names : AreNamesDistinct project.objects
  pub beside : AreBeside project short.placed.known.layout stayed
  pub fields :
      AreRunsUnless (known_link project short.placed.known.layout short.placed.symbol_table)
      (λ k. is_some (range_of stayed k))
      r.patches.items r.ends.items
  pub patches : ArePatches project short.placed.known.layout stayed r
  pub good : IsGood (new_link project short.placed.known.layout)
  pub rest : link project
      ≡ unless (assertion_faults project short.placed.known.layout) (model.good project short.placed.known.layout)

-- all assertions hold
pub record IsFaultless (project : Project) (stayed : StayedSections) (v : Values) (r : Relocated) : Type 0 where
  pub filled : IsFilled project stayed v r
  pub rest : link project ≡ model.good project filled.short.placed.known.layout

-- these bytes are the image at the layout of these tables
abbrev pub IsImage : Project → StayedSections → List ℕ → Type 0
IsImage project stayed bytes =
    (layout : Layout) → IsLinkLayout project layout stayed.indexed_layout.now.link_layout → bytes ≡ image project layout
