-- Which relocations lie in input sections that stayed, and an index that finds them (this project's own).
use Rattle.std.specs.Prelude.{◌≡◌, ◌≢◌, ℕ, List, Bool, ◌&&◌, bytes_eq, Contains, Some}
use Rattle.std.specs.List.{list_any}
use Rattle.elfobj.specs.Symbols.{NamedSymbol}
use Rattle.ldmodel.specs.Layout.{Layout}
use Rattle.ldmodel.specs.Project.{Project}
use Rattle.ldmodel.specs.Relocations.{Site, sites, site_symbol}
use Rattle.ldmodel.specs.Sections.{is_same_part}
use Rattle.ldmodel.specs.Stayed.{GoodLink, LinkedPiece, stayed}
use Rattle.ldmodel.specs.Targets.{Target, target_number, target_of}
use Rattle.ldmodel.specs.declared.sections.Part.{Part}
use Rattle.ldmodel.specs.declared.sections.Part.TheVariants.{InTable}

-- an input section in the output is this part of an object
abbrev pub is_linked_part : List ℕ → Part → LinkedPiece → Bool
is_linked_part object part piece = bytes_eq piece.object object && is_same_part piece.part part

-- a part of an object is among the input sections that stayed
abbrev pub has_part_stayed : GoodLink → GoodLink → List ℕ → Part → Bool
has_part_stayed old new object part = list_any (is_linked_part object part) (stayed old new)

-- the section of a site is
abbrev pub lies_in_stayed : GoodLink → GoodLink → Site → Bool
lies_in_stayed old new site = has_part_stayed old new site.object.name (InTable site.section.number)

-- an index from targets to sites has each site of a link under the target of its symbol
abbrev pub HasSites : Project → Layout → (Target → List Site) → Type 0
HasSites project layout index =
    (site : Site) (a : NamedSymbol) → Contains (sites project layout) site → site_symbol site ≡ Some a
    → Contains (index (target_of site.object a)) site

-- a target under which an index has a site, with another number in the two links
pub record IsFound (old new : GoodLink) (index : Target → List Site) (site : Site) : Type 0 where
  pub target : Target
  pub among : Contains (index target) site
  pub moved : target_number old.project old.layout target ≢ target_number new.project new.layout target
