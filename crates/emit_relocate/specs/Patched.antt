-- Fields of sites in input sections that stayed, in their places in the file.
use Rattle.std.specs.Prelude.{◌≡◌, ℕ, ◌+◌, ◌<◌, ◌≤◌, List, length, Contains, Ok}
use Rattle.std.specs.List.{AllZip}
use Rattle.std.specs.List.Sorted.{IsPermutation}
use Rattle.elfobj.specs.Profile.{AreApart, HasRelocationsOfProfile}
use Rattle.elfobj.specs.RelocationKinds.{width}
use Rattle.elfobj.specs.Sections.{LinkedSection}
use Rattle.emit_fields.specs.Patches.{patch_end}
use Rattle.emit_fields.specs.declared.patch.Patch.{Patch}
use Rattle.ldmodel.specs.Project.{NamedObject, Project}
use Rattle.ldmodel.specs.Relocations.{Site, site_field}
use Rattle.ldmodel.specs.Stayed.{GoodLink, LinkedPiece, link_pieces, retargeted, sites_in, stayed}

-- the field of a site of an input section, in its place in the file
abbrev pub file_patch : LinkedPiece → Site → List ℕ → Patch
file_patch piece site field = record { offset = piece.range.offset + site.relocation.offset; field = field }

-- the relocations of each section are of the profile, as the object reader has found
abbrev pub AreOfProfile : Project → Type 0
AreOfProfile project =
    (object : NamedObject) (section : LinkedSection) → Contains project.objects object
    → Contains object.object.sections section
    → HasRelocationsOfProfile (length object.object.symbols) section

-- an input section in the output with sites has the size of its section
abbrev pub AreSized : GoodLink → Type 0
AreSized link =
    (piece : LinkedPiece) (site : Site) → Contains (link_pieces link) piece
    → Contains (sites_in link.project piece) site
    → piece.size ≡ site.section.size

-- an input section in the output with sites has all bytes of its section in the file
abbrev pub AreInFile : GoodLink → Type 0
AreInFile link =
    (piece : LinkedPiece) (site : Site) → Contains (link_pieces link) piece
    → Contains (sites_in link.project piece) site
    → piece.range.length ≡ site.section.size

-- the new field of a site of an input section that stayed, where the relocations of the section share no byte
pub record IsPatchOfSite (old new : GoodLink) (q : Patch) : Type 0 where
  pub piece : LinkedPiece
  pub site : Site
  pub among_stayed : Contains (stayed old new) piece
  pub among : Contains (sites_in new.project piece) site
  pub apart : AreApart site.section.relocations
  pub is_field : site_field new.project new.layout site ≡ Ok q.field
  pub place : q ≡ file_patch piece site q.field
  pub inside : patch_end q ≤ piece.range.offset + piece.range.length

-- those whose symbol has another value have one, where their input section has bytes in the file
abbrev pub AreAllPatched : GoodLink → GoodLink → List Patch → Type 0
AreAllPatched old new patches =
    (piece : LinkedPiece) (site : Site) (field : List ℕ) → Contains (stayed old new) piece → 0 < piece.range.length
    → Contains (sites_in new.project piece) site → Contains (retargeted old new) site
    → site_field new.project new.layout site ≡ Ok field → Contains patches (file_patch piece site field)

-- exactly one for each of them
pub record AreOneEach (old new : GoodLink) (patches : List Patch) : Type 0 where
  pub sites : List Site
  pub parts : IsPermutation sites (retargeted old new)
  pub widths : AllZip (λ (site : Site) (q : Patch). length q.field ≡ width site.relocation.kind) sites patches
