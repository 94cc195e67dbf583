-- Two links of which one object differs in the bytes and the relocations of its sections alone, at one layout.
use Rattle.std.specs.Prelude.{◌≡◌, ◌+◌, ◌≤◌, ◌<◌, ◌⊎◌, ℕ, [], Some, slice_get}
use Rattle.std.specs.List.{All}
use Rattle.elfobj.specs.Sections.{LinkedSection}
use Rattle.elfobj.specs.declared.section.SectionKind.TheVariants.{Nobits}
use Rattle.ldmodel.specs.Each.{Each}
use Rattle.ldmodel.specs.Edits.{AreNamesDistinct}
use Rattle.ldmodel.specs.Project.{NamedObject, Project}
use Rattle.ldmodel.specs.Stayed.{FileRange}
use Rattle.ldmodel.specs.declared.names.ObjectPlace.{ObjectPlace}
use Rattle.ldmodel_laws.specs.ImageBytes.{AreNamed}
use Rattle.ldmodel_laws.specs.Outline.{HasSameFrame, DiffersInContents}
use Rattle.ldmodel_laws.specs.Spread.{IsSpread}
use Rattle.emit_relocate.specs.KnownLink.{KnownLink, named_object}

-- an offset of the file is outside of a range
abbrev pub IsOutside : ℕ → FileRange → Type 0
IsOutside at r = (at < r.offset) ⊎ (r.offset + r.length ≤ at)

-- a NOBITS section has no bytes of its own and no relocations
pub record IsBare (section : LinkedSection) : Type 0 where
  pub bytes : section.kind ≡ Nobits → section.bytes ≡ []
  pub relocations : section.kind ≡ Nobits → section.relocations ≡ []

-- the link comes of one of another project, at the same layout, by what the sections of the object of a place hold
pub record IsInPlaceRewrite (old : Project) (link : KnownLink) (place : ObjectPlace) (object : NamedObject)
    : Type 0 where
  pub rewritten : DiffersInContents old link.project (link.number place.0)
  pub frame : HasSameFrame old link.project link.layout
  pub object_is : named_object link place ≡ Some object
  pub names : AreNamesDistinct link.project.objects
  pub spread : Each IsSpread link.layout.sections
  pub named : AreNamed link.layout.sections
  pub bare : (a : NamedObject) → slice_get old.objects (link.number place.0) ≡ Some a → All IsBare a.object.sections
