-- What the code has at hand where it goes over the input sections of a link: the link and a previous one, and an input
-- section, before its place in the output is known, in its place, and beside the previous link.
use Rattle.std.specs.Prelude.{◌≡◌, List, Option, None, Some, slice_get}
use Rattle.elfobj.specs.declared.relocation.Relocation.{Relocation}
use Rattle.ldmodel.specs.Layout.{PlacedPiece}
use Rattle.ldmodel.specs.Project.{NamedObject}
use Rattle.ldmodel.specs.Relocations.{Site}
use Rattle.ldmodel.specs.Stayed.{GoodLink}
use Rattle.ldmodel.specs.SymbolValues.{placed_part}
use Rattle.ldmodel.specs.declared.names.ObjectPlace.{ObjectPlace}
use Rattle.ldmodel.specs.declared.sections.Part.TheVariants.{InTable}
use Rattle.ldmodel.specs.declared.sections.SectionRef.{SectionRef}
use Rattle.emit_relocate.specs.PreviousLinkInfo.{HasSameValues, HasStayedAt, HasSomeStayed, HasWhollyStayed}
use Rattle.emit_relocate.specs.Fields.{sites_among}
use Rattle.emit_relocate.specs.Filled.{EndBelow, ObjectSection}
use Rattle.emit_relocate.specs.KnownLink.{KnownLink, named_object}
use Rattle.emit_relocate.specs.LinkView.{IsLinkView}
use Rattle.emit_relocate.specs.Sites.{IsPlaced}
use Rattle.emit_relocate.specs.SymbolValues.{AreValuesOf, HasSymbolValues, IsRow}
use Rattle.emit_relocate.specs.declared.changed_fields.Links.{Links}
use Rattle.emit_relocate.specs.declared.previous_link_info.FileRange.{FileRange}
use Rattle.emit_relocate.specs.declared.input_section.InputSection.{InputSection}
use Rattle.emit_relocate.specs.declared.retargeted.StayedSection.{StayedSection}
use Rattle.emit_relocate.specs.declared.site.PlacedInput.{PlacedInput}

-- these may be the links at hand, by what the linker knows of them: `knows` of `PreviousLinkInfo`
pub record AreLinks {E : Type 0} (knows : E → GoodLink → KnownLink → Type 0) (m : Links E) (old : GoodLink)
    (l : KnownLink) : Type 0 where
  -- the link whose relocations are evaluated
  pub link : IsLinkView l m.link.now
  -- the previous one beside it
  pub previous : knows m.previous.now old l
  -- the values are those of the symbols of the link's objects
  pub symbols : HasSymbolValues l m.symbols.now
  -- its layout has no input section past the end of the address space
  pub below : EndBelow l

-- an input section is that at hand
pub record IsAtHand (link : KnownLink) (m : InputSection) (s : ObjectSection) : Type 0 where
  -- its place is that of the section's object
  pub object_is : named_object link m.place ≡ Some s.object
  -- which was read
  pub read_is : s.object.object ≡ m.object.now
  -- the section has this place among those of its object
  pub section_is : slice_get s.object.object.sections m.index.0 ≡ Some s.section
  -- the values are those of the object's symbols
  pub values_are : IsRow link s.object m.values.now

-- an input section is that at hand, where it is in the output
pub record IsPlacedAt (link : KnownLink) (s : ObjectSection) (m : PlacedInput) : Type 0 where
  -- its place in the layout
  pub piece : PlacedPiece
  pub piece_is : placed_part link.layout s.object.name (InTable s.section.number) ≡ Some piece
  pub start_is : m.start ≡ piece.start
  -- the section itself
  pub section_is : IsPlaced link m s.object s.section

-- it is there, or not in the output
abbrev pub IsPlaceOf : KnownLink → ObjectSection → Option PlacedInput → Type 0
IsPlaceOf link s None = placed_part link.layout s.object.name (InTable s.section.number) ≡ None
IsPlaceOf link s (Some m) = IsPlacedAt link s m

-- a site of it, and the sites among relocations of it
abbrev pub site_at_hand : PlacedInput → ObjectSection → Relocation → Site
site_at_hand m s relocation =
    record { object = s.object; section = s.section; start = m.start; relocation = relocation }

abbrev pub sites_at_hand : PlacedInput → ObjectSection → List Relocation → List Site
sites_at_hand m s rs = sites_among s.object s.section m.start rs

-- the input section of a key stayed, as is known, with its bytes in this range of the file
pub record IsFoundStayedAt (old : GoodLink) (link : KnownLink) (range : SectionRef → Option FileRange)
    (key : SectionRef)
    (r : FileRange) : Type 0 where
  -- what is known
  pub known : Some r ≡ range key
  -- and is so
  pub stayed : HasStayedAt old link key r

-- nothing is to be evaluated of an object: its sections stayed, as is known and is so, or are not in the output, and no
-- symbol of it has another value, if one stayed
pub record NeedsNoEvaluation (old : GoodLink) (link : KnownLink) (range : SectionRef → Option FileRange)
    (object : NamedObject)
    : Type 0 where
  pub place : ObjectPlace
  pub named : named_object link place ≡ Some object
  pub wholly_stayed : HasWhollyStayed old link range place
  pub values : HasSomeStayed range place → HasSameValues old link place

-- an input section is that at hand, with the values that the symbols of its object had in the previous link
pub record IsStayedAt (m : StayedSection) (old : GoodLink) (link : KnownLink) (s : ObjectSection) : Type 0 where
  -- the values that they had
  pub before : AreValuesOf old.project old.layout s.object m.before.now
  -- the section in its place
  pub section_is : IsPlaced link m.section s.object s.section
