-- What is known of a previous link beside a new one.
use Rattle.std.specs.Prelude.{◌≡◌, ◌⊎◌, Option, None, Some, Contains, IfSome, IsSome, Bool, true, false, not, ◌==◌}
use Rattle.elfobj.specs.declared.section.SectionIndex.{SectionIndex}
use Rattle.ldmodel.specs.Relocations.{Site, site_value}
use Rattle.ldmodel.specs.Stayed as model
use Rattle.ldmodel.specs.Stayed.{GoodLink, LinkedPiece, has_stayed, link_pieces}
use Rattle.ldmodel.specs.SymbolValues.{SymbolValue, Number, NotDefined, NotInOutput}
use Rattle.ldmodel.specs.declared.names.ObjectPlace.{ObjectPlace}
use Rattle.ldmodel.specs.declared.sections.Part.{Part}
use Rattle.ldmodel.specs.declared.sections.Part.TheVariants.{InTable}
use Rattle.ldmodel.specs.declared.sections.SectionRef.{SectionRef}
use Rattle.emit_relocate.specs.KnownLink.{KnownLink, name_of_object, named_object, start_of}
use Rattle.emit_relocate.specs.declared.previous_link_info.FileRange.{FileRange}

-- the link without what keys stand for
abbrev pub good_link : KnownLink → GoodLink
good_link link = record { project = link.project; layout = link.layout }

-- an input section in the output, by its key
pub record IsPieceOf (link : KnownLink) (key : SectionRef) (piece : LinkedPiece) : Type 0 where
  pub among : Contains (link_pieces (good_link link)) piece
  pub object_is : piece.object ≡ name_of_object link key.object
  pub part_is : piece.part ≡ key.part

abbrev pub range_of : FileRange → model.FileRange
range_of r = record { offset = r.offset; length = r.length }

-- the input section of a key stayed, with its bytes in this range of the file
abbrev pub HasStayedAt : GoodLink → KnownLink → SectionRef → FileRange → Type 0
HasStayedAt old link key r =
    (piece : LinkedPiece) → IsPieceOf link key piece → (has_stayed old piece ≡ true) × (piece.range ≡ range_of r)

-- the input section of a key stayed, as is known and is so
pub record IsFoundStayed (old : GoodLink) (link : KnownLink) (range : SectionRef → Option FileRange) (key : SectionRef)
    : Type 0 where
  -- what is known
  pub known : IsSome (range key)
  -- and is so
  pub stayed : IfSome (range key) (HasStayedAt old link key)

-- it is not known to have stayed, and is not in the output
pub record IsAbsentAt (link : KnownLink) (range : SectionRef → Option FileRange) (key : SectionRef) : Type 0 where
  pub unknown : range key ≡ None
  pub absent : start_of link key ≡ None

-- each section of an object stayed, as is known and is so, or is not in the output
abbrev pub HasWhollyStayed : GoodLink → KnownLink → (SectionRef → Option FileRange) → ObjectPlace → Type 0
HasWhollyStayed old link range place =
    (number : SectionIndex) → IsFoundStayed old link range (record { object = place; part = InTable number })
    ⊎ IsAbsentAt link range (record { object = place; part = InTable number })

-- some section of an object is known to have stayed
abbrev pub HasSomeStayed : (SectionRef → Option FileRange) → ObjectPlace → Type 0
HasSomeStayed range key = (part : Part) × IsSome (range (record { object = key; part = part }))

-- no symbol that a relocation of the object could name has another value
abbrev pub HasSameValues : GoodLink → KnownLink → ObjectPlace → Type 0
HasSameValues old link key =
    (site : Site) → named_object link key ≡ Some site.object
    → site_value old.project old.layout site ≡ site_value link.project link.layout site

-- each section that stayed is known to have stayed
abbrev pub IsComplete : (SectionRef → Option FileRange) → GoodLink → KnownLink → Type 0
IsComplete range old link =
    (key : SectionRef) (piece : LinkedPiece) → range key ≡ None → IsPieceOf link key piece → has_stayed old piece
    ≡ false

-- values of symbols are the same; they are compared as what they are, since 0 stands for many things
abbrev pub is_same_value : SymbolValue → SymbolValue → Bool
is_same_value (Number a) (Number b) = a == b
is_same_value (Number a) NotDefined = false
is_same_value (Number a) NotInOutput = false
is_same_value NotDefined (Number b) = false
is_same_value NotDefined NotDefined = true
is_same_value NotDefined NotInOutput = false
is_same_value NotInOutput (Number b) = false
is_same_value NotInOutput NotDefined = false
is_same_value NotInOutput NotInOutput = true

-- the site's symbol has another value
abbrev pub has_new_value : GoodLink → KnownLink → Site → Bool
has_new_value old link site =
    not (is_same_value (site_value old.project old.layout site) (site_value link.project link.layout site))
