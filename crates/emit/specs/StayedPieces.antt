-- Which input sections of an image stay where a previous link has them.
use Rattle.std.specs.Prelude.{◌≡◌, Bool, Contains, IfSome, Option, true}
use Rattle.emit_image.specs.declared.section.ImagePiece.{ImagePiece}
use Rattle.ldmodel.specs.Layout.{PlacedPiece}
use Rattle.ldmodel.specs.NameFaults.{object_name}
use Rattle.ldmodel.specs.Project.{Project}
use Rattle.ldmodel.specs.Stayed.{GoodLink, LinkedPiece, has_stayed, link_pieces}
use Rattle.ldmodel.specs.declared.sections.SectionRef.{SectionRef}
use Rattle.emit_relocate.specs.PreviousLinkInfo.{HasStayedAt}
use Rattle.emit_relocate.specs.KnownLink.{KnownLink}
use Rattle.emit_relocate.specs.declared.previous_link_info.FileRange.{FileRange}

-- an input section stays if its key does
pub record IsStayedByKey (project : Project) (stays : SectionRef → Bool) (w : PlacedPiece)
    (y : ImagePiece) : Type 0 where
  pub section : SectionRef
  pub object : object_name project section.object.0 ≡ w.piece.object
  pub part : section.part ≡ w.piece.part
  pub is : y.stays ≡ stays section

-- an input section of a link by its key
pub record IsKeyed (link : GoodLink) (k : SectionRef) (piece : LinkedPiece) : Type 0 where
  pub among : Contains (link_pieces link) piece
  pub object : object_name link.project k.object.0 ≡ piece.object
  pub part : k.part ≡ piece.part

-- what stays has stayed
abbrev pub HaveStayed : GoodLink → GoodLink → (SectionRef → Bool) → Type 0
HaveStayed old new stays =
    (k : SectionRef) (piece : LinkedPiece) → stays k ≡ true → IsKeyed new k piece → has_stayed old piece ≡ true

-- what has stayed stays
abbrev pub AreAllThatStayed : GoodLink → GoodLink → (SectionRef → Bool) → Type 0
AreAllThatStayed old new stays =
    (k : SectionRef) (piece : LinkedPiece) → IsKeyed new k piece → has_stayed old piece ≡ true → stays k ≡ true

-- each section that is known to have stayed has
abbrev pub IsSound : (SectionRef → Option FileRange) → GoodLink → KnownLink → Type 0
IsSound range old link = (key : SectionRef) → IfSome (range key) (HasStayedAt old link key)
