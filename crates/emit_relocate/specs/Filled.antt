-- The fields of input sections of objects, in their order.
use Rattle.std.specs.Prelude.{◌≡◌, ℕ, ◌+◌, ◌<◌, ◌^◌, List, [], ◌∷◌, length, map, flat_map, Option, Some, None}
use Rattle.elfobj.specs.Sections.{LinkedSection}
use Rattle.emit_fields.specs.declared.patch.Patch.{Patch}
use Rattle.ldmodel.specs.Image.{section_numbered}
use Rattle.ldmodel.specs.Layout.{PlacedPiece}
use Rattle.ldmodel.specs.Project.{NamedObject}
use Rattle.ldmodel.specs.SymbolValues.{placed_part}
use Rattle.ldmodel.specs.declared.names.ObjectPlace.{ObjectPlace}
use Rattle.ldmodel.specs.declared.sections.Part.TheVariants.{InTable}
use Rattle.emit_relocate.specs.Fields.{IsRun}
use Rattle.emit_relocate.specs.KnownLink.{KnownLink, named_object}

-- an input section: a section of an object
pub record ObjectSection : Type 0 where
  pub object : NamedObject
  pub section : LinkedSection

abbrev pub sections_of : NamedObject → List LinkedSection → List ObjectSection
sections_of object xs = map (λ x. record { object = object; section = x }) xs

-- those of objects, in their order
abbrev pub sections_in : List NamedObject → List ObjectSection
sections_in os = flat_map (λ (object : NamedObject). sections_of object object.object.sections) os

-- the fields of an input section; none where it is not in the output
abbrev pub IsRunAt : KnownLink → ObjectSection → Option PlacedPiece → List Patch → Type 0
IsRunAt link s None run = run ≡ []
IsRunAt link s (Some y) run = IsRun link s.object s.section y.start run

abbrev pub IsRunOf : KnownLink → ObjectSection → List Patch → Type 0
IsRunOf link s run = IsRunAt link s (placed_part link.layout s.object.name (InTable s.section.number)) run

-- where lists end that stand one after another from a place on
abbrev pub ends_of : ℕ → List (List Patch) → List ℕ
ends_of n [] = []
ends_of n (run ∷ runs) = (n + length run) ∷ ends_of (n + length run) runs

-- each input section in the output ends below 2^64, as a layout without faults has it
abbrev pub EndBelow : KnownLink → Type 0
EndBelow link =
    (place : ObjectPlace) (object : NamedObject) (section : LinkedSection) (y : PlacedPiece) → named_object link place
    ≡ Some object
    → section_numbered object section.number ≡ Some section
    → placed_part link.layout object.name (InTable section.number) ≡ Some y
    → y.start + section.size < 2 ^ 64
