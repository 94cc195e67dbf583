-- The fields of input sections of which some stay.
use Rattle.std.specs.Prelude.{◌≡◌, ℕ, List, Bool, Some, false, flat_map, slice_get}
use Rattle.std.specs.List.{AllZip}
use Rattle.emit_fields.specs.declared.patch.Patch.{Patch}
use Rattle.ldmodel.specs.declared.names.ObjectPlace.{ObjectPlace}
use Rattle.ldmodel.specs.declared.sections.Part.TheVariants.{InTable}
use Rattle.ldmodel.specs.declared.sections.SectionRef.{SectionRef}
use Rattle.emit_relocate.specs.Filled.{IsRunOf, ObjectSection, ends_of, sections_in}
use Rattle.emit_relocate.specs.KnownLink.{KnownLink}

-- the key of an input section, by its object's
abbrev pub key_in : ObjectPlace → ObjectSection → SectionRef
key_in object s = record { object = object; part = InTable s.section.number }

-- the fields of an input section, unless its key stays; the key of an object is its place
abbrev pub IsRunUnless : KnownLink → (SectionRef → Bool) → ObjectSection → List Patch → Type 0
IsRunUnless link stays s run =
    (object : ObjectPlace) → slice_get link.project.objects object.0 ≡ Some s.object → stays (key_in object s) ≡ false
    → IsRunOf link s run

-- the fields of each input section, one after another, and where those of each end; of those that stay nothing is said
pub record AreRunsUnless (link : KnownLink) (stays : SectionRef → Bool) (xs : List Patch) (places : List ℕ)
    : Type 0 where
  pub runs : List (List Patch)
  pub patches : xs ≡ flat_map (λ run. run) runs
  pub ends : places ≡ ends_of 0 runs
  pub each : AllZip (IsRunUnless link stays) (sections_in link.project.objects) runs
