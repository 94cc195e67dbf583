-- What was found of objects as they were read.
use Rattle.std.specs.Prelude.{◌≡◌, ◌<◌, List, length, map, Some, slice_get}
use Rattle.std.specs.List.{All, AllPairs}
use Rattle.elfobj.specs.Object.{ObjectData, object_of}
use Rattle.elfobj.specs.Profile.{HasRelocationsOfProfile}
use Rattle.elfobj.specs.Sections.{LinkedSection, section_of}
use Rattle.elfobj.specs.declared.section.Section.{Section}
use Rattle.ldmodel.specs.declared.names.ObjectPlace.{ObjectPlace}

-- the numbers of the sections of an object ascend, as the object reader gives them
abbrev pub AreAscending : List LinkedSection → Type 0
AreAscending xs = AllPairs (λ (s t : Section). s.number.0 < t.number.0) (map section_of xs)

-- an object is what its bytes spell, its sections have ascending numbers, and the relocations of each are of the
-- profile
pub record IsRead (o : ObjectData) : Type 0 where
  pub spelt : o ≡ object_of o.text
  pub ascending : AreAscending o.sections
  pub relocations : All (HasRelocationsOfProfile (length o.symbols)) o.sections
