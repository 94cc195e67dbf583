-- What a project says of an input section by its key.
use Rattle.std.specs.Prelude.{◌≡◌, ℕ, List, []}
use Rattle.std.specs.Option.{option_map_or}
use Rattle.elfobj.specs.Sections.{LinkedSection}
use Rattle.elfobj.specs.declared.relocation.Relocation.{Relocation}
use Rattle.ldmodel.specs.FaultCode.{name_of_part, section_at}
use Rattle.ldmodel.specs.NameFaults.{object_name}
use Rattle.ldmodel.specs.Project.{Project}
use Rattle.ldmodel.specs.Sections.{InputSection}
use Rattle.ldmodel.specs.declared.sections.Part.{Part}
use Rattle.ldmodel.specs.declared.sections.Part.TheVariants.{InTable, InCommon}

-- the relocations of a part of an object; a common block has none
abbrev pub relocations_of : Project → ℕ → Part → List Relocation
relocations_of project object (InTable k) =
    option_map_or (λ (section : LinkedSection). section.relocations) (section_at project object k) []
relocations_of project object (InCommon x) = []

-- its names and relocations are those that its key has in the project
pub record IsFound (project : Project) (section : InputSection) : Type 0 where
  pub object : object_name project section.id.object ≡ section.object
  pub name : name_of_part project section.id.object section.id.part ≡ section.name
  pub relocations : relocations_of project section.id.object section.id.part ≡ section.relocations
