-- How the references of a project are found.
use Rattle.gather.specs.GatheredSections.{AreGathered}
use Rattle.gather.specs.SectionPlaces.{AreKeyPlaces, AreProjectPlaces, place_in}
use Rattle.gather.specs.declared.referring.ProjectReferences.{ProjectReferences}
use Rattle.symres.specs.SymbolTable.{IsSymbolTable}

-- the parts by which references are found are those of the project
pub record CanRefer (r : ProjectReferences) : Type 0 where
  pub named : IsSymbolTable r.project.now r.symbol_table.now
  pub sections : AreGathered r.project.now r.sections.now
  pub placed : AreProjectPlaces r.project.now (place_in r.places.now)
  pub keyed : AreKeyPlaces r.project.now r.symbol_table.now r.by_key.now
