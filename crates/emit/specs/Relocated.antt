-- The fields and faults of the relocations of a link.
use Rattle.std.specs.Prelude.{◌≡◌, ℕ, List, flat_map}
use Rattle.std.specs.List.{AllZip}
use Rattle.emit_fields.specs.declared.patch.Patch.{Patch}
use Rattle.ldmodel.specs.Layout.{Layout}
use Rattle.ldmodel.specs.Project.{Project}
use Rattle.ldmodel.specs.Relocations.{relocation_faults}
use Rattle.symres.specs.SymbolTable.{SymbolTableState}
use Rattle.ldmodel_project.specs.ByPlace.{faults_in}
use Rattle.emit_relocate.specs.Filled.{IsRunOf, ends_of, sections_in}
use Rattle.emit_relocate.specs.KnownLink.{KnownLink}
use Rattle.emit_relocate.specs.LinkView.{known_link}
use Rattle.emit.specs.declared.relocated.Relocated.{Relocated}

-- the fields of each input section, one after another, and where those of each end
pub record AreRuns (link : KnownLink) (xs : List Patch) (places : List ℕ) : Type 0 where
  pub runs : List (List Patch)
  pub patches : xs ≡ flat_map (λ run. run) runs
  pub ends : places ≡ ends_of 0 runs
  pub each : AllZip (IsRunOf link) (sections_in link.project.objects) runs

pub record IsRelocated (project : Project) (layout : Layout) (table : SymbolTableState) (r : Relocated) : Type 0 where
  pub fields : AreRuns (known_link project layout table) r.patches.items r.ends.items
  pub faults : faults_in project r.faults.items ≡ relocation_faults project layout
