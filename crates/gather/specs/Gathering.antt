-- What gathering finds of a project.
use Rattle.std.specs.Prelude.{◌≡◌, map}
use Rattle.ldmodel.specs.FaultCode.{fault_of}
use Rattle.ldmodel.specs.Link.{gathering_faults}
use Rattle.ldmodel.specs.Project.{Project}
use Rattle.ldmodel.specs.Rows.{rows}
use Rattle.ldmodel.specs.declared.fault.Fault.TheVariants.{Orphan}
use Rattle.ldmodel_project.specs.ByPlace.{rows_in}
use Rattle.gather.specs.SectionTable.{IsTableOf}
use Rattle.gather.specs.declared.gathering.Gathering.{Gathering}

-- its table numbers the input sections of the project, its rows are those of the project, its orphans are the faults
pub record IsGathering (project : Project) (g : Gathering) : Type 0 where
  pub table : IsTableOf project g.table
  pub rows : rows_in project g.rows.items ≡ rows project
  pub orphans : map (λ k. fault_of project (λ key. key) (Orphan k)) g.orphans.items ≡ gathering_faults project
