-- What is lent to the passes of a link.
use Rattle.std.specs.Prelude.{map}
use Rattle.gather.specs.ProjectMatches.{AreMatched}
use Rattle.ldmodel.specs.Project.{Project}
use Rattle.symres.specs.SymbolTable.{IsSymbolTable}
use Rattle.relink_driver.specs.declared.context.PassContext.{PassContext}

abbrev pub project_of : PassContext → Project
project_of l = l.project.now

-- names that are decided and matches that are found, both of the project
pub record IsPassContext (l : PassContext) : Type 0 where
  pub symbol_table : IsSymbolTable (project_of l) l.symbol_table.now
  pub matches : AreMatched (project_of l) (map (λ x. x.now) l.matches.now)
