-- What a session keeps of a project beside the project and its link.
use Rattle.std.specs.Prelude.{◌≡◌, List}
use Rattle.std.specs.List.{AllZip}
use Rattle.gather.specs.ProjectMatches.{IsMatched}
use Rattle.gather.specs.declared.matches.Matches.{Matches}
use Rattle.symres.specs.decisions.Decisions.{AreDecisionsOf}
use Rattle.symres.specs.SymbolTable.{SymbolTableState}
use Rattle.ldmodel_project.specs.ProjectState.{Listing}
use Rattle.ldmodel_project.specs.Listing.{objects_of}
use Rattle.ldmodel_project.specs.Tables.{tables_under}

-- what names stand for over the objects under their keys, and which statements take the input sections of each object
pub record AreTablesOf (l : Listing) (table : SymbolTableState) (ms : List Matches) : Type 0 where
  pub tables : table.kept.names.objects ≡ tables_under l.entries
  pub names : AreDecisionsOf l.script table.kept
  pub matches : AllZip (IsMatched l.script) (objects_of l.entries) ms
