-- Which statements of a script take the input sections of objects.
use Rattle.std.specs.Prelude.{◌≡◌, List, codes}
use Rattle.std.specs.List.{AllZip}
use Rattle.gather.specs.Commons.{AreCommonsIn}
use Rattle.gather.specs.Matches.{matches_of, number_of}
use Rattle.gather.specs.Runs.{numbers_of}
use Rattle.ldscript.specs.statements.declared.statement.Statement.{Statement}
use Rattle.ldmodel.specs.FirstMatch.{first_match}
use Rattle.ldmodel.specs.Project.{NamedObject, Project}
use Rattle.gather.specs.declared.matches.Matches.{Matches}

-- the statements that take the linked sections of an object, and its common blocks; and where its common symbols are
pub record IsMatched (script : List Statement) (object : NamedObject) (x : Matches) : Type 0 where
  pub linked : numbers_of x.linked.items ≡ matches_of script object.name object.object.sections
  pub common : number_of x.common ≡ first_match script object.name (codes "COMMON")
  pub commons : AreCommonsIn object.object.symbols x.commons.start x.commons.end

-- all objects, in their order
abbrev pub AreMatched : Project → List Matches → Type 0
AreMatched project xs = AllZip (IsMatched project.script) project.objects xs
