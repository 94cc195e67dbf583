-- The edits of a link of files, as the code makes them one after the other.
use Rattle.std.specs.Prelude.{◌≡◌, ℕ, List, Result, Ok, Err}
use Rattle.ldmodel.specs.EditMeaning.{refusal_of}
use Rattle.ldmodel.specs.Edits.{After, Change}
use Rattle.ldmodel.specs.LinkCommand.{Course, Linking, ObjectFile, additions}
use Rattle.ldmodel.specs.Options.{LinkOptions}
use Rattle.ldmodel.specs.Project.{Project}
use Rattle.ldmodel_project.specs.ProjectState.{ProjectState, held}
use Rattle.relink_driver.specs.Answer.{refused_at}
use Rattle.relink_driver.specs.declared.fault.LinkFault.{LinkFault}
use Rattle.relink_driver.specs.declared.fault.LinkFault.TheVariants.{Refused, Memory}

-- the edit at a place is the one that is refused, or memory ran out
abbrev pub EndsAt : ℕ → Project → Change → LinkFault → Type 0
EndsAt n project change (Refused place why) = (place ≡ n) × After project change (Err (refusal_of why))
EndsAt n project change (Memory _) = Unit {0}

-- all objects are added, behind the script; or one is refused; or memory ran out
abbrev pub Adds : Project → List ObjectFile → Project → Result Unit LinkFault → Type 0
Adds old files new (Ok done) = Course 1 old (additions 0 files) (Ok new)
Adds old files new (Err (Refused place why)) = Course 1 old (additions 0 files) (Err (refused_at place why))
Adds old files new (Err (Memory _)) = Unit {0}

-- the project of a script and objects; or an edit is refused; or memory ran out
abbrev pub Prepares : LinkOptions → List ℕ → List ObjectFile → Result ProjectState LinkFault → Type 0
Prepares options script files (Ok h) = Linking options script files (Ok (held h))
Prepares options script files (Err (Refused place why)) = Linking options script files (Err (refused_at place why))
Prepares options script files (Err (Memory _)) = Unit {0}
