-- What an edit comes to.
use Rattle.std.specs.Prelude.{Result}
use Rattle.ldmodel.specs.Edits.{Change, Add, Replace, Move, Remove, SetScript, Refusal, After}
use Rattle.ldmodel.specs.Project.{Project}

-- a project, or a refusal
abbrev pub HasOutcome : Project → Change → Type 0
HasOutcome project change = (x : Result Project Refusal) × After project change x

-- an edit of objects
abbrev pub IsNoScript : Change → Type 0
IsNoScript (Add name at bytes) = Unit {0}
IsNoScript (Replace name bytes) = Unit {0}
IsNoScript (Move name to) = Unit {0}
IsNoScript (Remove name) = Unit {0}
IsNoScript (SetScript text) = ⊥
