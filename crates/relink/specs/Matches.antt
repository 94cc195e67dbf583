-- The matches of all objects, in the order of the objects, while one object changes.
use Rattle.std.specs.Prelude.{ℕ, ⊤, List, Option, Some, None, Vec, insert, remove, slice_get}
use Rattle.std.specs.Global.{Global}
use Rattle.gather.specs.ProjectMatches.{AreMatched, IsMatched}
use Rattle.gather.specs.declared.matches.Matches.{Matches}
use Rattle.ldmodel.specs.Project.{NamedObject}
use Rattle.ldmodel_project.specs.ProjectState.{Listing, project_of}
use Rattle.ldscript.specs.statements.declared.statement.Statement.{Statement}

-- the matches of an object, if there is one
abbrev pub IsMatchedOr : List Statement → Option NamedObject → Option Matches → Type 0
IsMatchedOr script None None = ⊤
IsMatchedOr script None (Some m) = ⊥
IsMatchedOr script (Some o) None = ⊥
IsMatchedOr script (Some o) (Some m) = IsMatched script o m

-- without what stands at a place
abbrev pub taken_at : List Matches → Option ℕ → List Matches
taken_at ms None = ms
taken_at ms (Some p) = remove ms p

-- what stands there
abbrev pub gone_at : List Matches → Option ℕ → Option Matches
gone_at ms None = None
gone_at ms (Some p) = slice_get ms p

-- with what comes at a place
abbrev pub put_at : List Matches → Option ℕ → Option Matches → List Matches
put_at ms None coming = ms
put_at ms (Some q) None = ms
put_at ms (Some q) (Some m) = insert ms q m

abbrev pub exchanged : List Matches → (out into : Option ℕ) → Option Matches → List Matches
exchanged ms out into coming = put_at (taken_at ms out) into coming

-- the matches of all objects under the script of the next project; none where those under the script before serve
abbrev pub Renews : List Statement → Listing → Option (Vec Matches Global) → Type 0
Renews before next None =
    (object : NamedObject) (x : Matches) → IsMatched before object x → IsMatched next.script object x
Renews before next (Some all) = AreMatched (project_of next) all.items
