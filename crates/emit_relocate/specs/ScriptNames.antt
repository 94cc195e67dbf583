-- The names that a script gives values to.
use Rattle.std.specs.Prelude.{◌≡◌, ℕ, ◌-◌, zero, suc, List, [], ◌∷◌, ◌++◌, flat_map, map, Bool, ◌&&◌, true}
use Rattle.std.specs.Prelude.{if◌then◌else◌, nat_lt, bytes_eq, slice_index_or, Contains}
use Rattle.std.specs.Borrow.{Bor}
use Rattle.std.specs.List.{AllPairs}
use Rattle.ldscript.specs.statements.Numbering.{DirectiveAt, all_directives}
use Rattle.ldscript.specs.statements.declared.directive.Directive.{Directive}
use Rattle.ldscript.specs.statements.declared.directive.Directive.TheVariants as directive
use Rattle.ldscript.specs.statements.declared.statement.Statement.{Statement}
use Rattle.ldmodel.specs.OutputSymbols.{is_before}

-- the bytes of names
abbrev pub texts : List (Bor (List ℕ)) → List (List ℕ)
texts xs = map (λ (x : Bor (List ℕ)). x.now) xs

-- the name that a command gives a value to, if it gives one
abbrev pub names_given : Directive → List (List ℕ)
names_given (directive.Assign a) = a.name ∷ []
names_given (directive.Provide a) = a.name ∷ []
names_given (directive.Assert a) = []

abbrev pub all_given : List DirectiveAt → List (List ℕ)
all_given commands = flat_map (λ (c : DirectiveAt). names_given c.command) commands

-- the name at a place is that before it
abbrev pub is_repeat : List (List ℕ) → ℕ → Bool
is_repeat names k = nat_lt 0 k && bytes_eq (slice_index_or names (k - 1) []) (slice_index_or names k [])

-- the name at a place, unless it is that before it
abbrev pub fresh : List (List ℕ) → ℕ → List (List ℕ)
fresh names k = if is_repeat names k then [] else slice_index_or names k [] ∷ []

-- the first n names, without repeats
abbrev pub distinct_first : List (List ℕ) → ℕ → List (List ℕ)
distinct_first names zero = []
distinct_first names (suc n) = distinct_first names n ++ fresh names n

-- they stand in byte order, each once, and each that a command gives a value to is among them
pub record AreScriptNames (script : List Statement) (names : List (List ℕ)) : Type 0 where
  pub order : AllPairs (λ (x y : List ℕ). is_before x y ≡ true) names
  pub complete : (name : List ℕ) → Contains (all_given (all_directives script)) name → Contains names name
