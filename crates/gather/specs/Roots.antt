-- Which sections statements under KEEP take, by the numbers of these.
use Rattle.std.specs.Prelude.{ℕ, ◌+◌, List, [], ◌∷◌, Option, Bool, if◌then◌else◌, option_and_then, slice_get}
use Rattle.ldscript.specs.statements.Numbering.{InputStatementAt}
use Rattle.ldmodel.specs.Live.{is_kept}
use Rattle.gather.specs.Matches.{number_of}
use Rattle.gather.specs.declared.gathered_section.GatheredSection.{GatheredSection}

abbrev pub is_kept_by : List InputStatementAt → Option ℕ → Bool
is_kept_by statements number = is_kept (option_and_then (slice_get statements) number)

-- the numbers of those that are kept, where the first has number n
abbrev pub kept_numbers : List InputStatementAt → ℕ → List GatheredSection → List ℕ
kept_numbers statements n [] = []
kept_numbers statements n (x ∷ xs) =
    if is_kept_by statements (number_of x.statement) then n ∷ kept_numbers statements (n + 1) xs else kept_numbers
    statements (n + 1) xs
