-- Pieces and orphans of input sections of which nothing is collected.
use Rattle.std.specs.Prelude.{ℕ, ◌≡◌, ◌++◌, List, map, filter, not}
use Rattle.std.specs.List.{filter_map}
use Rattle.ldscript.specs.statements.Numbering.{InputStatementAt, input_statements}
use Rattle.ldmodel.specs.Project.{Project}
use Rattle.ldmodel.specs.declared.options.Orphans.{Orphans}
use Rattle.gather.specs.GatheredSections.{AreGathered, Facts, own_piece, shown_facts, untaken}
use Rattle.gather.specs.LeftOut.{is_out_of}
use Rattle.gather.specs.Matches.{number_of}
use Rattle.gather.specs.RowPieces.{AreBuckets}
use Rattle.gather.specs.declared.gathered_section.GatheredSection.{GatheredSection}
use Rattle.gather.specs.declared.taking.Taken.{Taken}

-- those that are not left out
abbrev pub kept_of : List InputStatementAt → Orphans → List GatheredSection → List GatheredSection
kept_of statements orphans xs =
    filter (λ (x : GatheredSection). not (is_out_of statements orphans x.size (number_of x.statement))) xs

-- what is found of these sections, where there is this number of statements
pub record IsTaken (statements : List InputStatementAt) (rule : Orphans) (count : ℕ) (xs : List GatheredSection)
    (t : Taken) : Type 0 where
  pub buckets : AreBuckets (filter_map own_piece (kept_of statements rule xs)) count t.buckets.items
  pub orphans : t.orphans.items ≡ filter_map untaken (kept_of statements rule xs)

-- these sections are taken after the others
abbrev pub Takes : List InputStatementAt → Orphans → (old new : Taken) → List GatheredSection → Type 0
Takes statements rule old new ys =
    (count : ℕ) (xs : List GatheredSection) → IsTaken statements rule count xs old
    → IsTaken statements rule count (xs ++ ys) new

-- sections with these facts are taken after the others
pub record TakesFacts (statements : List InputStatementAt) (rule : Orphans) (old new : Taken) (these : List Facts)
    : Type 0 where
  pub sections : List GatheredSection
  pub facts : map shown_facts sections ≡ these
  pub takes : Takes statements rule old new sections

-- all input sections of the project are taken
pub record IsAllTaken (project : Project) (count : ℕ) (t : Taken) : Type 0 where
  pub sections : List GatheredSection
  pub gathered : AreGathered project sections
  pub taken : IsTaken (input_statements project.script) project.options.orphans count sections t
