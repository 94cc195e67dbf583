-- Which input sections are left out before references are followed (GNU ld manual, "Output Section Discarding",
-- "Command-line Options", `--orphan-handling`): those that /DISCARD/ takes; and of those that no statement takes the
-- empty ones, and all where the option says so. This project's choice: a section that no statement takes is never
-- placed; it is left out or a fault.
use Rattle.std.specs.Prelude.{List, filter, Option, Some, None, Bool, true, false, not, ◌||◌, ◌==◌, slice_get}
use Rattle.std.specs.Prelude.{option_and_then}
use Rattle.ldscript.specs.statements.Numbering.{InputStatementAt, input_statements}
use Rattle.ldscript.specs.statements.declared.place.InputPlace.{InputPlace}
use Rattle.ldscript.specs.statements.declared.place.InputPlace.TheVariants.{InSection, InDiscard}
use Rattle.ldmodel.specs.FirstMatch.{first_match}
use Rattle.ldmodel.specs.InputSections.{input_sections}
use Rattle.ldmodel.specs.Project.{Project}
use Rattle.ldmodel.specs.Sections.{InputSection}
use Rattle.ldmodel.specs.declared.options.Orphans.{Orphans}
use Rattle.ldmodel.specs.declared.options.Orphans.TheVariants.{Error, Discard}

-- the input statement that takes an input section
abbrev pub taken_by : Project → InputSection → Option InputStatementAt
taken_by project section = option_and_then (slice_get (input_statements project.script))
    (first_match project.script section.object section.name)

abbrev pub is_discard : InputPlace → Bool
is_discard (InSection number) = false
is_discard InDiscard = true

abbrev pub are_discarded : Orphans → Bool
are_discarded Error = false
are_discarded Discard = true

-- whether it is left out, by the statement that takes it
abbrev pub is_out_under : Project → InputSection → Option InputStatementAt → Bool
is_out_under project section None = (section.size == 0) || are_discarded project.options.orphans
is_out_under project section (Some statement) = is_discard statement.place

unfoldable pub is_discarded : Project → InputSection → Bool
is_discarded project section = is_out_under project section (taken_by project section)

-- the input sections that are not left out, in their order
abbrev pub candidates : Project → List InputSection
candidates project = filter (λ section. not (is_discarded project section)) (input_sections project)
