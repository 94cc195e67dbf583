use Rattle.ldmodel_laws.proofs.Common.{duplicates, entry_section, first_match, input_sections, is_discarded, is_match}
use Rattle.ldmodel_laws.proofs.Common.{live, orphans, provided_names, reached, refl, rows, sort_by, target_section}
use Rattle.ldmodel.specs.Names.{decided, decision, declarations_of, provided, entry_symbol}
use Rattle.ldmodel_laws.proofs.examples.rows_by_example.Goals as goal

pub returns-clause-together : goal.returns-clause-together
unfolding is_match first_match is_discarded input_sections live target_section entry_section orphans duplicates decided
    decision declarations_of provided entry_symbol reached rows provided_names sort_by
returns-clause-together c = refl

pub returns-clause-apart : goal.returns-clause-apart
unfolding is_match first_match is_discarded input_sections live target_section entry_section orphans duplicates decided
    decision declarations_of provided entry_symbol reached rows provided_names sort_by
returns-clause-apart c = refl

pub returns-clause-by_name : goal.returns-clause-by_name
unfolding is_match first_match is_discarded input_sections live target_section entry_section orphans duplicates decided
    decision declarations_of provided entry_symbol reached rows provided_names sort_by
returns-clause-by_name c = refl

pub returns-clause-by_alignment : goal.returns-clause-by_alignment
unfolding is_match first_match is_discarded input_sections live target_section entry_section orphans duplicates decided
    decision declarations_of provided entry_symbol reached rows provided_names sort_by
returns-clause-by_alignment c = refl

pub returns-clause-excluded : goal.returns-clause-excluded
unfolding is_match first_match is_discarded input_sections live target_section entry_section orphans duplicates decided
    decision declarations_of provided entry_symbol reached rows provided_names sort_by
returns-clause-excluded c = refl

pub returns-clause-orphan : goal.returns-clause-orphan
unfolding is_match first_match is_discarded input_sections live target_section entry_section orphans duplicates decided
    decision declarations_of provided entry_symbol reached rows provided_names sort_by
returns-clause-orphan c = refl

pub returns-clause-zero_is_one : goal.returns-clause-zero_is_one
unfolding is_match first_match is_discarded input_sections live target_section entry_section orphans duplicates decided
    decision declarations_of provided entry_symbol reached rows provided_names sort_by
returns-clause-zero_is_one c = refl
