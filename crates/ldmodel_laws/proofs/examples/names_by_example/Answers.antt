use Rattle.ldmodel_laws.proofs.Common.{duplicates, entry_section, first_match, input_sections, is_discarded, is_match}
use Rattle.ldmodel_laws.proofs.Common.{live, orphans, provided_names, reached, refl, rows, sort_by, target_section}
use Rattle.ldmodel.specs.Names.{decided, decision, declarations_of, provided, entry_symbol}
use Rattle.ldmodel_laws.proofs.examples.names_by_example.Goals as goal

pub returns-clause-commons : goal.returns-clause-commons
unfolding is_match first_match is_discarded input_sections live target_section entry_section orphans duplicates decided
    decision declarations_of provided entry_symbol reached rows provided_names sort_by
returns-clause-commons c = refl

pub returns-clause-weak : goal.returns-clause-weak
unfolding is_match first_match is_discarded input_sections live target_section entry_section orphans duplicates decided
    decision declarations_of provided entry_symbol reached rows provided_names sort_by
returns-clause-weak c = refl

pub returns-clause-strong : goal.returns-clause-strong
unfolding is_match first_match is_discarded input_sections live target_section entry_section orphans duplicates decided
    decision declarations_of provided entry_symbol reached rows provided_names sort_by
returns-clause-strong c = refl

pub returns-clause-duplicate : goal.returns-clause-duplicate
unfolding is_match first_match is_discarded input_sections live target_section entry_section orphans duplicates decided
    decision declarations_of provided entry_symbol reached rows provided_names sort_by
returns-clause-duplicate c = refl

pub returns-clause-fault : goal.returns-clause-fault
unfolding is_match first_match is_discarded input_sections live target_section entry_section orphans duplicates decided
    decision declarations_of provided entry_symbol reached rows provided_names sort_by
returns-clause-fault c = refl

pub returns-clause-not_mentioned : goal.returns-clause-not_mentioned
unfolding is_match first_match is_discarded input_sections live target_section entry_section orphans duplicates decided
    decision declarations_of provided entry_symbol reached rows provided_names sort_by
returns-clause-not_mentioned c = refl

pub returns-clause-mentioned : goal.returns-clause-mentioned
unfolding is_match first_match is_discarded input_sections live target_section entry_section orphans duplicates decided
    decision declarations_of provided entry_symbol reached rows provided_names sort_by
returns-clause-mentioned c = refl

pub returns-clause-given_way : goal.returns-clause-given_way
unfolding is_match first_match is_discarded input_sections live target_section entry_section orphans duplicates decided
    decision declarations_of provided entry_symbol reached rows provided_names sort_by
returns-clause-given_way c = refl
