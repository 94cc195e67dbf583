use Rattle.ldmodel_laws.proofs.Common.{duplicates, entry_section, first_match, input_sections, is_discarded, is_match}
use Rattle.ldmodel_laws.proofs.Common.{live, orphans, provided_names, reached, refl, rows, sort_by, target_section}
use Rattle.ldmodel.specs.Names.{decided, decision, declarations_of, provided, entry_symbol}
use Rattle.ldmodel_laws.proofs.examples.live_by_example.Goals as goal

pub returns-clause-by_reference : goal.returns-clause-by_reference
unfolding is_match first_match is_discarded input_sections live target_section entry_section orphans duplicates decided
    decision declarations_of provided entry_symbol reached rows provided_names sort_by
returns-clause-by_reference c = refl

pub returns-clause-by_keep : goal.returns-clause-by_keep
unfolding is_match first_match is_discarded input_sections live target_section entry_section orphans duplicates decided
    decision declarations_of provided entry_symbol reached rows provided_names sort_by
returns-clause-by_keep c = refl

pub returns-clause-out : goal.returns-clause-out
unfolding is_match first_match is_discarded input_sections live target_section entry_section orphans duplicates decided
    decision declarations_of provided entry_symbol reached rows provided_names sort_by
returns-clause-out c = refl

pub returns-clause-by_marker : goal.returns-clause-by_marker
unfolding is_match first_match is_discarded input_sections live target_section entry_section orphans duplicates decided
    decision declarations_of provided entry_symbol reached rows provided_names sort_by
returns-clause-by_marker c = refl

pub returns-clause-to_common : goal.returns-clause-to_common
unfolding is_match first_match is_discarded input_sections live target_section entry_section orphans duplicates decided
    decision declarations_of provided entry_symbol reached rows provided_names sort_by
returns-clause-to_common c = refl
