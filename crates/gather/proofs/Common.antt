-- The names that most proofs of this crate cite, passed on from one place. Declares nothing.
pub use Rattle.elfobj.specs.Object.{ObjectData}
pub use Rattle.elfobj.specs.Sections.{LinkedSection, section_of}
pub use Rattle.elfobj.specs.Symbols.{NamedSymbol}
pub use Rattle.elfobj.specs.declared.relocation.Relocation.{Relocation}
pub use Rattle.elfobj.specs.declared.symbol.Symbol.{Symbol}
pub use Rattle.gather.specs.Apart.{AscendingSections, IsAscending}
pub use Rattle.gather.specs.Blocks.{AreBlocks, AreBlocksOf, block_rank}
pub use Rattle.gather.specs.Commons.{AreCommonsIn}
pub use Rattle.gather.specs.FileSearches.{IsSearch, matches_by}
pub use Rattle.gather.specs.FileTables.{AddsOf, AddsOwn, AreTablesOf, first_in, own_listed, own_wild}
pub use Rattle.gather.specs.Found.{IsFound, relocations_of}
pub use Rattle.gather.specs.GatheredSections.{AddsFacts, AreGathered, Facts, block_facts, facts, own_piece, shown_facts}
pub use Rattle.gather.specs.GatheredSections.{taken_in, untaken}
pub use Rattle.gather.specs.Graphs.{Graph, IsIn, IsLive, IsMarked, IsVisit, LeadsTo, from_live, from_root, graph_of}
pub use Rattle.gather.specs.LeftOut.{is_out_by, is_out_of}
pub use Rattle.gather.specs.LiveMarks.{IsGraphOf, IsSectionAt, marked}
pub use Rattle.gather.specs.ProjectMatches.{AreMatched, IsMatched}
pub use Rattle.gather.specs.Ranks.{is_ranked, rank_cmp, rank_self}
pub use Rattle.gather.specs.Roots.{is_kept_by, kept_numbers}
pub use Rattle.gather.specs.RowPieces.{AreBuckets, AreEmpty, Orders, of_statement, shown_row, taken_piece}
pub use Rattle.gather.specs.Runs.{gathered, gathered_by, linked_piece, numbers_in, numbers_of}
pub use Rattle.gather.specs.SameInputs.{input_of}
pub use Rattle.gather.specs.SectionPlaces.{AddsTargets, AreKeyPlaces, ArePlaces, AreProjectPlaces, IsPlaceOf, Refers}
pub use Rattle.gather.specs.SectionPlaces.{is_same_key, place_at, place_in, place_under, with_place}
pub use Rattle.gather.specs.SharedStarts.{AllBegin, BeginsWith}
pub use Rattle.gather.specs.Symbols.{IsCaseOf, IsObjectAt}
pub use Rattle.gather.specs.Taking.{IsTaken, Takes, TakesFacts, kept_of}
pub use Rattle.gather.specs.WordTables.{AddsWords, shown_listed}
pub use Rattle.gather.specs.Words.{WordAt, first_taker, is_for, is_for_more, is_named, is_wild, lesser, shown_word}
pub use Rattle.gather.specs.Words.{shown_words, takes_by, takes_from, words_from, words_of}
pub use Rattle.gather.specs.declared.blocks.CommonBlock.{CommonBlock}
pub use Rattle.gather.specs.declared.file_tables.FileTables.{FileTables}
pub use Rattle.gather.specs.declared.gathered_section.GatheredSection.{GatheredSection}
pub use Rattle.gather.specs.declared.input_section_table.InputSectionTable.{InputSectionTable}
pub use Rattle.gather.specs.declared.matches.Matches.{Matches}
pub use Rattle.gather.specs.declared.runs.TakenRun.{TakenRun}
pub use Rattle.gather.specs.declared.slots.Slots.{Slots}
pub use Rattle.gather.specs.declared.sorting.NamedPlace.{NamedPlace}
pub use Rattle.gather.specs.declared.word_table.WordTable.{WordTable}
pub use Rattle.ldmodel.specs.CodeValues.{decision_of, section_id}
pub use Rattle.ldmodel.specs.FaultCode.{name_of_part}
pub use Rattle.ldmodel.specs.FirstMatch.{takes, word_takes}
unfoldable pub use Rattle.ldmodel.specs.FirstMatch.{first_match}
pub use Rattle.ldmodel.specs.Gathering.{candidates, taken_by}
unfoldable pub use Rattle.ldmodel.specs.Gathering.{is_discarded}
pub use Rattle.ldmodel.specs.InputSections.{block_at, common_blocks, linked_input, object_inputs}
unfoldable pub use Rattle.ldmodel.specs.InputSections.{input_sections}
pub use Rattle.ldmodel.specs.Live.{is_kept, is_root, is_section, refers_to, section_of_decision, section_of_place}
pub use Rattle.ldmodel.specs.Live.{section_of_symbol, symbol_at}
unfoldable pub use Rattle.ldmodel.specs.Live.{entry_section, live, orphans, target_section}
pub use Rattle.ldmodel.specs.NameFaults.{object_name}
pub use Rattle.ldmodel.specs.Names.{Common, Decision, Duplicate, Entry, Provided, Script, Strong, Undefined, Weak}
pub use Rattle.ldmodel.specs.Names.{is_common_place, is_local, symbol_tables}
unfoldable pub use Rattle.ldmodel.specs.Names.{decision}
pub use Rattle.ldmodel.specs.Project.{NamedObject, Project}
pub use Rattle.ldmodel.specs.Sections.{InputSection, SectionId, is_same, is_same_part}
pub use Rattle.ldmodel.specs.declared.names.Case.{Case}
pub use Rattle.ldmodel.specs.declared.names.ObjectPlace.{ObjectPlace}
pub use Rattle.ldmodel.specs.declared.options.Orphans.{Orphans}
pub use Rattle.ldmodel.specs.declared.rows.InputIndex.{InputIndex}
pub use Rattle.ldmodel.specs.declared.sections.Part.TheVariants.{InCommon, InTable}
pub use Rattle.ldmodel.specs.declared.sections.SectionRef.{SectionRef}
pub use Rattle.ldmodel_laws.proofs.SameParts.{own_part, same_part}
pub use Rattle.ldmodel_project.specs.ByPlace.{name_of_section, piece_in, rows_in}
pub use Rattle.ldmodel_project.specs.Inputs.{shown_input}
pub use Rattle.ldscript.specs.statements.Numbering.{InputStatementAt, input_statements, output_sections}
pub use Rattle.ldscript.specs.statements.declared.input.Input.{Input}
pub use Rattle.ldscript.specs.statements.declared.input.SectionWord.{SectionWord}
pub use Rattle.ldscript.specs.statements.declared.input.Sort.{Sort}
pub use Rattle.ldscript.specs.statements.declared.input.Sort.TheVariants.{ByAlignment, ByName}
pub use Rattle.ldscript.specs.statements.declared.statement.Statement.{Statement}
pub use Rattle.ldscript.specs.terms.CodeTerms.{exact_name}
pub use Rattle.std.proofs.Common.{Bool, Bor, Err, Global, IfOk, List, None, Ok, OnErr, Option, Result, Some, Vec, []}
pub use Rattle.std.proofs.Common.{add-one, ap, append-nil, append_assoc, arith, below_more, cond, drop, eqb, false}
pub use Rattle.std.proofs.Common.{filter, find, get_or, get_or-set_other, get_or-set_same, inl, inr, length, ltb, map}
pub use Rattle.std.proofs.Common.{max, min, nat_eq, not, refl, replicate, rules, set, slice_index, subst, suc, sym}
pub use Rattle.std.proofs.Common.{take, true, zero, ℕ, ⊎_elim, ◌&&◌, ◌++◌, ◌+◌, ◌-◌, ◌<◌, ◌==◌, ◌||◌, ◌↔◌, ◌∙◌, ◌∷◌}
pub use Rattle.std.proofs.Common.{◌≡◌, ◌≢◌, ◌≤◌, ◌⊎◌}
pub use Rattle.std.proofs.Math.ListN.{length-set}
pub use Rattle.std.proofs.Math.Seq.{drop-cons, take-suc}
pub use Rattle.std.proofs.lemmas.Bool.{and_from, and_parts, cases_eq, cases_lt, eq-eqb, eqb-true, false≢true, le-ltb}
pub use Rattle.std.proofs.lemmas.Bool.{lt-ltb, ltb-false, ltb-true, ne_eqb, not-true, or_cases, or_left, or_right}
pub use Rattle.std.proofs.lemmas.Bool.{true≢false}
pub use Rattle.std.proofs.lemmas.List.{drop_all, drop_min, drop_more, ext_get_or, flat_map_more, get_or-append-add}
pub use Rattle.std.proofs.lemmas.List.{get_or-map, get_or-take, get_or_append_left, get_or_default, get_or_past}
pub use Rattle.std.proofs.lemmas.List.{get_or_push, length-append, length-map, length-take-le, map-append}
pub use Rattle.std.proofs.lemmas.List.{nil_from_length, replicate-append-replicate, take_all, take_min, take_more}
pub use Rattle.std.proofs.lemmas.List.Concat.{flat_map-cons}
pub use Rattle.std.proofs.lemmas.List.Elements.{All-append, All-cons, All-filter, All-head, All-map, All-more, All-nil}
pub use Rattle.std.proofs.lemmas.List.Elements.{All-tail, Contains-append_cases, Contains-append_left}
pub use Rattle.std.proofs.lemmas.List.Elements.{Contains-append_right, Contains-get_or, Contains-push}
pub use Rattle.std.proofs.lemmas.List.Elements.{Contains-push_cases, filter-append, filter_agree, filter_map-append}
pub use Rattle.std.proofs.lemmas.List.Elements.{filter_passes}
pub use Rattle.std.proofs.lemmas.List.FromFn.{get_or-enumerate_from, length-enumerate_from}
pub use Rattle.std.proofs.lemmas.List.MinMax.{ranks_by}
pub use Rattle.std.proofs.lemmas.List.Sorted.{All-permutation, Contains-permutation, IsPartitionPoint-from_clause}
pub use Rattle.std.proofs.lemmas.List.Sorted.{answers_always, sorted_far}
pub use Rattle.std.proofs.lemmas.List.Sums.{fails_before_first, position_or_len_is, sum_by-set, sum_by_push}
pub use Rattle.std.proofs.lemmas.Option.{get_or_from_slice_get, same_Some, slice_get-get_or, slice_get-map}
pub use Rattle.std.proofs.lemmas.Option.{slice_get_past, slice_get_read, slice_get_within}
pub use Rattle.std.proofs.lemmas.Result.{IfOk-weaker, on_ok_weaker}
pub use Rattle.std.proofs.lemmas.Slice.Eq.{bytes_eq-Decides}
pub use Rattle.std.specs.BTreeMap.{BTreeMap, UpdatesBy, get_by, is_at}
pub use Rattle.std.specs.Cmp.{IsStrictWeakOrder, IsTotalOrder, bool_cmp_total}
pub use Rattle.std.specs.Cmp.Lexicographic.{bytes_decides, nat_list_cmp_total, slice_cmp}
pub use Rattle.std.specs.List.{All, AllPairs, AllZip, Contains, cons_option, count_by, enumerate_from, filter_map}
pub use Rattle.std.specs.List.{list_any, position, position_from, position_or_len, range_with_len, starts_with}
pub use Rattle.std.specs.Option.{IfSome, is_none, option_map, option_map_or}
pub use Rattle.std.specs.Ordering.{bool_cmp, is_eq, is_lt, nat_cmp, ordering_reverse, ordering_then}
pub use Rattle.std.specs.Prelude.{IsSome, IsTrue, OnOk, bytes_eq, codes, flat_map, is_some, nat_lt, option_and_then}
pub use Rattle.std.specs.Prelude.{option_copied, option_to_list, slice_get, slice_index_or}
pub use Rattle.std.specs.declared.cmp.Ordering.{Ordering}
pub use Rattle.std.specs.declared.cmp.Ordering.TheVariants.{Equal, Greater, Less}
pub use Rattle.symres.specs.Decided.{HasCase, case_at}
