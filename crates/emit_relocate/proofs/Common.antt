-- The names that most proofs of this crate cite, passed on from one place. Declares nothing.
pub use Rattle.elfobj.specs.Object.{ObjectData}
pub use Rattle.elfobj.specs.Profile.{AreApart, HasRelocationsOfProfile, IsRelocationOfProfile}
pub use Rattle.elfobj.specs.Raised.{raised}
pub use Rattle.elfobj.specs.Relocations.{field_end}
pub use Rattle.elfobj.specs.Sections.{LinkedSection, section_of}
pub use Rattle.elfobj.specs.Symbols.{NamedSymbol}
pub use Rattle.elfobj.specs.declared.meter.Count.TheVariants.{Fields}
pub use Rattle.elfobj.specs.declared.relocation.Relocation.{Relocation}
pub use Rattle.elfobj.specs.declared.section.SectionIndex.{SectionIndex}
pub use Rattle.elfobj.specs.declared.symbol.Symbol.{Symbol}
pub use Rattle.emit_fields.specs.declared.patch.Patch.{Patch}
pub use Rattle.emit_relocate.specs.AssertedSymbols.{found_symbol, value_found}
pub use Rattle.emit_relocate.specs.Changes.{Adds, AreChanged, AreFilled, AreRetargetedFiled, Evaluated, HasAllFields}
pub use Rattle.emit_relocate.specs.Changes.{HasRetargetedFields, IsEvaluatedAt, IsEvaluatedOf, IsFiled, Results}
pub use Rattle.emit_relocate.specs.Changes.{file_patch_at, in_file, no_results, own_sites, results_of, section_ref}
pub use Rattle.emit_relocate.specs.Fields.{AreAdded, AreFieldsOf, IsAdded, IsAmong, IsCounted, IsNext, IsRun, IsTried}
pub use Rattle.emit_relocate.specs.Fields.{evaluations, fault_at, faults_of, field_at, sites_among, work_of}
pub use Rattle.emit_relocate.specs.Filled.{EndBelow, IsRunAt, IsRunOf, ObjectSection, ends_of, sections_in, sections_of}
pub use Rattle.emit_relocate.specs.FinalScope.{failures, fault_unless, holds_in, meaning_of, numbered}
pub use Rattle.emit_relocate.specs.GivenTable.{HasPlaces, IsGivenTable, IsPut}
pub use Rattle.emit_relocate.specs.Index.{IsSound, cleared, cleared_one, has_spot, is_against, is_of_object, is_owner}
pub use Rattle.emit_relocate.specs.Index.{is_spot, no_bucket, room_at, room_of, site_of, slots_at, spots_at, wanted_at}
pub use Rattle.emit_relocate.specs.KnownLink.{KnownLink, named_object, start_of}
pub use Rattle.emit_relocate.specs.LinkValues.{HasFacts, shown_symbol}
pub use Rattle.emit_relocate.specs.LinkView.{IsLinkView, known_link}
pub use Rattle.emit_relocate.specs.Links.{AreLinks, IsAtHand, IsFoundStayedAt, IsPlacedAt, IsStayedAt}
pub use Rattle.emit_relocate.specs.Links.{NeedsNoEvaluation, site_at_hand, sites_at_hand}
pub use Rattle.emit_relocate.specs.ObjectParts.{AreAddresses, AreSymbols}
pub use Rattle.emit_relocate.specs.PreviousLinkInfo.{HasSameValues, HasSomeStayed, HasStayedAt, IsAbsentAt, IsComplete}
pub use Rattle.emit_relocate.specs.PreviousLinkInfo.{IsFoundStayed, IsPieceOf, good_link, has_new_value, is_same_value}
pub use Rattle.emit_relocate.specs.PreviousLinkInfo.{range_of}
pub use Rattle.emit_relocate.specs.ScriptNames.{all_given, distinct_first, texts}
pub use Rattle.emit_relocate.specs.Sites.{IsEvaluated, IsFieldOf, IsOutcome, IsPlaced, IsSectionOf, IsSite, IsSiteAt}
pub use Rattle.emit_relocate.specs.Sites.{fault_with}
pub use Rattle.emit_relocate.specs.Sizes.{plus_symbols}
pub use Rattle.emit_relocate.specs.Symbols.{AddsAtMost, AddsIf, AddsSome, AddsSymbols, AreSources, AreUp, IsPlaceAmong}
pub use Rattle.emit_relocate.specs.Symbols.{KeepsCount, KeepsFacts, Picks, defined, defined_symbols, ends_with}
pub use Rattle.emit_relocate.specs.Symbols.{keyed_names, names_in, shown, symbol_with, with_name}
pub use Rattle.emit_relocate.specs.declared.bucket.Bucket.{Bucket}
pub use Rattle.emit_relocate.specs.declared.final_scope.FinalScope.{FinalScope}
pub use Rattle.emit_relocate.specs.declared.index.IndexSlot.{IndexSlot}
pub use Rattle.emit_relocate.specs.declared.index.TargetSite.{TargetSite}
pub use Rattle.emit_relocate.specs.declared.link_view.LinkView.{LinkView}
pub use Rattle.emit_relocate.specs.declared.previous_link_info.FileRange.{FileRange}
pub use Rattle.emit_relocate.specs.declared.site.PlacedInput.{PlacedInput}
pub use Rattle.emit_relocate.specs.declared.symbol_row.SymbolRow.{SymbolRow}
pub use Rattle.emit_relocate.specs.declared.values.OutputSymbol.{OutputSymbol}
pub use Rattle.emit_text.specs.Definer.{definer_of, defines}
pub use Rattle.emit_text.specs.Naming.{shown_assertions}
pub use Rattle.ldmodel.specs.CodeValues.{decision_of}
pub use Rattle.ldmodel.specs.Counts.{Counts, capped}
pub use Rattle.ldmodel.specs.Fault.{Fault}
unfoldable pub use Rattle.ldmodel.specs.FaultCode.{fault_of}
pub use Rattle.ldmodel.specs.Image.{object_named, section_numbered}
pub use Rattle.ldmodel.specs.Layout.{Layout, MemoryRegion, PlacedOutput, PlacedPiece, nothing_placed, script_value}
pub use Rattle.ldmodel.specs.NameFaults.{object_name}
pub use Rattle.ldmodel.specs.Names.{Decision, Declaration, Duplicate, Entry, Provided, Script, Strong, Undefined, Weak}
pub use Rattle.ldmodel.specs.Names.{declarations, entries, is_of_name, names_in_objects}
unfoldable pub use Rattle.ldmodel.specs.Names.{decided, decision, declared_names, entry_symbol, provided}
pub use Rattle.ldmodel.specs.OutputSymbols.{in_byte_order, is_before, is_defined, output_symbol}
unfoldable pub use Rattle.ldmodel.specs.OutputSymbols.{output_symbols}
pub use Rattle.ldmodel.specs.PlacementView.{IsPlacementView, given_name, name_given_by, placed_of, region_of, symbol_of}
pub use Rattle.ldmodel.specs.Project.{NamedObject, Project}
pub use Rattle.ldmodel.specs.Relocations.{Site, is_evaluated, patch_of, site_field_with, site_value, sites_of_section}
unfoldable pub use Rattle.ldmodel.specs.Relocations.{site_field, sites}
pub use Rattle.ldmodel.specs.Stayed.{GoodLink}
pub use Rattle.ldmodel.specs.SymbolValues.{NotInOutput, Number, decided_value, number_or_0, placed_part}
pub use Rattle.ldmodel.specs.SymbolValues.{value_or_undefined}
unfoldable pub use Rattle.ldmodel.specs.SymbolValues.{name_value}
unfoldable pub use Rattle.ldmodel.specs.Targets.{referenced_value}
pub use Rattle.ldmodel.specs.Value.{Scope}
pub use Rattle.ldmodel.specs.declared.fault.SiteRef.{SiteRef}
pub use Rattle.ldmodel.specs.declared.names.Case.{Case}
pub use Rattle.ldmodel.specs.declared.names.ObjectPlace.{ObjectPlace}
pub use Rattle.ldmodel.specs.declared.sections.Part.{Part}
pub use Rattle.ldmodel.specs.declared.sections.Part.TheVariants.{InCommon, InTable}
pub use Rattle.ldmodel.specs.declared.sections.SectionRef.{SectionRef}
pub use Rattle.ldmodel_laws.proofs.Members.{filter_in, first_or_later, here, in_filter, later, none_in_nil}
pub use Rattle.ldmodel_laws.specs.StayedSites.{has_part_stayed, lies_in_stayed}
pub use Rattle.ldmodel_laws.specs.Untouched.{HasField, HasSameValue}
pub use Rattle.ldmodel_project.specs.ByPlace.{faults_in}
pub use Rattle.ldscript.specs.statements.Numbered.{shown_directives}
pub use Rattle.ldscript.specs.statements.Numbering.{AssertionAt, AssignmentAt, DirectiveAt, OutputSectionAt}
pub use Rattle.ldscript.specs.statements.Numbering.{all_directives, asserted_in, asserts, assigned_by, assigned_in}
pub use Rattle.ldscript.specs.statements.Numbering.{output_sections, provided_by, provided_in, regions}
pub use Rattle.ldscript.specs.statements.declared.directive.Directive.{Directive}
pub use Rattle.ldscript.specs.statements.declared.statement.Region.{Region}
pub use Rattle.ldscript.specs.statements.declared.statement.Statement.{Statement}
pub use Rattle.place.specs.IndexedLayout.{IsSectionAddress, table_key}
pub use Rattle.place.specs.sections.Places.{AreOf, Places}
pub use Rattle.slab.specs.Slab.{Updates, entries_from, get, values}
pub use Rattle.std.proofs.Common.{Bool, Err, List, Option, Result, Some, [], add-one, ap, append-nil, append_assoc}
pub use Rattle.std.proofs.Common.{arith, cond, count_by, drop, false, filter, find, flat_map, get_or, if◌then◌else◌}
pub use Rattle.std.proofs.Common.{inl, inr, length, length-append, map, nat_eq, not, option_copied, pos, refl, rules}
pub use Rattle.std.proofs.Common.{set, slice_index, subst, suc, sym, take, true, vec_capacity, vec_len, zero, ℕ, ⊎_elim}
pub use Rattle.std.proofs.Common.{◌&&◌, ◌++◌, ◌+◌, ◌-◌, ◌<◌, ◌==◌, ◌^◌, ◌||◌, ◌∙◌, ◌∷◌, ◌≡◌, ◌≢◌, ◌≤◌, ◌⊎◌}
pub use Rattle.std.proofs.Math.Seq.{drop-cons, take-length, take-suc}
pub use Rattle.std.proofs.lemmas.Bool.{cases_eq, cases_lt, eq-eqb, eqb-true, false≢true, ne_eqb, true≢false}
pub use Rattle.std.proofs.lemmas.Grind.{flat_map-append}
pub use Rattle.std.proofs.lemmas.List.{append_cancel_left, drop-drop, drop-map, drop_all, get_or-drop, get_or-map}
pub use Rattle.std.proofs.lemmas.List.{get_or-set_other, get_or-set_same, get_or-take, get_or_append_left}
pub use Rattle.std.proofs.lemmas.List.{get_or_default, get_or_past, length-drop, length-map, length-replicate}
pub use Rattle.std.proofs.lemmas.List.{length-set, length-take, length_push, map-append, map-id, same_from_push}
pub use Rattle.std.proofs.lemmas.List.{set-get_or, take-append-drop, take_all}
pub use Rattle.std.proofs.lemmas.List.Elements.{All-contains, All-contains_itself, All-drop, All-push, All-take}
pub use Rattle.std.proofs.lemmas.List.Elements.{All-weaker, filter-append, filter_map-append}
pub use Rattle.std.proofs.lemmas.List.Folds.{find_at, list_any_more}
pub use Rattle.std.proofs.lemmas.List.Sorted.{Contains-permutation, IsPartitionPoint-from_clause, IsPermutation-cons}
pub use Rattle.std.proofs.lemmas.List.Sorted.{IsPermutation-insert, IsPermutation-map, IsPermutation-refl}
pub use Rattle.std.proofs.lemmas.List.Sorted.{IsPermutation-sym, IsPermutation-to_front, IsPermutation-trans}
pub use Rattle.std.proofs.lemmas.List.Sorted.{answers_always, length_permutation, ranks_by, sorted_far}
pub use Rattle.std.proofs.lemmas.List.Sums.{position_or_len_is, sum_by-append, sum_by-cons}
pub use Rattle.std.proofs.lemmas.Option.{get_or_from_slice_get, same_Some, slice_get-get_or, slice_get-map}
pub use Rattle.std.proofs.lemmas.Option.{slice_get_past, slice_get_read, slice_get_within}
pub use Rattle.std.proofs.lemmas.Result.{IfOk-weaker}
pub use Rattle.std.proofs.lemmas.Slice.Eq.{bytes_eq-Decides}
pub use Rattle.std.specs.Borrow.{Bor}
pub use Rattle.std.specs.Cmp.{IsStrictWeakOrder}
pub use Rattle.std.specs.Cmp.Lexicographic.{lists_agrees, nat_list_cmp_total, slice_cmp, slice_partial_cmp}
pub use Rattle.std.specs.List.{All, AllPairs, AllZip, Contains, cons_option, filter_map, list_any}
pub use Rattle.std.specs.List.Sorted.{IsNonDecreasingBy, IsPartitionPoint, IsPartitionedBy, IsPermutation, IsSortedBy}
pub use Rattle.std.specs.Option.{option_and_then, option_map, option_map_or}
pub use Rattle.std.specs.Ordering.{is_eq, is_le, is_lt, is_some_and, nat_cmp, ordering_reverse}
pub use Rattle.std.specs.Prelude.{IfSome, IsSome, Ok, bytes_eq, is_some, nat_lt, option_to_list, replicate, slice_get}
pub use Rattle.std.specs.Prelude.{slice_index_or, unwrap_or}
pub use Rattle.std.specs.declared.cmp.Ordering.{Ordering}
pub use Rattle.std.specs.declared.cmp.Ordering.TheVariants.{Equal, Greater, Less}
pub use Rattle.symres.specs.Decided.{HasCase}
pub use Rattle.symres.specs.declared.sorted.NamedKey.{NamedKey}
pub use Rattle.symres.specs.table.State.{IsNamed}
