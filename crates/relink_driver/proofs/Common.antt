-- The names that most proofs of this crate cite, passed on from one place. Declares nothing.
pub use Rattle.elfobj.specs.Counts.{Counts, capped}
pub use Rattle.elfobj.specs.Object.{ObjectData}
pub use Rattle.elfobj.specs.Raised.{raised}
pub use Rattle.elfobj.specs.Sections.{LinkedSection, section_of}
pub use Rattle.elfobj.specs.Symbols.{NamedSymbol}
pub use Rattle.elfobj.specs.declared.meter.Count.TheVariants.{Bytes, Fields, Pieces}
pub use Rattle.elfobj.specs.declared.relocation.Relocation.{Relocation}
pub use Rattle.elfobj.specs.declared.relocation.SymbolIndex.{SymbolIndex}
pub use Rattle.elfobj.specs.declared.section.Section.{Section}
pub use Rattle.elfobj.specs.declared.section.SectionIndex.{SectionIndex}
pub use Rattle.elfobj.specs.declared.section.SectionKind.{SectionKind}
pub use Rattle.elfobj.specs.declared.symbol.Symbol.{Symbol}
pub use Rattle.emit.specs.Beside.{IsRelocatedBeside, new_link}
pub use Rattle.emit.specs.LocatedSections.{HasLocatedSections, IsLocatedSection, bytes_of, sites_of}
pub use Rattle.emit.specs.declared.located_section.LocatedSection.{LocatedSection}
pub use Rattle.emit.specs.declared.relocated.Relocated.{Relocated}
pub use Rattle.emit.specs.fields.declared.patch.Patch.{Patch}
pub use Rattle.emit.specs.image.Redrawings.{ArePatchesOf}
pub use Rattle.emit.specs.image.Stretches.{EndsBy, patch_bytes}
pub use Rattle.emit.specs.relocate.KnownLink.{AreNameValues, IsSymbolOf, KnownLink, name_of_object, named_object}
pub use Rattle.emit.specs.relocate.KnownLink.{value_under}
pub use Rattle.emit.specs.relocate.LinkValues.{AreValues}
pub use Rattle.emit.specs.relocate.LinkView.{IsLinkView, known_link}
pub use Rattle.emit.specs.relocate.PreviousLinkInfo.{HasSomeStayed, HasStayedAt, IsComplete, IsPieceOf}
pub use Rattle.emit.specs.relocate.SymbolValues.{AreSymbolValues, AreValuesOf, IsRow, row_at, value_at}
pub use Rattle.emit.specs.relocate.Values.{value_of}
pub use Rattle.emit.specs.relocate.declared.link_view.LinkView.{LinkView}
pub use Rattle.emit.specs.relocate.declared.symbol_values.SymbolValues.{SymbolValues}
pub use Rattle.gather.specs.ProjectMatches.{AreMatched}
unfoldable pub use Rattle.ldmodel.specs.Assertions.{assertion_faults}
pub use Rattle.ldmodel.specs.Each.{Each}
pub use Rattle.ldmodel.specs.Edits.{Add, After, AreNamesDistinct, SetScript, has_name}
pub use Rattle.ldmodel.specs.Fault.{Fault, ImageTooLong}
pub use Rattle.ldmodel.specs.Image.{object_named, section_numbered}
unfoldable pub use Rattle.ldmodel.specs.Image.{image}
pub use Rattle.ldmodel.specs.Layout.{Layout, PlacedOutput, PlacedPiece, nothing_placed}
pub use Rattle.ldmodel.specs.Link.{Link, faulty, good, max_image_length, of_length, placed, relocated, unless}
unfoldable pub use Rattle.ldmodel.specs.Link.{gathering_faults, layout, link, name_faults}
unfoldable pub use Rattle.ldmodel.specs.MapText.{map_text}
pub use Rattle.ldmodel.specs.NameFaults.{object_name}
pub use Rattle.ldmodel.specs.Names.{Decision, is_local, is_weak_binding, symbol_tables}
unfoldable pub use Rattle.ldmodel.specs.Names.{decision, entry_symbol, provided}
pub use Rattle.ldmodel.specs.Options.{LinkOptions}
unfoldable pub use Rattle.ldmodel.specs.Placement.{placement}
pub use Rattle.ldmodel.specs.Project.{NamedObject, Project, empty_project}
unfoldable pub use Rattle.ldmodel.specs.Relocations.{relocation_faults}
unfoldable pub use Rattle.ldmodel.specs.Rows.{rows}
unfoldable pub use Rattle.ldmodel.specs.SectionHeaders.{image_length}
pub use Rattle.ldmodel.specs.Sections.{is_same_part}
pub use Rattle.ldmodel.specs.Segments.{SectionInFile, file_offset, in_file, nonempty}
unfoldable pub use Rattle.ldmodel.specs.Segments.{segments}
pub use Rattle.ldmodel.specs.SessionWork.{bytes_to_write, entries_from, sites_to_evaluate}
pub use Rattle.ldmodel.specs.Stayed.{GoodLink}
pub use Rattle.ldmodel.specs.SymbolValues.{is_part, own_value, placed_part}
pub use Rattle.ldmodel.specs.Targets.{or_weak}
unfoldable pub use Rattle.ldmodel.specs.Targets.{referenced_value}
pub use Rattle.ldmodel.specs.declared.names.ObjectPlace.{ObjectPlace}
pub use Rattle.ldmodel.specs.declared.sections.Part.{Part}
pub use Rattle.ldmodel.specs.declared.sections.Part.TheVariants.{InCommon, InTable}
pub use Rattle.ldmodel.specs.declared.sections.SectionRef.{SectionRef}
pub use Rattle.ldmodel_laws.proofs.Finding.{flat_map_in, in_map, map_in, member_of}
pub use Rattle.ldmodel_laws.proofs.Members.{any_in, at_place, filter_in, first_or_later, here, in_any, later}
pub use Rattle.ldmodel_laws.proofs.Members.{none_in_nil}
pub use Rattle.ldmodel_laws.specs.FileOrder.{AreInFileOrder}
pub use Rattle.ldmodel_laws.specs.Outline.{DiffersInContents, HasSameFrame, ObjectOutline, SectionOutline}
pub use Rattle.ldmodel_laws.specs.Outline.{object_outline, object_targets, section_outline, section_targets}
pub use Rattle.ldmodel_laws.specs.Spread.{EachLater, entries_in}
pub use Rattle.ldmodel_laws.specs.StayedSites.{has_part_stayed, is_linked_part, lies_in_stayed}
pub use Rattle.ldmodel_laws.specs.Untouched.{HasField, IsGood}
pub use Rattle.ldmodel_project.specs.ByPlace.{faults_in, piece_in, rows_in}
pub use Rattle.ldmodel_project.specs.Inputs.{shown_input, shown_inputs}
pub use Rattle.ldmodel_project.specs.ProjectState.{held}
pub use Rattle.ldscript.specs.statements.declared.statement.Statement.{Statement}
pub use Rattle.place.specs.InPlace.{IsOwned, entries_of}
pub use Rattle.place.specs.IndexedLayout.{IsIndexedLayout, IsSectionAddress, table_key}
pub use Rattle.place.specs.LinkLayout.{IsLinkLayout}
pub use Rattle.place.specs.declared.indexed_layout.IndexedLayout.{IndexedLayout}
pub use Rattle.place.specs.declared.indexed_layout.SectionAddress.{SectionAddress}
pub use Rattle.place.specs.declared.link_layout.LinkLayout.{LinkLayout}
pub use Rattle.place.specs.sections.Places.{AreOf, IsPlacement}
pub use Rattle.place.specs.sections.Resumable.{IsResumable}
pub use Rattle.relink_driver.specs.Adding.{Adds, EndsAt, Prepares}
pub use Rattle.relink_driver.specs.Answer.{answer_of, fault_answer, files_of, refused_at}
pub use Rattle.relink_driver.specs.Context.{project_of}
pub use Rattle.relink_driver.specs.Counted.{AreEvaluated, ArePlaced, IsWritten}
pub use Rattle.relink_driver.specs.DirtyObjects.{AreDirtyObjects}
pub use Rattle.relink_driver.specs.InPlace.{HasSameOutlines, IsNextLink, bytes_of_object, origin_beside, own_bytes}
pub use Rattle.relink_driver.specs.LocatedSections.{key_of, spot_at, spot_of, spot_with, spots_below}
pub use Rattle.relink_driver.specs.Origins.{AreOrigins}
pub use Rattle.relink_driver.specs.PassEnds.{IsPassEnd, faulty_link}
pub use Rattle.relink_driver.specs.PreviousLink.{range_if_same}
unfoldable pub use Rattle.relink_driver.specs.PreviousLink.{previous_location, stayed_range}
pub use Rattle.relink_driver.specs.Reads.{EndsReadingNothing, ReadsNothing}
pub use Rattle.relink_driver.specs.Resume.{AreSameBefore, HasReplaced, IsFirstChanged, IsNext}
pub use Rattle.relink_driver.specs.SameRows.{first_changed}
pub use Rattle.relink_driver.specs.SameStarts.{has_same_start}
pub use Rattle.relink_driver.specs.SectionLocation.{bytes_from, location_of, location_with, range_at, same_location}
unfoldable pub use Rattle.relink_driver.specs.SectionLocation.{location_in, range_from}
pub use Rattle.relink_driver.specs.StayedColumn.{flag_of, has_stayed_number, key_at, no_flags, stayed_between}
pub use Rattle.relink_driver.specs.StayedSections.{IsPreviousOf, IsReplaced, PreviousState, ReplacedObjectState}
pub use Rattle.relink_driver.specs.StayedSections.{last_place, previous_of, previous_state, replaced_state}
pub use Rattle.relink_driver.specs.Touched.{HasTouched, IsTouchedCount}
pub use Rattle.relink_driver.specs.ValueSources.{AreSeenIn, AreValueSources}
pub use Rattle.relink_driver.specs.WithoutMap.{ShownAnswers, shown, shown_answer, shown_map, without_map}
pub use Rattle.relink_driver.specs.declared.fault.LinkFault.{LinkFault}
pub use Rattle.relink_driver.specs.declared.fault.LinkFault.TheVariants.{Memory, Refused}
pub use Rattle.relink_driver.specs.declared.section_location.SectionLocation.{SectionLocation}
pub use Rattle.relink_driver.specs.declared.stayed_sections.PreviousView.{PreviousView}
pub use Rattle.relink_driver.specs.declared.stayed_sections.StayedSections.{StayedSections}
pub use Rattle.relink_driver.specs.declared.symbol_values.ValueSources.{ValueSources}
pub use Rattle.std.proofs.Common.{Bool, Global, List, None, Option, Some, [], add-one, ap, arith, bytes_eq, codes, cond}
pub use Rattle.std.proofs.Common.{count_by, drop, eq-eqb, false, filter, find, flat_map, get_or, inl, inr, length}
pub use Rattle.std.proofs.Common.{length-append, map, not, refl, rules, slice_get, string_bytes, subst, suc, sym, take}
pub use Rattle.std.proofs.Common.{true, vec_len, zero, zip, ℕ, ⊎_elim, ◌&&◌, ◌++◌, ◌+◌, ◌-◌, ◌<◌, ◌==◌, ◌^◌, ◌||◌, ◌∙◌}
pub use Rattle.std.proofs.Common.{◌∷◌, ◌≡◌, ◌≢◌, ◌≤◌, ◌⊎◌}
pub use Rattle.std.proofs.lemmas.Bool.{and_from, and_parts, cases_lt, eqb-false, eqb-true, false≢true, leb-true, lt-ltb}
pub use Rattle.std.proofs.lemmas.Bool.{ltb-false, ltb-true, ne_eqb}
pub use Rattle.std.proofs.lemmas.List.{append-nil, append_assoc, get_or-drop, get_or-map, get_or-take}
pub use Rattle.std.proofs.lemmas.List.{get_or_append_left, get_or_past, get_or_push, length-map, length-take}
pub use Rattle.std.proofs.lemmas.List.{map-append, same_lists, take-map, take_all}
pub use Rattle.std.proofs.lemmas.List.Sums.{prefix_len-le-length, sum_by-append, sum_by-cons}
pub use Rattle.std.proofs.lemmas.Option.{get_or_from_slice_get, same_Some, slice_get-get_or, slice_get-map}
pub use Rattle.std.proofs.lemmas.Option.{slice_get_past, slice_get_read, slice_get_within}
pub use Rattle.std.proofs.lemmas.Result.{err_from_is_err_and}
pub use Rattle.std.proofs.lemmas.Simd.{map-map}
pub use Rattle.std.proofs.lemmas.Slice.Eq.{bytes_eq-Decides}
pub use Rattle.std.specs.List.{All, Contains, cons_option, enumerate_from, filter_map, list_any, position_from}
pub use Rattle.std.specs.List.{position_or_len}
pub use Rattle.std.specs.Option.{option_and_then, option_map, option_map_or, option_or}
pub use Rattle.std.specs.Prelude.{AllPairs, Err, IfNone, IfOk, IfSome, IsNone, IsSome, MatchOption, Ok, Result}
pub use Rattle.std.specs.Prelude.{if◌then◌else◌, is_some, nat_le, nat_lt, option_to_list, position, slice_index_or}
pub use Rattle.std.specs.Prelude.{sum_by, unwrap_or, vec_capacity}
pub use Rattle.std.specs.Vec.{vec_items}
pub use Rattle.symres.specs.SymbolTable.{SymbolTableState}
