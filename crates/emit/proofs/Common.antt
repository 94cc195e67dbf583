-- The names that most proofs of this crate cite, passed on from one place. Declares nothing.
pub use Rattle.elfobj.specs.Object.{ObjectData, object_of}
pub use Rattle.elfobj.specs.Profile.{HasRelocationsOfProfile, IsRelocationOfProfile, IsSectionOfProfile, size_in_file}
pub use Rattle.elfobj.specs.RelocationKinds.{width}
pub use Rattle.elfobj.specs.Sections.{LinkedSection, section_of}
pub use Rattle.elfobj.specs.Symbols.{NamedSymbol}
pub use Rattle.elfobj.specs.declared.meter.Count.TheVariants.{Bytes, Fields}
pub use Rattle.elfobj.specs.declared.relocation.Relocation.{Relocation}
pub use Rattle.elfobj.specs.declared.relocation.SymbolIndex.{SymbolIndex}
pub use Rattle.elfobj.specs.declared.section.Section.{Section}
pub use Rattle.elfobj.specs.declared.section.SectionIndex.{SectionIndex}
pub use Rattle.elfobj.specs.declared.section.SectionKind.{SectionKind}
pub use Rattle.elfobj.specs.declared.section.SectionKind.TheVariants.{Nobits, Progbits}
pub use Rattle.elfobj.specs.declared.symbol.Symbol.{Symbol}
pub use Rattle.emit.specs.DataRuns.{AreDataFrom, AreDataOf, run_length}
pub use Rattle.emit.specs.InPlaceRewrites.{IsBare, IsInPlaceRewrite, IsOutside}
pub use Rattle.emit.specs.LocatedSections.{HasLocatedSections, IsLocatedSection, bytes_of, sites_of}
pub use Rattle.emit.specs.Numbered.{AreAscending, IsRead}
pub use Rattle.emit.specs.Numbers.{HaveNumbers}
pub use Rattle.emit.specs.Output.{AreDrawnOf, AreStayedByKey, IsJoinedRow, IsOutput}
pub use Rattle.emit.specs.Parts.{ArePartsOf}
pub use Rattle.emit.specs.Pieces.{AreRowsAt, AreSources, IsDrawnPiece, IsPlacedAt, IsRowAt, IsRowPiece, IsSectionPiece}
pub use Rattle.emit.specs.Pieces.{IsSized}
pub use Rattle.emit.specs.Plan.{AreWritten, ComesOf, HasBytes, IsAsBefore, IsAtHand, IsFaultlessRun, IsInFile}
pub use Rattle.emit.specs.Plan.{IsNothing, IsPlanned, IsPlannedAt, IsRefused, IsWhole, IsWithin, Written, count_of}
pub use Rattle.emit.specs.Plan.{sites_in_all, sites_there, written, written_all}
pub use Rattle.emit.specs.Runs.{AreRunsUnless, IsRunUnless, key_in}
pub use Rattle.emit.specs.Sizes.{names_size, valued, valued_in}
pub use Rattle.emit.specs.Tables.{AreTablesFor}
pub use Rattle.emit.specs.declared.located_section.LocatedSection.{LocatedSection}
pub use Rattle.emit.specs.declared.output.OutputDrawing.{OutputDrawing}
pub use Rattle.emit.specs.declared.plan.PlannedSection.{PlannedSection}
pub use Rattle.emit_fields.specs.Patches.{AreInOrder, patch_end, patched_byte}
pub use Rattle.emit_fields.specs.declared.patch.Patch.{Patch}
pub use Rattle.emit_image.proofs.Joining.{stand_empty, stand_none}
pub use Rattle.emit_image.specs.Joined.{AreAlike, IsJoined, IsJoinedSection, IsStayedPieceAt, StandFor}
pub use Rattle.emit_image.specs.OfLink.{IsDrawingOf, IsImageData, IsImagePart, IsImagePiece, IsImageSection, loaded}
pub use Rattle.emit_image.specs.Stretches.{EndsBy}
pub use Rattle.emit_image.specs.Tables.{AreTablesOf, IsTableSection, IsTableSymbol, binding_number}
pub use Rattle.emit_image.specs.declared.section.ImagePiece.{ImagePiece}
pub use Rattle.emit_image.specs.declared.section.ImageSection.{ImageSection}
pub use Rattle.emit_relocate.specs.Fields.{IsAdded, IsRun, evaluations, fault_at, faults_of, work_of}
pub use Rattle.emit_relocate.specs.Filled.{EndBelow, IsRunAt, IsRunOf, ObjectSection, ends_of, sections_in, sections_of}
pub use Rattle.emit_relocate.specs.KnownLink.{KnownLink}
pub use Rattle.emit_relocate.specs.LinkValues.{AreValues, HasFacts, shown_symbol}
pub use Rattle.emit_relocate.specs.LinkView.{known_link}
pub use Rattle.emit_relocate.specs.Patched.{AreInFile, AreOfProfile, AreSized, IsPatchOfSite}
pub use Rattle.emit_relocate.specs.PreviousLinkInfo.{range_of}
pub use Rattle.emit_relocate.specs.SymbolRows.{definer_in, value_in}
pub use Rattle.emit_relocate.specs.Values.{value_of}
pub use Rattle.emit_relocate.specs.declared.values.Values.{Values}
pub use Rattle.emit_text.specs.Definer.{definer_of, is_weak}
pub use Rattle.ldmodel.specs.Counts.{Counts, capped}
pub use Rattle.ldmodel.specs.Each.{Each}
pub use Rattle.ldmodel.specs.Edits.{AreNamesDistinct, has_name}
pub use Rattle.ldmodel.specs.Fault.{AssertionFailed, Orphan, UndefinedEntry}
unfoldable pub use Rattle.ldmodel.specs.FaultCode.{fault_of}
pub use Rattle.ldmodel.specs.Image.{covers, object_named, section_numbered}
unfoldable pub use Rattle.ldmodel.specs.Image.{byte_at, file_headers, image}
pub use Rattle.ldmodel.specs.Layout.{Layout, PlacedOutput, PlacedPiece, nothing_placed}
pub use Rattle.ldmodel.specs.Link.{Link, duplicate_fault, good, laid_out, max_image_length, of_length, placed, unless}
pub use Rattle.ldmodel.specs.Link.{without_overlaps}
unfoldable pub use Rattle.ldmodel.specs.Link.{gathering_faults, layout, link, name_faults}
unfoldable pub use Rattle.ldmodel.specs.Live.{live}
pub use Rattle.ldmodel.specs.NameFaults.{object_name}
unfoldable pub use Rattle.ldmodel.specs.Names.{provided}
pub use Rattle.ldmodel.specs.Placement.{Body, is_in_file, is_nobits, opened}
unfoldable pub use Rattle.ldmodel.specs.Placement.{placed_section, placement}
pub use Rattle.ldmodel.specs.PlacementView.{AreSegments, IsPlacementView, NumberedData, data_of, numbered, placed_of}
pub use Rattle.ldmodel.specs.PlacementView.{starts_of}
pub use Rattle.ldmodel.specs.Project.{NamedObject, Project}
pub use Rattle.ldmodel.specs.Raised.{raised}
pub use Rattle.ldmodel.specs.Relocations.{Site, entry_fault, fields_of, is_evaluated, patch_of, site_value, sites_at}
pub use Rattle.ldmodel.specs.Relocations.{sites_of_section}
unfoldable pub use Rattle.ldmodel.specs.Relocations.{relocation_faults, site_field, sites}
pub use Rattle.ldmodel.specs.Rows.{Piece}
unfoldable pub use Rattle.ldmodel.specs.Rows.{rows}
pub use Rattle.ldmodel.specs.SectionHeaders.{FilePart, tail}
unfoldable pub use Rattle.ldmodel.specs.SectionHeaders.{header_name_table, header_part, image_length}
pub use Rattle.ldmodel.specs.Sections.{InputSection, is_same_part}
pub use Rattle.ldmodel.specs.Segments.{SectionInFile, Segment, file_offset, in_file, loaded_end, nonempty}
unfoldable pub use Rattle.ldmodel.specs.Segments.{segments}
pub use Rattle.ldmodel.specs.Sorting.{insert_by}
unfoldable pub use Rattle.ldmodel.specs.Sorting.{sort_by}
pub use Rattle.ldmodel.specs.SymbolValues.{NotDefined, is_part, number_or_0, placed_part, placed_pieces, symbol_index}
unfoldable pub use Rattle.ldmodel.specs.SymbolValues.{entry_point}
pub use Rattle.ldmodel.specs.declared.names.ObjectPlace.{ObjectPlace}
pub use Rattle.ldmodel.specs.declared.placed.Placed.{Placed}
pub use Rattle.ldmodel.specs.declared.sections.Part.{Part}
pub use Rattle.ldmodel.specs.declared.sections.Part.TheVariants.{InCommon, InTable}
pub use Rattle.ldmodel.specs.declared.sections.SectionRef.{SectionRef}
pub use Rattle.ldmodel_laws.proofs.EachOf.{all_of_each, each_append, each_filter, each_into_map, each_of_all}
pub use Rattle.ldmodel_laws.proofs.EachOf.{later_imply, later_of_map, later_of_pairs, zip_more}
pub use Rattle.ldmodel_laws.proofs.Finding.{NotBoth, find_mapped, find_only, flat_map_in, in_flat_map, in_map, map_in}
pub use Rattle.ldmodel_laws.proofs.Finding.{member_of, none_in}
pub use Rattle.ldmodel_laws.proofs.InImage.{linked}
pub use Rattle.ldmodel_laws.proofs.Members.{any_in, at_place, first_or_later, here, in_filter, later, none_in_nil}
pub use Rattle.ldmodel_laws.specs.ByteCases.{object_byte, part_byte, section_byte}
pub use Rattle.ldmodel_laws.specs.ImageBytes.{AreNamed, offset_in_file}
pub use Rattle.ldmodel_laws.specs.Outline.{DiffersInContents, HasSameFrame, ObjectOutline, object_outline}
pub use Rattle.ldmodel_laws.specs.PlacedOnce.{AreNumbered, Differ, IsPlacedOnce}
pub use Rattle.ldmodel_laws.specs.Spread.{EachLater, IsSpread, entries_in, piece_end}
pub use Rattle.ldmodel_project.specs.ByPlace.{faults_in, piece_in, rows_in}
pub use Rattle.ldmodel_project.specs.Inputs.{AreObjectsNamed, shown_input, shown_inputs}
pub use Rattle.ldscript.specs.statements.Numbered.{shown_sections}
pub use Rattle.ldscript.specs.statements.Numbering.{AssertionAt, InputStatementAt, OutputSectionAt, asserts, entry_of}
pub use Rattle.ldscript.specs.statements.Numbering.{input_statements, output_sections, regions}
pub use Rattle.ldscript.specs.statements.declared.section.OutputSection.{OutputSection}
pub use Rattle.ldscript.specs.statements.declared.statement.Region.{Region}
pub use Rattle.ldscript.specs.statements.declared.statement.Statement.{Statement}
pub use Rattle.place.proofs.Lists.{each_at, find_at}
pub use Rattle.place.specs.declared.length.TailSizes.{TailSizes}
pub use Rattle.std.proofs.Common.{Bool, IfSome, List, None, Ok, Option, Some, [], add-one, ap, append-nil, append_assoc}
pub use Rattle.std.proofs.Common.{arith, bytes_eq, cond, drop, drop-cons, false, filter, find, flat_map, get_or, inl}
pub use Rattle.std.proofs.Common.{inr, length, map, nat_le, not, pos, refl, replicate, rules, slice_index, subst, suc}
pub use Rattle.std.proofs.Common.{sym, take, true, zero, ℕ, ⊎_elim, ◌&&◌, ◌++◌, ◌+◌, ◌-◌, ◌<◌, ◌==◌, ◌^◌, ◌||◌, ◌∙◌}
pub use Rattle.std.proofs.Common.{◌∷◌, ◌≡◌, ◌≢◌, ◌≤◌, ◌⊎◌}
pub use Rattle.std.proofs.Math.Seq.{take-suc}
pub use Rattle.std.proofs.lemmas.Bool.{and_parts, cases_lt, eq-eqb, eqb-true, false_from_ne_true, false≢true, ltb-true}
pub use Rattle.std.proofs.lemmas.Bool.{ne_eqb, true≢false}
pub use Rattle.std.proofs.lemmas.List.{drop_all, drop_at, get_or-map, get_or_default, length-append, length-drop}
pub use Rattle.std.proofs.lemmas.List.{length-map, length-take-le, map-append, map_more, nil_from_length, take_all}
pub use Rattle.std.proofs.lemmas.List.{take_more}
pub use Rattle.std.proofs.lemmas.List.Elements.{All-append, All-cons, All-contains, All-contains_itself, All-filter}
pub use Rattle.std.proofs.lemmas.List.Elements.{All-head, All-map, All-more, All-nil, All-push, All-same, All-tail}
pub use Rattle.std.proofs.lemmas.List.Elements.{All-weaker, Contains-append_cases, Contains-append_left}
pub use Rattle.std.proofs.lemmas.List.Elements.{Contains-append_right, filter-append, filter_map-append}
pub use Rattle.std.proofs.lemmas.List.Sums.{sum_by-append, sum_by-cons}
pub use Rattle.std.proofs.lemmas.Option.{get_or_from_slice_get, same_Some, slice_get-map, slice_get_within}
pub use Rattle.std.proofs.lemmas.Result.{IfOk-weaker, on_ok_weaker}
pub use Rattle.std.proofs.lemmas.Simd.{map-map}
pub use Rattle.std.proofs.lemmas.Slice.Eq.{bytes_eq-Decides}
pub use Rattle.std.proofs.lemmas.Slice.Zip.{AllZip-long}
pub use Rattle.std.specs.Borrow.{Bor}
pub use Rattle.std.specs.Global.{Global}
pub use Rattle.std.specs.List.{All, AllPairs, AllZip, Contains, cons_option, count_by, enumerate_from, filter_map}
pub use Rattle.std.specs.List.{list_any, range_with_len, zip}
pub use Rattle.std.specs.Option.{option_map, option_map_or, option_or}
pub use Rattle.std.specs.Prelude.{Err, IfNone, IfOk, IsSome, Result, Vec, codes, if◌then◌else◌, is_none, is_some}
pub use Rattle.std.specs.Prelude.{nat_lt, option_and_then, option_to_list, slice_get, slice_index_or, sum_by}
pub use Rattle.std.specs.Result.{result_err}
pub use Rattle.std.specs.Vec.{vec_items}
pub use Rattle.symres.specs.SymbolTable.{SymbolTableState}
