-- The names that most proofs of this crate cite, passed on from one place. Declares nothing.
pub use Rattle.byteorder.specs.Endian.{little_bytes}
pub use Rattle.elfobj.specs.RelocationKinds.{width}
pub use Rattle.elfobj.specs.Sections.{LinkedSection}
pub use Rattle.elfobj.specs.Symbols.{NamedSymbol}
pub use Rattle.elfobj.specs.declared.relocation.Relocation.{Relocation}
pub use Rattle.elfobj.specs.declared.section.SectionIndex.{SectionIndex}
unfoldable pub use Rattle.emit_fields.specs.Fields.{field_of}
pub use Rattle.emit_fields.specs.Patches.{IsWithin, patch_covers, patch_end, patched_byte}
pub use Rattle.emit_fields.specs.declared.patch.Patch.{Patch}
unfoldable pub use Rattle.ldmodel.specs.Assertions.{assertion_faults}
pub use Rattle.ldmodel.specs.Chain.{and_then}
unfoldable pub use Rattle.ldmodel.specs.Chain.{run}
pub use Rattle.ldmodel.specs.Each.{Each}
pub use Rattle.ldmodel.specs.Edits.{AreNamesDistinct, Change}
pub use Rattle.ldmodel.specs.Fault.{Fault, ImageTooLong, MovedBack, PastAddressSpace}
unfoldable pub use Rattle.ldmodel.specs.FaultCode.{fault_of}
unfoldable pub use Rattle.ldmodel.specs.FaultText.{fault_text}
unfoldable pub use Rattle.ldmodel.specs.FirstMatch.{first_match}
pub use Rattle.ldmodel.specs.Gathering.{candidates}
unfoldable pub use Rattle.ldmodel.specs.Gathering.{is_discarded}
pub use Rattle.ldmodel.specs.Image.{covering_data, covering_piece, covers, file_section_at, object_named}
pub use Rattle.ldmodel.specs.Image.{section_numbered, tail_at}
unfoldable pub use Rattle.ldmodel.specs.Image.{byte_at, file_headers, image}
unfoldable pub use Rattle.ldmodel.specs.InputSections.{input_sections}
pub use Rattle.ldmodel.specs.Layout.{Layout, PlacedData, PlacedOutput, PlacedPiece, ScriptSymbol, address, noted}
pub use Rattle.ldmodel.specs.Layout.{nothing_placed, scope_of, symbol_named, value_at, with_symbol}
unfoldable pub use Rattle.ldmodel.specs.Layout.{number}
unfoldable pub use Rattle.ldmodel.specs.Lines.{hex, line_of}
unfoldable pub use Rattle.ldmodel.specs.Link.{gathering_faults, layout, link, name_faults}
unfoldable pub use Rattle.ldmodel.specs.Live.{entry_section, live, orphans, target_section}
unfoldable pub use Rattle.ldmodel.specs.MapText.{map_text}
unfoldable pub use Rattle.ldmodel.specs.Mentioned.{mentioned_names}
unfoldable pub use Rattle.ldmodel.specs.NameFaults.{duplicates, undefined_entry}
unfoldable pub use Rattle.ldmodel.specs.OutputSymbols.{output_symbols}
unfoldable pub use Rattle.ldmodel.specs.Overlaps.{overlaps}
pub use Rattle.ldmodel.specs.Project.{NamedObject, Project, empty_project}
pub use Rattle.ldmodel.specs.Reach.{Path, reached_in, start, step}
unfoldable pub use Rattle.ldmodel.specs.Reach.{reached}
pub use Rattle.ldmodel.specs.Relocations.{Site, fields_of, is_evaluated, patch_of, site_field_with, site_symbol}
pub use Rattle.ldmodel.specs.Relocations.{site_value, sites_at, sites_of_section}
unfoldable pub use Rattle.ldmodel.specs.Relocations.{relocation_faults, site_field, sites}
pub use Rattle.ldmodel.specs.Rows.{Piece, below, is_in_section, piece_alignment, piece_of, sorted_pieces, taken}
unfoldable pub use Rattle.ldmodel.specs.Rows.{rows}
unfoldable pub use Rattle.ldmodel.specs.ScriptNames.{assigned_names, provided_names}
unfoldable pub use Rattle.ldmodel.specs.SectionHeaders.{image_length}
pub use Rattle.ldmodel.specs.Sections.{InputSection, is_same_part}
pub use Rattle.ldmodel.specs.Segments.{Segment}
unfoldable pub use Rattle.ldmodel.specs.Segments.{groups, segments}
pub use Rattle.ldmodel.specs.Sorting.{IsOrdered, insert_by}
unfoldable pub use Rattle.ldmodel.specs.Sorting.{sort_by}
unfoldable pub use Rattle.ldmodel.specs.Stayed.{linked_pieces}
pub use Rattle.ldmodel.specs.SymbolValues.{NotDefined, NotInOutput, Number, SymbolValue, address_in, is_part}
pub use Rattle.ldmodel.specs.SymbolValues.{number_or_0, own_value, placed_part, placed_pieces}
unfoldable pub use Rattle.ldmodel.specs.SymbolValues.{entry_point, name_value}
unfoldable pub use Rattle.ldmodel.specs.Tail.{output_symbol_table, symbol_name_table}
pub use Rattle.ldmodel.specs.Targets.{Name, Target, local_target, or_weak, target_of}
unfoldable pub use Rattle.ldmodel.specs.Targets.{referenced_value, target_number}
unfoldable pub use Rattle.ldmodel.specs.Value.{value}
pub use Rattle.ldmodel.specs.WorkBound.{bytes_stayed, sites_outside}
pub use Rattle.ldmodel.specs.declared.sections.Part.{Part}
pub use Rattle.ldmodel.specs.declared.sections.Part.TheVariants.{InCommon, InTable}
pub use Rattle.ldmodel_laws.specs.Bounds.{DoAgree}
pub use Rattle.ldmodel_laws.specs.ImageBytes.{AreNamed, offset_in_file}
pub use Rattle.ldmodel_laws.specs.Placed.{IsLeastMultiple, PieceTo, past_inputs, with_piece}
pub use Rattle.ldmodel_laws.specs.PlacedOnce.{AreNumbered, Differ, IsPlacedOnce}
pub use Rattle.ldmodel_laws.specs.Spread.{EachLater, IsSpread, entries_in, piece_end}
pub use Rattle.ldmodel_laws.specs.Untouched.{AreRead, HasField, HasSameValue, IsFaultless, IsGood, IsOutside}
pub use Rattle.ldscript.specs.Script.{IsRefusal, IsScript, IsSound, IsTree}
pub use Rattle.ldscript.specs.declared.refusal.ScriptRefusal.{ScriptRefusal}
pub use Rattle.ldscript.specs.statements.Dots.{has_misplaced_dot}
pub use Rattle.ldscript.specs.statements.Mentions.{HasClash}
pub use Rattle.ldscript.specs.statements.Numbering.{DirectiveAt, InputStatementAt, OutputSectionAt, all_directives}
pub use Rattle.ldscript.specs.statements.Numbering.{directives_in, directives_of, discarded_inputs, input_statements}
pub use Rattle.ldscript.specs.statements.Numbering.{inputs_from, inputs_in, inputs_of, item_directives, item_inputs}
pub use Rattle.ldscript.specs.statements.Numbering.{item_sections, items, items_directives, items_of, output_sections}
pub use Rattle.ldscript.specs.statements.Numbering.{regions, regions_in, sections_in, top_directives}
pub use Rattle.ldscript.specs.statements.Widths.{byte_count}
pub use Rattle.ldscript.specs.statements.declared.directive.Directive.{Directive}
pub use Rattle.ldscript.specs.statements.declared.directive.DotCommand.{DotCommand}
pub use Rattle.ldscript.specs.statements.declared.place.InputPlace.TheVariants.{InDiscard, InSection}
pub use Rattle.ldscript.specs.statements.declared.section.BodyCommand.{BodyCommand}
pub use Rattle.ldscript.specs.statements.declared.section.BodyStatement.{BodyStatement}
pub use Rattle.ldscript.specs.statements.declared.section.OutputSection.{OutputSection}
pub use Rattle.ldscript.specs.statements.declared.section.Width.{Width}
pub use Rattle.ldscript.specs.statements.declared.statement.Item.{Item}
pub use Rattle.ldscript.specs.statements.declared.statement.ItemCommand.{ItemCommand}
pub use Rattle.ldscript.specs.statements.declared.statement.Region.{Region}
pub use Rattle.ldscript.specs.statements.declared.statement.Statement.{Statement}
pub use Rattle.ldscript.specs.terms.DotForms.{Advance, Align, DotForm, Offset, dot_form}
pub use Rattle.ldscript.specs.terms.Expressions.{Expr}
unfoldable pub use Rattle.ldscript.specs.terms.Grammar.{word_of}
unfoldable pub use Rattle.ldscript.specs.terms.Matching.{is_match}
pub use Rattle.ldscript.specs.tokens.Modes.{IsCut}
pub use Rattle.ldscript.specs.tokens.Tokens.{Lexeme}
pub use Rattle.std.proofs.Common.{Bool, Err, List, MatchOption, None, Ok, Option, Result, Some, [], ap, append-nil}
pub use Rattle.std.proofs.Common.{append_assoc, arith, bytes_eq, codes, cond, decimal, false, filter, find, flat_map}
pub use Rattle.std.proofs.Common.{fold, get_or, if◌then◌else◌, inl, inr, length, length-append, map, max, min, nat_le}
pub use Rattle.std.proofs.Common.{nat_lt, not, refl, set, slice_get, slice_index, subst, suc, sym, true, zero, ℕ}
pub use Rattle.std.proofs.Common.{⊎_elim, ◌%◌, ◌&&◌, ◌*◌, ◌++◌, ◌+◌, ◌-◌, ◌/◌, ◌<◌, ◌==◌, ◌^◌, ◌||◌, ◌↔◌, ◌∙◌, ◌∷◌, ◌≡◌}
pub use Rattle.std.proofs.Common.{◌≢◌, ◌≤◌, ◌⊎◌}
pub use Rattle.std.proofs.Math.Nat.{eq-zero-or-pos}
pub use Rattle.std.proofs.lemmas.Bool.{and_from, and_parts, and_right, cases_lt, eq-eqb, eqb-true, false_from_ne_true}
pub use Rattle.std.proofs.lemmas.Bool.{false≢true, le-leb, le-ltb, leb-true, lt-ltb, ltb-false, ltb-true, not-true}
pub use Rattle.std.proofs.lemmas.Bool.{not_from_false, or_cases, or_left, or_parts, or_right, true≢false}
pub use Rattle.std.proofs.lemmas.List.{length-map, map-append}
pub use Rattle.std.proofs.lemmas.List.Elements.{Contains-append_cases, Contains-append_left, Contains-append_right}
pub use Rattle.std.proofs.lemmas.List.Elements.{Contains-push, filter-append}
pub use Rattle.std.proofs.lemmas.Nat.{and_le_l, div-add-mod', mod_below, or_lt}
pub use Rattle.std.proofs.lemmas.Slice.Eq.{bytes_eq-Decides}
pub use Rattle.std.specs.Int.{next_multiple_of}
pub use Rattle.std.specs.List.{All, AllPairs, AllZip, Contains, cons_option, count_by, enumerate_from, filter_map}
pub use Rattle.std.specs.List.{insert, list_any, position, position_from, range_with_len, remove, slice_index_or}
pub use Rattle.std.specs.List.Sorted.{IsPermutation, IsSortedBy, ties}
pub use Rattle.std.specs.Option.{option_and_then, option_map, option_map_or, option_or}
