-- The names that most proofs of this crate cite, passed on from one place. Declares nothing.
pub use Rattle.ldmodel.specs.Arithmetic.{is_address, plus_modulo}
pub use Rattle.ldmodel.specs.Chain.{and_then}
unfoldable pub use Rattle.ldmodel.specs.Chain.{run}
pub use Rattle.ldmodel.specs.Fault.{Fault, MovedBack, PastAddressSpace}
pub use Rattle.ldmodel.specs.Layout.{Layout, MemoryRegion, PlacedData, PlacedOutput, PlacedPiece, address, noted}
pub use Rattle.ldmodel.specs.Layout.{nothing_placed, region_named, scope_of, section_named, value_at, with_symbol}
unfoldable pub use Rattle.ldmodel.specs.Layout.{number}
pub use Rattle.ldmodel.specs.Placement.{Body, Head, advanced, assigned, body_step, difference_of, find_region}
pub use Rattle.ldmodel.specs.Placement.{free_dot_step, freed_from, input_step, item_step, load_region, moved_on}
pub use Rattle.ldmodel.specs.Placement.{next_row, opened, piece_start, same_region, set_to, statement_step, widest}
pub use Rattle.ldmodel.specs.Placement.{with_data, with_dot, with_region, with_room, with_section}
unfoldable pub use Rattle.ldmodel.specs.Placement.{body_command_step, command_step, difference_in, directive_step}
unfoldable pub use Rattle.ldmodel.specs.Placement.{head_of, item_command_step, piece_placed, pieces_placed}
unfoldable pub use Rattle.ldmodel.specs.Placement.{placed_section, placement, region_step, section_end, section_step}
pub use Rattle.ldmodel.specs.PlacementView.{NumberedData, data_of, numbered, placed_of, starts_of, symbol_of}
pub use Rattle.ldmodel.specs.Project.{Project}
pub use Rattle.ldmodel.specs.declared.placed.Placed.{Placed}
pub use Rattle.ldmodel_laws.proofs.Mentioned.{NoClash, names_of_both, names_on, no_clash_in, sections_append, shift}
pub use Rattle.ldscript.specs.Script.{IsSound}
pub use Rattle.ldscript.specs.statements.Numbering.{OutputSectionAt, item_sections, output_sections, sections_in}
pub use Rattle.ldscript.specs.statements.Widths.{byte_count}
pub use Rattle.ldscript.specs.statements.declared.directive.Directive.{Directive}
pub use Rattle.ldscript.specs.statements.declared.directive.DotCommand.{DotCommand}
pub use Rattle.ldscript.specs.statements.declared.directive.DotCommand.TheVariants.{Add, Set}
pub use Rattle.ldscript.specs.statements.declared.section.BodyCommand.{BodyCommand}
pub use Rattle.ldscript.specs.statements.declared.section.BodyStatement.{BodyStatement}
pub use Rattle.ldscript.specs.statements.declared.section.OutputSection.{OutputSection}
pub use Rattle.ldscript.specs.statements.declared.statement.Command.{Command}
pub use Rattle.ldscript.specs.statements.declared.statement.Item.{Item}
pub use Rattle.ldscript.specs.statements.declared.statement.ItemCommand.{ItemCommand}
pub use Rattle.ldscript.specs.statements.declared.statement.Region.{Region}
pub use Rattle.ldscript.specs.statements.declared.statement.Statement.{Statement}
pub use Rattle.ldscript.specs.terms.Expressions.{Expr}
pub use Rattle.place_sections.specs.Alongside.{BodyAlongside, ItemsAlongside, ScriptAlongside, SectionAlongside}
pub use Rattle.place_sections.specs.Alongside.{StartAt}
pub use Rattle.place_sections.specs.Boundaries.{AreBoundaries, AreBoundariesOf, AreNoted, IsAt, IsBoundary, sections_at}
pub use Rattle.place_sections.specs.Counted.{Adds, Counted, CountsAlong, Entered, PlacesAnew, Resumes, StaysThere}
pub use Rattle.place_sections.specs.Counted.{entries, first_of, placed_from}
unfoldable pub use Rattle.place_sections.specs.Counted.{left_after}
pub use Rattle.place_sections.specs.Extents.{cover, covers, overlap}
pub use Rattle.place_sections.specs.Firsts.{before}
pub use Rattle.place_sections.specs.Found.{extent_in, extents_in, fault_in, fault_with, first_overlap, overlaps_before}
unfoldable pub use Rattle.place_sections.specs.Found.{overlaps_after}
pub use Rattle.place_sections.specs.Heads.{head_from}
pub use Rattle.place_sections.specs.Hulls.{Around, Kept, Marked, MarkedAt, Missed, Under, below, found, here, same}
pub use Rattle.place_sections.specs.Inputs.{inputs_at_most, rows_of}
pub use Rattle.place_sections.specs.Leads.{Begins, Keeps, Leads, counts_of}
pub use Rattle.place_sections.specs.OverlapFaults.{AreOutputs, AreOverlaps}
pub use Rattle.place_sections.specs.Parts.{AreOutside, IsOutside, after_sections, before_sections, if_sections}
pub use Rattle.place_sections.specs.Parts.{items_within}
pub use Rattle.place_sections.specs.Places.{Ends, IsPlacement, Places, StandsFor}
pub use Rattle.place_sections.specs.PreviousPlacement.{EarlierScript, PreviousPlacement, Same}
pub use Rattle.place_sections.specs.State.{Gives, body_from, body_of, layout_of}
pub use Rattle.place_sections.specs.declared.boundary.Boundary.{Boundary}
pub use Rattle.place_sections.specs.declared.extent.Extent.{Extent}
pub use Rattle.place_sections.specs.declared.firsts.Numbered.{Numbered}
pub use Rattle.place_sections.specs.declared.overlaps.Space.{Space}
pub use Rattle.place_sections.specs.declared.overlaps.Space.TheVariants.{Load, Memory}
pub use Rattle.place_sections.specs.declared.reusable_placement.ReusablePlacement.{ReusablePlacement}
pub use Rattle.place_sections.specs.declared.script.Input.{Input}
pub use Rattle.place_sections.specs.declared.state.LayoutCursor.{LayoutCursor}
pub use Rattle.place_sections.specs.declared.state.PlacedOutputs.{PlacedOutputs}
pub use Rattle.place_sections.specs.declared.stop.LayoutStop.{LayoutStop}
pub use Rattle.place_terms.specs.Keyed.{KeyedPiece, KeyedSection, data_at, data_at_of, piece_at, section_of}
pub use Rattle.place_terms.specs.Naming.{Naming, piece_named, row_named, rows_named}
pub use Rattle.place_terms.specs.Outcomes.{outcome_of}
pub use Rattle.place_terms.specs.Outputs.{IsOutput, Outputs}
pub use Rattle.place_terms.specs.PreviousLayout.{HasSection, HasStarts, IsTaken, PreviousOutputs, earlier_of, part_of}
pub use Rattle.place_terms.specs.ProvidedTable.{provided_names}
pub use Rattle.place_terms.specs.SectionTable.{keyed, keyed_piece, nameless, taken_pieces}
unfoldable pub use Rattle.place_terms.specs.SectionTable.{difference_by}
pub use Rattle.place_terms.specs.Wholes.{all_data_in, counts_in, starts_in}
pub use Rattle.std.proofs.Common.{Bool, Bor, Err, Global, IfNone, IfSome, List, None, Ok, OnOk, Option, Result, Some}
pub use Rattle.std.proofs.Common.{SomeIff, Vec, [], ap, append_assoc, arith, cond, drop, drop-cons, eq-eqb, false}
pub use Rattle.std.proofs.Common.{filter, find, get_or, get_or-set_other, get_or-set_same, if◌then◌else◌, inl, inr}
pub use Rattle.std.proofs.Common.{length, length-append, map, max, min, nat_eq, nat_le, nat_lt, not, position, refl}
pub use Rattle.std.proofs.Common.{rules, set, subst, suc, sym, take, true, zero, ℕ, ◌%◌, ◌&&◌, ◌*◌, ◌++◌, ◌+◌, ◌-◌, ◌<◌}
pub use Rattle.std.proofs.Common.{◌==◌, ◌^◌, ◌∙◌, ◌∷◌, ◌≡◌, ◌≢◌, ◌≤◌, ◌⊎◌}
pub use Rattle.std.proofs.Math.Numerals.{add-one}
pub use Rattle.std.proofs.Math.Seq.{drop-append_seam, take-append_seam, take-suc}
pub use Rattle.std.proofs.lemmas.Bool.{and_parts, cases_eq, cases_lt, eqb-false, eqb-true, false_from_ne_true, le-leb}
pub use Rattle.std.proofs.lemmas.Bool.{le-ltb, leb-true, lt-ltb, ltb-true}
pub use Rattle.std.proofs.lemmas.Grind.{flat_map-append}
pub use Rattle.std.proofs.lemmas.List.{append-nil, drop-append-le, drop-map, drop_all, drop_more, get_or_default}
pub use Rattle.std.proofs.lemmas.List.{get_or_read, length-map, length-set, length-take, length-take-le, map-append}
pub use Rattle.std.proofs.lemmas.List.{take-append-drop, take-map, take_all, take_more}
pub use Rattle.std.proofs.lemmas.List.Sums.{get_or-le-sum_by, prefix_len-le-length, sum_by-append, sum_by-cons}
pub use Rattle.std.proofs.lemmas.Nat.{and_mask, one_shl}
pub use Rattle.std.proofs.lemmas.Option.{slice_get_read, slice_get_within}
pub use Rattle.std.specs.List.{Contains, enumerate_from, last_or, list_any, position_or_len}
pub use Rattle.std.specs.Option.{is_some, option_and_then, option_map, option_map_or}
pub use Rattle.std.specs.Prelude.{bytes_eq, flat_map, slice_get, sum_by, unwrap_or, ⊤}
