-- The names that most proofs of this crate cite, passed on from one place. Declares nothing.
pub use Rattle.ldmodel.specs.Arithmetic.{minus_modulo}
pub use Rattle.ldmodel.specs.Each.{Each}
pub use Rattle.ldmodel.specs.Layout.{MemoryRegion, PlacedOutput, PlacedPiece, region_named}
pub use Rattle.ldmodel.specs.Placement.{difference_of, freed_from, is_empty, is_in_file, same_region}
unfoldable pub use Rattle.ldmodel.specs.Placement.{difference_in}
pub use Rattle.ldmodel.specs.PlacementView.{data_of, given_name, name_given_by, symbol_of}
pub use Rattle.ldmodel_laws.proofs.Mentioned.{other_name, sections_differ, symbols_differ}
pub use Rattle.ldmodel_laws.specs.Spread.{EachLater}
pub use Rattle.ldscript.specs.Script.{IsSound}
pub use Rattle.ldscript.specs.statements.Given.{assigned_from, assigned_here, given_as, provided_from, provided_here}
pub use Rattle.ldscript.specs.statements.Given.{region_from, region_number, section_from, section_number}
pub use Rattle.ldscript.specs.statements.declared.directive.Directive.{Directive}
pub use Rattle.ldscript.specs.statements.declared.section.OutputSection.{OutputSection}
pub use Rattle.ldscript.specs.statements.declared.statement.Statement.{Statement}
pub use Rattle.place_terms.specs.Keyed.{KeyedPiece, KeyedSection, data_at_of, piece_at, section_of}
pub use Rattle.place_terms.specs.LayoutSymbols.{AreFound, AreInTurn, AreValuesOf, ComesAfter, IsFound, Numbered, Rises}
pub use Rattle.place_terms.specs.LayoutSymbols.{named, risen, value_of, value_under}
pub use Rattle.place_terms.specs.Mentions.{in_body, in_items, in_regions, shown_names}
pub use Rattle.place_terms.specs.Outputs.{IsOutput, Outputs}
pub use Rattle.place_terms.specs.PreviousLayout.{PreviousOutputs, earlier_of}
pub use Rattle.place_terms.specs.ProvidedTable.{AreInForce, Marks, provided_names}
pub use Rattle.place_terms.specs.RegionTable.{region_names, region_of}
pub use Rattle.place_terms.specs.SectionTable.{both, keyed, keyed_piece, keyed_taken}
pub use Rattle.place_terms.specs.Tables.{AreInOrder, entry_under, number_of, symbol_number}
pub use Rattle.place_terms.specs.Wholes.{all_data_in, counts_in, data_in, placed_in, starts_in}
pub use Rattle.place_terms.specs.declared.previous_layout.ReusedOutput.{ReusedOutput}
pub use Rattle.place_terms.specs.declared.sections.Closed.{Closed}
pub use Rattle.std.proofs.Common.{Bool, Err, List, None, Ok, OnOk, Option, Result, Some, [], ap, append_assoc, arith}
pub use Rattle.std.proofs.Common.{cond, drop, false, find, get_or, if◌then◌else◌, inl, inr, length, length-append, map}
pub use Rattle.std.proofs.Common.{not, refl, replicate, rules, set, subst, suc, sym, take, true, zero, ℕ, ◌&&◌, ◌++◌}
pub use Rattle.std.proofs.Common.{◌+◌, ◌-◌, ◌<◌, ◌==◌, ◌^◌, ◌||◌, ◌∙◌, ◌∷◌, ◌≡◌, ◌≢◌, ◌≤◌}
pub use Rattle.std.proofs.lemmas.Bool.{cases_lt, eq-eqb, eqb-false, eqb-true, le-ltb, ltb-false}
pub use Rattle.std.proofs.lemmas.Grind.{get_or-set_at}
pub use Rattle.std.proofs.lemmas.List.{append-nil, drop_more, get_or-map, get_or-replicate, get_or-set_other, get_or_at}
pub use Rattle.std.proofs.lemmas.List.{get_or_default, length-map, length-replicate, length-set, map-append, map-set}
pub use Rattle.std.proofs.lemmas.List.{take-append-drop, take_more}
pub use Rattle.std.proofs.lemmas.List.Elements.{All-append, All-cons, All-nil, All-push, All-take, filter-append}
pub use Rattle.std.proofs.lemmas.Option.{slice_get-map, slice_get_read}
pub use Rattle.std.proofs.lemmas.Slice.Eq.{bytes_eq-Decides}
pub use Rattle.std.specs.List.{All, last_or, list_any}
pub use Rattle.std.specs.Option.{option_and_then, option_map, option_map_or}
pub use Rattle.std.specs.Prelude.{bit_and, bytes_eq, nat_lt, slice_get, ⊤}
