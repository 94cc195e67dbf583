-- The names that most proofs of this crate cite, passed on from one place. Declares nothing.
pub use Rattle.elfobj.specs.Sections.{LinkedSection, section_of}
pub use Rattle.elfobj.specs.declared.section.Section.{Section}
pub use Rattle.gather.specs.OfObjects.{IsOfObject}
pub use Rattle.gather.specs.SectionTable.{IsTableOf, len_of, number_of, slots_at}
pub use Rattle.ldmodel.specs.Each.{Each}
unfoldable pub use Rattle.ldmodel.specs.InputSections.{input_sections}
pub use Rattle.ldmodel.specs.Layout.{Layout, PlacedOutput, PlacedPiece}
pub use Rattle.ldmodel.specs.NameFaults.{object_name}
unfoldable pub use Rattle.ldmodel.specs.Names.{provided}
pub use Rattle.ldmodel.specs.PlacementView.{AreSegments, IsSegment, placed_of, starts_of}
pub use Rattle.ldmodel.specs.Project.{NamedObject, Project}
unfoldable pub use Rattle.ldmodel.specs.Rows.{rows}
pub use Rattle.ldmodel.specs.Sections.{InputSection, is_same_part}
pub use Rattle.ldmodel.specs.Segments.{nonempty}
unfoldable pub use Rattle.ldmodel.specs.Segments.{groups, segments}
pub use Rattle.ldmodel.specs.declared.placed.Placed.{Placed}
pub use Rattle.ldmodel.specs.declared.sections.Part.{Part}
pub use Rattle.ldmodel_laws.proofs.EachOf.{all_of_each, each_always, each_append, each_by, each_filter, each_flat}
pub use Rattle.ldmodel_laws.proofs.EachOf.{each_into_map, each_of_map, each_parts, each_sorted, later_filter}
pub use Rattle.ldmodel_laws.proofs.EachOf.{later_imply, later_of_map, zip_more}
pub use Rattle.ldmodel_laws.proofs.Members.{at_place, here, later}
pub use Rattle.ldmodel_laws.specs.ImageBytes.{AreNamed}
pub use Rattle.ldmodel_laws.specs.Spread.{EachLater, entries_in}
pub use Rattle.ldmodel_project.specs.ByPlace.{name_of_section, piece_in, rows_in}
pub use Rattle.ldmodel_project.specs.Inputs.{AreObjectsNamed, shown_input}
pub use Rattle.ldmodel_project.specs.declared.input.InputObject.{InputObject}
pub use Rattle.ldscript.specs.Script.{IsSound}
pub use Rattle.place.specs.Columns.{AddsEntries, HaveNumbers, IsColumn, address_of_entry, has_number, is_number}
pub use Rattle.place.specs.Entries.{all_entries, entry_of, is_part_of, row_entries}
pub use Rattle.place.specs.Grouping.{Current, Grouped, IsGroup, Takes, extended, single}
unfoldable pub use Rattle.place.specs.Grouping.{groups_after, groups_from}
pub use Rattle.place.specs.InPlace.{AreInPlace, IsOwned, entries_of}
pub use Rattle.place.specs.IndexedLayout.{IsSectionAddress, address_in, table_key}
pub use Rattle.place.specs.Offsets.{IsOffset, is_last, offset_at, offsets_in}
pub use Rattle.place.specs.Placing.{AreAllSegments, HaveRoom, past, segment_at}
unfoldable pub use Rattle.place.specs.Placing.{Follow, segments_from}
pub use Rattle.place.specs.declared.indexed_layout.SectionAddress.{SectionAddress}
pub use Rattle.place.specs.declared.indexed_section.IndexedSection.{IndexedSection}
pub use Rattle.std.proofs.Common.{Bool, Global, List, None, Ok, Option, Some, Vec, [], add-one, ap, append_assoc, arith}
pub use Rattle.std.proofs.Common.{bytes_eq, cond, drop, false, filter, find, flat_map, fold, get_or, if◌then◌else◌, inl}
pub use Rattle.std.proofs.Common.{inr, length, length-append, map, min, nat_le, not, refl, rules, set, slice_get, subst}
pub use Rattle.std.proofs.Common.{suc, sym, take, true, zero, ℕ, ⊎_elim, ◌%◌, ◌&&◌, ◌*◌, ◌++◌, ◌+◌, ◌-◌, ◌<◌, ◌==◌, ◌^◌}
pub use Rattle.std.proofs.Common.{◌||◌, ◌∙◌, ◌∷◌, ◌≡◌, ◌≢◌, ◌≤◌, ◌⊎◌}
pub use Rattle.std.proofs.lemmas.Bool.{and_from, and_parts, cases_eq, cases_lt, eq-eqb, eqb-true, false_from_ne_true}
pub use Rattle.std.proofs.lemmas.Bool.{false≢true, leb-true, ltb-false, ltb-true, ne_eqb}
pub use Rattle.std.proofs.lemmas.List.{append-nil, drop_all, drop_at, drop_min, drop_more, get_or-drop}
pub use Rattle.std.proofs.lemmas.List.{get_or-set_other, get_or-set_same, get_or-take, get_or_default, get_or_past}
pub use Rattle.std.proofs.lemmas.List.{length-map, length-set, map-append, take_all}
pub use Rattle.std.proofs.lemmas.List.Folds.{find-append}
pub use Rattle.std.proofs.lemmas.Option.{same_Some}
pub use Rattle.std.proofs.lemmas.Slice.Eq.{bytes_eq-Decides}
pub use Rattle.std.specs.Cmp.{both_ways}
pub use Rattle.std.specs.List.{All, AllPairs, AllZip, Contains, count_by, enumerate_from, list_any, position_from}
pub use Rattle.std.specs.List.{range_with_len, zip}
pub use Rattle.std.specs.Option.{is_none, is_some, option_and_then, option_map, option_map_or, option_or}
pub use Rattle.std.specs.Prelude.{IsSome, nat_lt}
