-- The names that most proofs of this crate cite, passed on from one place. Declares nothing.
pub use Rattle.elfobj.specs.EntryTests.{HavePassed, PassesIn, ends_in, field_ends}
pub use Rattle.elfobj.specs.FieldMarks.{AreBelow, IsTaken, IsWindow}
pub use Rattle.elfobj.specs.Linkable.{ArePartsOf, IsLinkable, IsNameTable, IsPlaced, PassesTests}
pub use Rattle.elfobj.specs.Object.{ObjectData}
pub use Rattle.elfobj.specs.PartSpans.{AreNamed, AreRead, AreRelocated, IsFileWithin, relocations_in}
pub use Rattle.elfobj.specs.Profile.{AreApart, HasRelocationsOfProfile, IsCommonBlock, IsNameOf, IsRelocationOfProfile}
pub use Rattle.elfobj.specs.Profile.{IsSectionBelow, IsSectionOfProfile, IsSymbolOfProfile, size_in_file}
pub use Rattle.elfobj.specs.Runs.{AreTablesOf, IsTableOf, has_refused_entry, is_refused_for, table_entries}
pub use Rattle.elfobj.specs.declared.part_spans.PartSpans.{PartSpans}
pub use Rattle.elfobj.specs.declared.relocation_fault.EntryFault.TheVariants.{Any}
pub use Rattle.elfobj_file.proofs.Headers.{count_of, header_of, headers_at, headers_length}
pub use Rattle.elfobj_file.specs.ElfHeader.{e_shnum, e_shstrndx}
pub use Rattle.elfobj_file.specs.LinkedKinds.{is_alloc, linked_kind}
unfoldable pub use Rattle.elfobj_file.specs.Names.{is_name, string_at}
pub use Rattle.elfobj_file.specs.Refusal.{entry_refusals, header_refusals, is_looked_at, is_out_of_bounds}
pub use Rattle.elfobj_file.specs.Refusal.{is_outside_profile, is_outside_profile_by, relocation_refusals}
pub use Rattle.elfobj_file.specs.Refusal.{symbol_refusals}
unfoldable pub use Rattle.elfobj_file.specs.Refusal.{holds, object_refusal}
pub use Rattle.elfobj_file.specs.RelocationEntries.{r_sym, relocation_entries_below, relocation_entry_at}
pub use Rattle.elfobj_file.specs.Relocations.{changes, entries_in, field_end, is_relocation_section, meets}
pub use Rattle.elfobj_file.specs.Relocations.{relocation_entries, relocations_at}
unfoldable pub use Rattle.elfobj_file.specs.Relocations.{relocation_of, relocation_section, share_bytes}
pub use Rattle.elfobj_file.specs.SectionHeaders.{file_bytes, headers_below, null_header}
unfoldable pub use Rattle.elfobj_file.specs.SectionHeaders.{header, headers}
pub use Rattle.elfobj_file.specs.Sections.{LinkedSection, contents, linked_as, linked_section, name_of, section_of}
pub use Rattle.elfobj_file.specs.Sections.{sections_below}
unfoldable pub use Rattle.elfobj_file.specs.Sections.{name_table, sections_of}
pub use Rattle.elfobj_file.specs.Spans.{IsInside, bytes_at}
pub use Rattle.elfobj_file.specs.SymbolEntries.{symbol_entries_below, symbol_entry_at}
pub use Rattle.elfobj_file.specs.Symbols.{NamedSymbol, entries_of, is_symbol_table, named_symbol, null_symbol}
pub use Rattle.elfobj_file.specs.Symbols.{strings_of, symbol_name, symbols_from, symbols_in}
unfoldable pub use Rattle.elfobj_file.specs.Symbols.{symbol_of, symbol_table, symbol_table_number, symbols_of}
pub use Rattle.elfobj_file.specs.TableOf.{table_of}
pub use Rattle.elfobj_file.specs.declared.refusal.ObjectRefusal.{ObjectRefusal}
pub use Rattle.elfobj_file.specs.declared.refusal.ObjectRefusal.TheVariants.{FieldBounds, FieldOverlap, NoMemory}
pub use Rattle.elfobj_file.specs.declared.refusal.ObjectRefusal.TheVariants.{RelocationSection, RelocationType}
pub use Rattle.elfobj_file.specs.declared.refusal.ObjectRefusal.TheVariants.{SectionBounds, SectionProfile, SymbolTable}
pub use Rattle.elfobj_file.specs.declared.relocation.Relocation.{Relocation}
pub use Rattle.elfobj_file.specs.declared.relocation_entry.RelocationEntry.{RelocationEntry}
pub use Rattle.elfobj_file.specs.declared.section.SectionKind.{SectionKind}
pub use Rattle.elfobj_file.specs.declared.section.SectionKind.TheVariants.{FiniArray, InitArray, Nobits, Note}
pub use Rattle.elfobj_file.specs.declared.section.SectionKind.TheVariants.{PreinitArray, Progbits, Unwind}
pub use Rattle.elfobj_file.specs.declared.section_header.SectionHeader.{SectionHeader}
pub use Rattle.elfobj_file.specs.declared.span.Span.{Span}
pub use Rattle.elfobj_file.specs.declared.symbol_entry.SymbolEntry.{SymbolEntry}
pub use Rattle.std.proofs.Common.{Bool, Err, List, None, Ok, Option, Result, Some, [], add-one, ap, arith, cond, drop}
pub use Rattle.std.proofs.Common.{eqb, false, find, get_or, inl, inr, is_some, length, map, max, min, mod-lt, nat_le}
pub use Rattle.std.proofs.Common.{nat_lt, not, pos, refl, replicate, rules, set, subst, suc, sym, take, true, zero, ℕ}
pub use Rattle.std.proofs.Common.{⊎_elim, ◌%◌, ◌&&◌, ◌*◌, ◌++◌, ◌+◌, ◌-◌, ◌/◌, ◌<◌, ◌||◌, ◌∙◌, ◌∷◌, ◌≡◌, ◌≢◌, ◌≤◌, ◌⊎◌}
pub use Rattle.std.proofs.Math.Nat.{div-add-mod}
pub use Rattle.std.proofs.lemmas.Bool.{and_cases, and_from, both_ways, cases_Bool, cases_lt, eqb-true}
pub use Rattle.std.proofs.lemmas.Bool.{false_from_ne_true, false≢true, le-ltb, leb-false, lt-ltb, ltb-false, ltb-true}
pub use Rattle.std.proofs.lemmas.Bool.{not-false, or_from, or_left, or_parts, or_right, true≢false}
pub use Rattle.std.proofs.lemmas.List.{append-nil, append_assoc, get_or-drop, get_or-map, get_or-set_other}
pub use Rattle.std.proofs.lemmas.List.{get_or-set_same, get_or-take, get_or_append_left, get_or_default, get_or_push}
pub use Rattle.std.proofs.lemmas.List.{length-append, length-drop, length-map, length-set, length-take, length-take-le}
pub use Rattle.std.proofs.lemmas.List.{map-append, map_push, take_all, take_at, take_more}
pub use Rattle.std.proofs.lemmas.List.Elements.{All-append, All-cons, All-get_or, All-head, All-map, All-more, All-nil}
pub use Rattle.std.proofs.lemmas.List.Elements.{All-push, All-tail, All-weaker}
pub use Rattle.std.proofs.lemmas.List.Folds.{find-append, list_any-append, list_any_at, list_any_none}
pub use Rattle.std.proofs.lemmas.List.Sorted.{IsNonDecreasingBy-from_sort_by_key}
pub use Rattle.std.proofs.lemmas.Option.{none-some, same_Some}
pub use Rattle.std.specs.List.{All, AllAdjacentBelow, AllPairs, count_by, list_any, slice_get, slice_range}
pub use Rattle.std.specs.List.Sorted.{IsBinarySearchResult, IsNonDecreasingBy, IsPermutation}
pub use Rattle.std.specs.Option.{IfSome, option_map_or, option_or, option_to_list, unwrap_or}
pub use Rattle.std.specs.Prelude.{IfOk, IsTrue, slice_set}
