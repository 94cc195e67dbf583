-- The names that most proofs of this crate cite, passed on from one place. Declares nothing.
pub use Rattle.elfobj.specs.Symbols.{NamedSymbol}
pub use Rattle.elfobj.specs.declared.symbol.Symbol.{Symbol}
pub use Rattle.elfobj.specs.declared.symbol.SymbolPlace.TheVariants.{Common, Undefined}
pub use Rattle.indexmap.proofs.CallerLemmas.{insert_entry-new}
pub use Rattle.indexmap.proofs.SetLemmas.{map-insert, map-remove}
pub use Rattle.ldmodel.specs.Names.{is_local}
pub use Rattle.ldmodel.specs.declared.names.ObjectKey.{ObjectKey}
pub use Rattle.ldscript.specs.statements.declared.given.Given.{Given}
pub use Rattle.slab.specs.Slab.{CalledAt, RetainsFrom, Slab}
pub use Rattle.std.proofs.Common.{Bool, List, None, Option, Some, Vec, [], ap, append-nil, append_assoc, arith, cond}
pub use Rattle.std.proofs.Common.{drop, eqb, false, filter, get_or, get_or-set_other, inl, inr, length, length-append}
pub use Rattle.std.proofs.Common.{map, nat_lt, not, refl, rules, set, slice_get, subst, suc, sym, take, true, zero, ℕ}
pub use Rattle.std.proofs.Common.{⊎_elim, ◌&&◌, ◌++◌, ◌+◌, ◌-◌, ◌/◌, ◌<◌, ◌^◌, ◌||◌, ◌∙◌, ◌∷◌, ◌≡◌, ◌≢◌, ◌≤◌, ◌⊎◌}
pub use Rattle.std.proofs.Math.ListN.{length-set}
pub use Rattle.std.proofs.lemmas.Bool.{cases_eq, cases_lt, eq-eqb, eqb-false, eqb-true, false≢true, le-ltb, lt-ltb}
pub use Rattle.std.proofs.lemmas.Bool.{ne_eqb, true≢false}
pub use Rattle.std.proofs.lemmas.List.{drop_all, drop_more, ext_get_or, get_or-append_right, get_or-drop, get_or-take}
pub use Rattle.std.proofs.lemmas.List.{get_or_append_left, get_or_default, get_or_past, get_or_push, length-drop}
pub use Rattle.std.proofs.lemmas.List.{length-map, length-take, length-take-le, map-append, take-append-drop}
pub use Rattle.std.proofs.lemmas.List.{take-append-le, take-take, take_all, take_more, with_items_is}
pub use Rattle.std.proofs.lemmas.List.Edits.{length-insert, length-remove}
pub use Rattle.std.proofs.lemmas.List.Elements.{All-append, All-cons, All-drop, All-head, All-map, All-more, All-nil}
pub use Rattle.std.proofs.lemmas.List.Elements.{All-tail, All-take, filter-append, filter_passes}
pub use Rattle.std.proofs.lemmas.Map.Keys.{apart_from_distinct}
pub use Rattle.std.proofs.lemmas.Option.{slice_get-get_or, slice_get-map, slice_get_cases}
pub use Rattle.std.proofs.lemmas.Slice.Eq.{bytes_eq-Decides}
pub use Rattle.std.specs.Borrow.{MutBor}
pub use Rattle.std.specs.Cmp.Lexicographic.{nat_list_cmp_total, slice_cmp}
pub use Rattle.std.specs.List.{All, AllByRecursion, enumerate_from, insert, insert_slice, list_any, remove}
unfoldable pub use Rattle.std.specs.List.{IsDistinct}
pub use Rattle.std.specs.Map.{lookup}
pub use Rattle.std.specs.Option.{option_map}
pub use Rattle.std.specs.Prelude.{IfNone, IfSome, IsSome, MatchOption, bytes_eq, is_none, is_some, max, slice_range}
pub use Rattle.std.specs.Prelude.{◌==◌}
pub use Rattle.std.specs.Vec.{vec_capacity, vec_len}
pub use Rattle.symres_table.specs.Hashing.{combined, shifted, with_bytes}
unfoldable pub use Rattle.symres_table.specs.Hashing.{hash_of, reduced, with_byte}
pub use Rattle.symres_table.specs.Known.{AddsNames, Files, IsConsistent, IsKeptWhere, IsPaired, IsSpelled, KnownNames}
pub use Rattle.symres_table.specs.Known.{entry_spelled, kept_if, key_at, number_in, spelled, stored}
pub use Rattle.symres_table.specs.Lists.{rooms}
pub use Rattle.symres_table.specs.Numbers.{Entered, Grows, HasRoom, HasRow, HasSymbols, IsPlace, IsSplit, IsTable}
pub use Rattle.symres_table.specs.Numbers.{KeepsRoom, RowsGrow, before, declared, entries, is_named, is_used, named}
pub use Rattle.symres_table.specs.Numbers.{others, own}
pub use Rattle.symres_table.specs.Objects.{CanEnter, GrowsRoom, HasKey, IsNumbered, IsObjectTable, ObjectsState}
pub use Rattle.symres_table.specs.Places.{AreMoved, AreSorted, IsBelow, down, is_below, place_of, up}
pub use Rattle.symres_table.specs.Spelled.{AreCounted, AreOf, HasName, IsReady, IsSpellable, Spells, SpellsSeen}
pub use Rattle.symres_table.specs.Spelled.{is_seen, spell, spell_symbol, text}
pub use Rattle.symres_table.specs.State.{AreDistinct, HasList, IsListing, IsNamed, KeepsNames, State, entries_of, slot}
pub use Rattle.symres_table.specs.Steps.{AllMarkedLast, Appended, ClearedWhere, Holds, Settling, ends_in}
pub use Rattle.symres_table.specs.Tally.{declaration_of, first, tally_of}
pub use Rattle.symres_table.specs.declared.places.PlacedKey.{PlacedKey}
pub use Rattle.symres_table.specs.declared.symbol.Declared.{Declared}
pub use Rattle.symres_table.specs.declared.symbol.Numbered.{Numbered}
