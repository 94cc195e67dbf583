-- The names that most proofs of this crate cite, passed on from one place. Declares nothing.
pub use Rattle.elfobj.specs.Counts.{Counts}
pub use Rattle.elfobj.specs.Raised.{raised}
pub use Rattle.elfobj.specs.Symbols.{NamedSymbol, null_symbol}
pub use Rattle.ldmodel.specs.Names.{Declaration, declaration, declarations_in, distinct, is_local, is_of_name}
unfoldable pub use Rattle.ldmodel.specs.Names.{decided, declarations_of}
pub use Rattle.ldmodel.specs.ScriptNames.{is_assigned, is_assignment, is_provided}
pub use Rattle.ldmodel.specs.declared.names.Case.{Case}
pub use Rattle.ldmodel.specs.declared.names.ObjectKey.{ObjectKey}
pub use Rattle.ldscript.specs.statements.declared.statement.Statement.{Statement}
pub use Rattle.std.proofs.Common.{Bool, Err, List, None, Ok, OnOk, Option, Result, Some, [], ap, append-nil}
pub use Rattle.std.proofs.Common.{append_assoc, arith, cond, count_by, drop, eqb, false, filter, get_or}
pub use Rattle.std.proofs.Common.{get_or-set_other, get_or-set_same, inl, inr, length, length-append, map, min, not}
pub use Rattle.std.proofs.Common.{refl, rules, set, slice_get, subst, suc, sym, take, true, zero, ℕ, ⊎_elim, ◌++◌, ◌+◌}
pub use Rattle.std.proofs.Common.{◌-◌, ◌/◌, ◌<◌, ◌^◌, ◌∙◌, ◌∷◌, ◌≡◌, ◌≤◌, ◌⊎◌}
pub use Rattle.std.proofs.Math.Seq.{drop-append_seam, take-append_seam, take-suc}
pub use Rattle.std.proofs.lemmas.Bool.{cases_eq, cases_lt, eq-eqb, eqb-true, lt-ltb, ne_eqb, true≢false}
pub use Rattle.std.proofs.lemmas.List.{drop-append-le, drop-map, get_or-drop, get_or-map, get_or-take}
pub use Rattle.std.proofs.lemmas.List.{get_or_append_left, get_or_default, get_or_past, get_or_push, length-drop}
pub use Rattle.std.proofs.lemmas.List.{length-map, length-set, length-take-le, length_push, map-append}
pub use Rattle.std.proofs.lemmas.List.{take-append-drop, take-append-le, take-map, take_all, take_more}
pub use Rattle.std.proofs.lemmas.List.Edits.{get_or-insert_at, length-insert}
pub use Rattle.std.proofs.lemmas.List.Elements.{All-append, All-cons, All-filter, All-head, All-nil, All-tail}
pub use Rattle.std.proofs.lemmas.List.Elements.{All-weaker, Contains-append_left, Contains-append_right, filter-append}
pub use Rattle.std.proofs.lemmas.List.Elements.{filter_passes}
pub use Rattle.std.proofs.lemmas.List.MinMax.{ranks_by}
pub use Rattle.std.proofs.lemmas.List.Sums.{count_by_more_no, count_by_more_yes, length-filter}
pub use Rattle.std.proofs.lemmas.Map.Made.{length-le_from_is_member}
pub use Rattle.std.proofs.lemmas.Map.Views.{Contains-from_lookup, any-filter_same}
pub use Rattle.std.proofs.lemmas.Slice.Eq.{bytes_eq-Decides}
pub use Rattle.std.specs.Cmp.Lexicographic.{nat_list_cmp_total, slice_cmp}
pub use Rattle.std.specs.List.{All, AllByRecursion, enumerate_from, insert, list_any, remove, slice_range}
unfoldable pub use Rattle.std.specs.List.{IsDistinct}
pub use Rattle.std.specs.List.Sorted.{IsPermutation, IsSortedBy}
pub use Rattle.std.specs.Prelude.{Contains, IfNone, IfSome, IsSome, MatchOption, bytes_eq, flat_map, is_some, nat_lt}
pub use Rattle.std.specs.Prelude.{◌==◌, ◌||◌}
pub use Rattle.std.specs.Set.{is_member}
pub use Rattle.symres_decisions.specs.Change.{AreThere, CanCome, CanGo, Fits, IsReadyFor, MayCome, MayFollow, PutsIn}
pub use Rattle.symres_decisions.specs.Change.{StandsAt, Table, TakesOut, changed_tables, declared_by, put_in, reversed}
pub use Rattle.symres_decisions.specs.Change.{symbols_at, symbols_or, taken_out}
pub use Rattle.symres_decisions.specs.Counted.{CountsNames, all_uses, declared_in, declared_names, is_used, uses}
pub use Rattle.symres_decisions.specs.Decided.{AreCases, HasCase, IsCase, KeepsCases, case_at, decision_in, is_doubled}
pub use Rattle.symres_decisions.specs.Decisions.{AreUsed, AreUsedBelow, DecisionsState, IsTextOf, IsWhole}
pub use Rattle.symres_decisions.specs.Keyed.{table_of, tables_of}
pub use Rattle.symres_decisions.specs.NameText.{AreInOrder, IsInside, compared_number, is_known, written}
pub use Rattle.symres_decisions.specs.Room.{HaveEntries}
pub use Rattle.symres_decisions.specs.Texts.{AreDone, AreFound, AreKnown, AreNoted, AreOpen, DecidedFor, DecidesOnce}
pub use Rattle.symres_decisions.specs.Texts.{HasPlaces, IsCleared, IsKeyOf, IsNotedFor, declares, touches}
pub use Rattle.symres_decisions.specs.declared.change.ObjectAt.{ObjectAt}
pub use Rattle.symres_decisions.specs.declared.change.ObjectChange.{ObjectChange}
pub use Rattle.symres_decisions.specs.declared.name_text.WrittenName.{WrittenName}
pub use Rattle.symres_decisions.specs.declared.sorted_names.ComparedName.{ComparedName}
pub use Rattle.symres_table.specs.State.{AreDistinct, Forgets, HasName, HasObject, IsFresh, IsListing, IsNameAt}
pub use Rattle.symres_table.specs.State.{IsNamed, IsSeenAt, KeepsNames, MayEnter, State, entries_of, slot, without}
