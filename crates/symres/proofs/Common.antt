-- The names that most proofs of this crate cite, passed on from one place. Declares nothing.
pub use Rattle.elfobj.specs.Symbols.{NamedSymbol, null_symbol}
pub use Rattle.ldmodel.specs.CodeValues.{decision_of, decision_under_keys}
pub use Rattle.ldmodel.specs.Link.{duplicate_fault}
pub use Rattle.ldmodel.specs.Names.{Decision, Declaration, Duplicate, all_entries, declarations, declarations_in}
pub use Rattle.ldmodel.specs.Names.{is_local, symbol_tables}
unfoldable pub use Rattle.ldmodel.specs.Names.{decided, decision, declarations_of}
pub use Rattle.ldmodel.specs.Project.{NamedObject, Project}
pub use Rattle.ldmodel.specs.ScriptNames.{is_assigned, is_provided}
pub use Rattle.ldmodel.specs.declared.names.Case.{Case}
pub use Rattle.ldmodel.specs.declared.names.ObjectPlace.{ObjectPlace}
pub use Rattle.ldmodel_project.specs.ByPlace.{faults_in}
pub use Rattle.ldmodel_project.specs.Inputs.{shown_input, shown_inputs}
pub use Rattle.ldmodel_project.specs.Listing.{AreKeysDistinct}
pub use Rattle.ldmodel_project.specs.Tables.{place_or_0}
pub use Rattle.ldmodel_project.specs.declared.input.InputObject.{InputObject}
pub use Rattle.ldscript.specs.statements.Numbered.{shown_directives}
pub use Rattle.ldscript.specs.statements.declared.statement.Statement.{Statement}
pub use Rattle.std.proofs.Common.{Bool, Global, List, Vec, [], ap, append-nil, append_assoc, arith, cond, drop, false}
pub use Rattle.std.proofs.Common.{filter, get_or, get_or-set_other, get_or-set_same, inl, inr, length, length-append}
pub use Rattle.std.proofs.Common.{map, not, refl, replicate, set, subst, suc, sym, take, true, vec_capacity, vec_len}
pub use Rattle.std.proofs.Common.{zero, ℕ, ⊎_elim, ◌++◌, ◌+◌, ◌<◌, ◌∙◌, ◌∷◌, ◌≡◌, ◌≤◌}
pub use Rattle.std.proofs.Math.Seq.{take-suc}
pub use Rattle.std.proofs.lemmas.List.{get_or-map, length-map, length-replicate, map-append, take_all}
pub use Rattle.std.proofs.lemmas.List.Elements.{filter-append}
pub use Rattle.std.proofs.lemmas.List.FromFn.{get_or-enumerate_from, length-enumerate_from}
pub use Rattle.std.proofs.lemmas.List.Sums.{sum_by-cons}
pub use Rattle.std.proofs.lemmas.Option.{get_or_from_slice_get, slice_get-get_or}
pub use Rattle.std.proofs.lemmas.Result.{IfOk-weaker, on_ok_weaker}
pub use Rattle.std.proofs.lemmas.Simd.{map-map}
pub use Rattle.std.proofs.lemmas.Slice.Eq.{bytes_eq-Decides}
pub use Rattle.std.specs.List.{enumerate_from}
pub use Rattle.std.specs.Option.{option_and_then, option_map, option_map_or, option_or}
pub use Rattle.std.specs.Prelude.{Contains, None, Option, Some, bytes_eq, count_by, flat_map, is_some, nat_eq, nat_lt}
pub use Rattle.std.specs.Prelude.{option_copied, option_to_list, slice_get, unwrap_or, ◌&&◌, ◌==◌, ◌||◌}
pub use Rattle.symres.specs.Duplicates.{AreFound, Begins, definer_before, faults_of, is_doubled, is_seen}
pub use Rattle.symres.specs.Placed.{keys_of, place_case}
pub use Rattle.symres.specs.Sorted.{AreSorted, named_number}
pub use Rattle.symres.specs.SymbolTable.{IsNameAt, IsSeenAt, IsSymbolTable, SymbolTableState, state_of}
pub use Rattle.symres.specs.declared.sorted.NamedKey.{NamedKey}
pub use Rattle.symres_decisions.specs.Decided.{HasCase, case_at, decision_in}
pub use Rattle.symres_decisions.specs.Decisions.{AreDecisionsOf, DecisionsState, IsCaseNamed}
pub use Rattle.symres_decisions.specs.NameText.{AreInOrder, IsInByteOrder, comes_before, compared_number}
pub use Rattle.symres_decisions.specs.declared.keyed_object.KeyedObject.{KeyedObject}
pub use Rattle.symres_table.specs.State.{AreDistinct, HasName, IsListing, IsNamed, entries_of, slot}
