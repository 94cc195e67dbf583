-- The names that most proofs of this crate cite, passed on from one place. Declares nothing.
pub use Rattle.elfobj.specs.Object.{ObjectData}
pub use Rattle.elfobj.specs.Symbols.{NamedSymbol}
pub use Rattle.ldmodel.specs.Edits.{AreNamesDistinct, place_of, unnamed}
pub use Rattle.ldmodel.specs.Project.{NamedObject, Project}
pub use Rattle.ldmodel.specs.declared.edit.EditRefusal.{EditRefusal}
pub use Rattle.ldmodel_project.specs.Edited.{ChangesOneObject, IsAmong, is_other, unedited}
pub use Rattle.ldmodel_project.specs.Inputs.{AreObjectsNamed, shown_input, shown_inputs}
pub use Rattle.ldmodel_project.specs.Listing.{AreKeysDistinct, Contents, Listed, found_under, key_count, keys_of}
pub use Rattle.ldmodel_project.specs.Listing.{objects_of}
pub use Rattle.ldmodel_project.specs.Next.{CanStep, Fits, KeysAreStable, edited_key, named_under, next_count}
pub use Rattle.ldmodel_project.specs.Next.{next_entries, next_entry, next_found, next_named, next_slot, put_under}
pub use Rattle.ldmodel_project.specs.ProjectState.{Listing, ProjectState, Stages, held}
pub use Rattle.ldmodel_project.specs.Slots.{IsOrdered, entry_at, named_at}
pub use Rattle.ldmodel_project.specs.Staging.{IsEditing, IsStaged, SameButRoom}
pub use Rattle.ldmodel_project.specs.Tags.{AreTagged, KeepsMarks, NotesPut, may_have}
unfoldable pub use Rattle.ldmodel_project.specs.Tags.{hash_of, mixed}
pub use Rattle.ldmodel_project.specs.declared.input.InputObject.{InputObject}
pub use Rattle.ldmodel_project.specs.declared.staged.Places.{Places}
pub use Rattle.ldmodel_project.specs.declared.staged.Staged.{Staged}
pub use Rattle.ldmodel_project.specs.declared.staged.StagedObjects.{StagedObjects}
pub use Rattle.ldmodel_project.specs.declared.staged.Step.{Step}
pub use Rattle.ldmodel_project.specs.declared.staged.Step.TheVariants.{Put, Stay}
pub use Rattle.slab.specs.Slab.{Slab, get}
pub use Rattle.std.proofs.Common.{Bool, Global, List, Vec, [], ap, arith, cond, drop, false, get_or, inr, length, map}
pub use Rattle.std.proofs.Common.{refl, rules, set, subst, suc, sym, take, true, vec_len, zero, ℕ, ◌%◌, ◌&&◌, ◌++◌, ◌+◌}
pub use Rattle.std.proofs.Common.{◌-◌, ◌/◌, ◌<◌, ◌∙◌, ◌∷◌, ◌≡◌, ◌≤◌}
pub use Rattle.std.proofs.lemmas.Bool.{eq-eqb, eqb-true, le-ltb, leb-true, lt-ltb, ltb-false, ltb-true}
pub use Rattle.std.proofs.lemmas.List.{drop-map, drop_at, get_or-map, get_or_read, length-map, length-take-le}
pub use Rattle.std.proofs.lemmas.List.{map-append, map-id, same_lists, set-get_or, set_split, take-append-drop}
pub use Rattle.std.proofs.lemmas.List.{take-map, take_all, take_at}
pub use Rattle.std.proofs.lemmas.List.Sums.{count_by_more_no, position_or_len_is, sum_by-cons, sum_by-insert}
pub use Rattle.std.proofs.lemmas.List.Sums.{sum_by-remove, sum_by-set}
pub use Rattle.std.proofs.lemmas.Simd.{map-map}
pub use Rattle.std.specs.List.{count_by, enumerate_from, fold, insert, list_all, list_any, position_or_len, prefix_len}
pub use Rattle.std.specs.List.{remove}
pub use Rattle.std.specs.Option.{option_map}
pub use Rattle.std.specs.Prelude.{Err, IfOk, IfSome, MatchOption, None, Ok, Option, Result, Some, bytes_eq, filter}
pub use Rattle.std.specs.Prelude.{is_some, nat_eq, nat_le, nat_lt, not, position, slice_get, slice_index_or, slice_set}
pub use Rattle.std.specs.Prelude.{unwrap_or, ◌||◌}
