-- The names that most proofs of this crate cite, passed on from one place. Declares nothing.
pub use Rattle.elfobj.specs.Counts.{Counts, capped}
pub use Rattle.elfobj.specs.Symbols.{NamedSymbol}
pub use Rattle.gather.specs.ProjectMatches.{AreMatched, IsMatched}
pub use Rattle.gather.specs.declared.matches.Matches.{Matches}
pub use Rattle.ldmodel.specs.EditMeaning.{change_of, linked_of}
pub use Rattle.ldmodel.specs.Edits.{Change, unnamed}
pub use Rattle.ldmodel.specs.Link.{Link, max_image_length, of_length}
unfoldable pub use Rattle.ldmodel.specs.Link.{layout, link}
pub use Rattle.ldmodel.specs.Names.{distinct, names_in_objects, symbol_tables}
pub use Rattle.ldmodel.specs.Project.{NamedObject, Project}
pub use Rattle.ldmodel.specs.SessionWork.{Rises, objects_read}
pub use Rattle.ldmodel.specs.Stayed.{GoodLink}
pub use Rattle.ldmodel_project.specs.Edited.{ChangesOneObject, IsAmong, is_other, place_in, unedited}
pub use Rattle.ldmodel_project.specs.Inputs.{shown_inputs}
pub use Rattle.ldmodel_project.specs.Listing.{AreKeysDistinct, Contents, Listed, found_under, key_count, keys_of}
pub use Rattle.ldmodel_project.specs.Listing.{objects_of}
pub use Rattle.ldmodel_project.specs.Next.{KeysAreStable, edited_key, named_under, next_entries, next_found, put_under}
pub use Rattle.ldmodel_project.specs.Order.{HasPlaces}
pub use Rattle.ldmodel_project.specs.ProjectState.{EditsOne, Listing, ProjectState, ReadsOne, SameHolding}
pub use Rattle.ldmodel_project.specs.ProjectState.{StandsAsNamed, held, listing_of, next_listing, project_of}
pub use Rattle.ldmodel_project.specs.Tables.{tables_under}
pub use Rattle.ldmodel_project.specs.declared.staged.Staged.{Staged}
pub use Rattle.ldmodel_project.specs.declared.staged.StagedObjects.{StagedObjects}
pub use Rattle.ldmodel_project.specs.declared.staged.Step.{Step}
pub use Rattle.ldscript.specs.statements.declared.statement.Statement.{Statement}
pub use Rattle.relink.specs.Change.{IsChange, beside, names_at, names_of_edit, names_of_step, place_at, shown_at}
pub use Rattle.relink.specs.Deferred.{Deferred, HasTables}
pub use Rattle.relink.specs.KeptTables.{AreTablesOf}
pub use Rattle.relink.specs.NameList.{HasRoomFor, Names, names_in}
pub use Rattle.relink.specs.Outcome.{is_good, shown}
pub use Rattle.relink.specs.PreviousLink.{AreOriginsRefreshed, HasUpdateOutcome, IsAfterFault, IsAnswered, IsEffect}
pub use Rattle.relink.specs.PreviousLink.{IsNoneOf, IsNowhereButAt, IsOfGoodLink, IsPreviousLink, IsRecorded}
pub use Rattle.relink.specs.PreviousLink.{IsRewrittenBy, IsSince, PutsByName, PutsNoneOf, PutsSame, changed_key, lent}
pub use Rattle.relink.specs.PreviousLink.{lent_later, lent_of, next_view, nothing_edited, origin_of, replaced_by}
pub use Rattle.relink.specs.PreviousLink.{replaced_in, stale_key_of, without}
pub use Rattle.relink.specs.declared.link_tables.LinkTables.{LinkTables}
pub use Rattle.relink.specs.declared.outcome.LinkOutcome.{LinkOutcome}
pub use Rattle.relink.specs.declared.previous.EditEffect.{EditEffect}
pub use Rattle.relink.specs.declared.previous.PreviousLink.{PreviousLink}
pub use Rattle.relink.specs.declared.previous.UpdateOutcome.{UpdateOutcome}
pub use Rattle.relink.specs.declared.previous.UpdateOutcome.TheVariants.{Faulty, Good, RewrittenInPlace}
pub use Rattle.relink_driver.specs.InPlace.{IsInPlaceOutcome}
pub use Rattle.relink_driver.specs.LinkSnapshot.{IsLinkSnapshot}
pub use Rattle.relink_driver.specs.Origins.{AreOrigins}
pub use Rattle.relink_driver.specs.Reads.{ReadsNothing}
pub use Rattle.relink_driver.specs.RelinkOutcome.{HasPreviousImage, HasRelinkOutcome, IsGoodOutcome}
pub use Rattle.relink_driver.specs.StayedSections.{IsPreviousOf, IsReplaced, PreviousState, ReplacedObjectState}
pub use Rattle.relink_driver.specs.StayedSections.{previous_of}
pub use Rattle.std.proofs.Common.{Bool, List, None, Option, Some, [], ap, append-nil, arith, cond, drop, eqb, false}
pub use Rattle.std.proofs.Common.{get_or, inl, inr, length, ltb, map, not, refl, subst, suc, sym, take, true, zero, ℕ}
pub use Rattle.std.proofs.Common.{◌++◌, ◌+◌, ◌-◌, ◌<◌, ◌==◌, ◌^◌, ◌∙◌, ◌∷◌, ◌≡◌, ◌≤◌}
pub use Rattle.std.proofs.lemmas.Bool.{eq-eqb, eqb-true, leb-false, ltb-false, ltb-true}
pub use Rattle.std.proofs.lemmas.List.{drop-append-le, drop_more, get_or-map, length-append, length-drop, length-map}
pub use Rattle.std.proofs.lemmas.List.{length-set, take-append-le, take_all}
pub use Rattle.std.proofs.lemmas.List.Edits.{get_or-insert_at, length-insert, length-remove}
pub use Rattle.std.proofs.lemmas.List.Sums.{sum_by-cons}
pub use Rattle.std.proofs.lemmas.Option.{same_Some, slice_get-get_or}
pub use Rattle.std.proofs.lemmas.Slice.Eq.{bytes_eq-Decides}
pub use Rattle.std.specs.Global.{Global}
pub use Rattle.std.specs.List.{AllZip, count_by, enumerate_from, find, insert, list_any, position, position_or_len}
pub use Rattle.std.specs.List.{remove, sum_by}
pub use Rattle.std.specs.Option.{option_copied, option_map, option_map_or}
pub use Rattle.std.specs.Prelude.{Contains, Err, IfSome, Ok, Vec, bytes_eq, flat_map, if◌then◌else◌, is_none, is_some}
pub use Rattle.std.specs.Prelude.{nat_eq, nat_le, nat_lt, slice_get, slice_index_or, unwrap_or, ◌&&◌, ◌||◌}
pub use Rattle.std.specs.VecDeque.{deque_len}
pub use Rattle.symres.specs.SymbolTable.{IsSymbolTable, SymbolTableState}
pub use Rattle.symres.specs.decisions.Change.{CanGo, Table, changed_tables, declared_by, reversed}
pub use Rattle.symres.specs.decisions.Counted.{CountsNames, declared_in, declared_names}
pub use Rattle.symres.specs.decisions.Decisions.{AreDecisionsOf}
pub use Rattle.symres.specs.decisions.declared.change.ObjectAt.{ObjectAt}
pub use Rattle.symres.specs.decisions.declared.change.ObjectChange.{ObjectChange}
