-- How what a session keeps follows an edit.
use Rattle.std.specs.Prelude.{◌≡◌, ◌+◌, ◌≤◌, ℕ, List, Option, IfSome}
use Rattle.std.specs.VecDeque.{deque_capacity, deque_len}
use Rattle.elfobj.specs.Counts.{Counts}
use Rattle.relink_driver.specs.RelinkOutcome.{HasPreviousImage}
use Rattle.relink_driver.specs.StayedSections.{PreviousState}
use Rattle.symres.specs.decisions.Change.{IsReadyFor}
use Rattle.symres.specs.decisions.Decisions.{AreDecisionsOf}
use Rattle.symres.specs.decisions.declared.change.ObjectChange.{ObjectChange}
use Rattle.ldmodel_project.specs.ProjectState.{ProjectState, Listing, EditsOne, listing_of, next_listing, project_of}
use Rattle.ldmodel_project.specs.Listing.{found_under, keys_of}
use Rattle.ldmodel_project.specs.Next.{Fits}
use Rattle.ldmodel_project.specs.Edited.{ChangesOneObject}
use Rattle.ldmodel_project.specs.declared.staged.Staged.{Staged}
use Rattle.ldscript.specs.statements.declared.statement.Statement.{Statement}
use Rattle.relink.specs.Change.{names_of_edit}
use Rattle.relink.specs.KeptTables.{AreTablesOf}
use Rattle.relink.specs.PreviousLink.{HasUpdateOutcome}
use Rattle.relink.specs.Matches.{IsMatchedOr}
use Rattle.relink.specs.Work.{Decides, HasWorked}
use Rattle.relink.specs.declared.link_tables.IncomingChange.{IncomingChange}
use Rattle.relink.specs.declared.link_tables.LinkTables.{LinkTables}
use Rattle.relink.specs.declared.previous.UpdateOutcome.{UpdateOutcome}

-- what must hold before an edit is followed, over the previous link, if that is lent
pub record CanUpdate (state : ProjectState) (s : Staged) (tables : LinkTables) (lent : Option PreviousState)
    (bytes : List ℕ)
    : Type 0 where
  -- the staged edit fits the objects of the project
  pub fits : Fits state.contents s.objects
  -- it says where the object that it touches stands, before it and after it
  pub arranged : ChangesOneObject state.contents.entries s.objects
  -- where it has a script, it touches no object
  pub one : EditsOne s
  -- what is kept is of the project
  pub kept : AreTablesOf (listing_of state) tables.symbol_table tables.matches.items
  -- what is lent is of a previous link without faults, whose image these bytes are
  pub previous : IfSome lent (HasPreviousImage (project_of (next_listing state s)) bytes)

-- what holds after an edit has been followed
pub record IsUpdated (state : ProjectState) (s : Staged) (lent : Option PreviousState) (tables : LinkTables)
    (old new : List ℕ)
    (before after : Counts) (f : UpdateOutcome) : Type 0 where
  -- the link is that of the next project, and its image is drawn, if it has one
  pub link : HasUpdateOutcome (next_listing state s) lent old new f
  -- what is kept is of the next project
  pub kept : AreTablesOf (next_listing state s) tables.symbol_table tables.matches.items
  -- no object is read, and the names that the edit touches are decided, each once
  pub decides : Decides before after (names_of_edit state.contents.entries s.objects)
  -- what the link places, evaluates and writes is counted
  pub worked : HasWorked (project_of (next_listing state s)) lent before after f

-- what holds where memory runs out before an edit has been followed
pub record IsRolledBack (state : ProjectState) (tables : LinkTables) (old new : List ℕ) : Type 0 where
  -- what is kept is of the project as before
  pub kept : AreTablesOf (listing_of state) tables.symbol_table tables.matches.items
  -- the canvas is as it was
  pub canvas : new ≡ old

-- what is kept stays that of the same objects, under a script
pub record KeepsObjects (script : List Statement) (old new : LinkTables) : Type 0 where
  -- the symbols of the objects are the same, under the same keys
  pub objects : new.symbol_table.kept.names.objects ≡ old.symbol_table.kept.names.objects
  -- names are decided for the script
  pub names : AreDecisionsOf script new.symbol_table.kept
  -- the matches are the same
  pub matches : new.matches.items ≡ old.matches.items

-- all memory is taken that a change of one object needs
pub record HasRoom (next : Listing) (x : ObjectChange) (tables : LinkTables) (c : IncomingChange) : Type 0 where
  -- the symbol table can be changed without memory
  pub names : IsReadyFor tables.symbol_table.kept x
  -- there is room for the matches of two more objects
  pub matches : deque_len tables.matches + 2 ≤ deque_capacity tables.matches
  -- the keys of the next objects are in their order
  pub order : c.order ≡ keys_of next.entries
  -- the matches are those of the object that comes, if one does
  pub coming : IsMatchedOr next.script (found_under next.entries x.key.0) c.matches
