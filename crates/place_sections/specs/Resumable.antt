-- A previous layout that may be taken over.
use Rattle.std.specs.Prelude.{◌≡◌, ℕ, ◌<◌, List, [], slice_index_or}
use Rattle.ldscript.specs.statements.declared.statement.Statement.{Statement}
use Rattle.ldmodel.specs.Rows.{Piece}
use Rattle.place_sections.specs.Places.{IsPlacement, Places}

-- the places are those of a previous layout of the script, whose rows were the same before this number; which PROVIDEs
-- were in force in it does not matter
pub record IsResumable (script : List Statement) (rows : List (List Piece)) (kept : Places) (first : ℕ) : Type 0 where
  pub earlier : List (List Piece)
  pub earlier_provided : List (List ℕ)
  pub placed : IsPlacement script earlier earlier_provided kept
  pub same : (k : ℕ) → k < first → slice_index_or earlier k [] ≡ slice_index_or rows k []
