-- How input sections and data commands lie in an output section, which entries of rows they are, and which statements
-- have a `.`.
use Rattle.std.specs.Prelude.{◌≡◌, ◌++◌, ℕ, suc, ◌+◌, ◌≤◌, ◌⊎◌, List, [], ◌∷◌, length, map}
use Rattle.ldscript.specs.statements.Numbering.{items}
use Rattle.ldscript.specs.statements.declared.statement.Item.{Item}
use Rattle.ldscript.specs.statements.declared.statement.ItemCommand.{ItemCommand}
use Rattle.ldscript.specs.statements.declared.statement.ItemCommand.TheVariants as item
use Rattle.ldscript.specs.statements.declared.statement.Statement.{Statement}
use Rattle.ldmodel.specs.Each.{Each}
use Rattle.ldmodel.specs.Layout.{Layout, PlacedOutput, PlacedPiece, PlacedData}
use Rattle.ldmodel.specs.Rows.{Piece}

-- the entries of rows that stand in an output section
abbrev pub entries_in : PlacedOutput → List Piece
entries_in output = map (λ (placed : PlacedPiece). placed.piece) output.pieces

-- each member and each one after it
abbrev pub EachLater : {X : Type 0} → (X → X → Type 0) → List X → Type 0
EachLater R [] = Unit {0}
EachLater R (x ∷ xs) = Each (R x) xs × EachLater R xs

abbrev pub piece_end : PlacedPiece → ℕ
piece_end placed = placed.start + placed.piece.size

abbrev pub data_end : PlacedData → ℕ
data_end d = d.start + length d.bytes

-- an input section and a data command share no address
abbrev pub AreApart : PlacedPiece → PlacedData → Type 0
AreApart placed d = (piece_end placed ≤ d.start) ⊎ (data_end d ≤ placed.start)

-- input sections and data commands lie from `start` up to `end`, each past the earlier ones of its kind, and none of
-- one kind shares an address with one of the other
pub record AreSpread (start end : ℕ) (pieces : List PlacedPiece) (data_commands : List PlacedData) : Type 0 where
  pub pieces_inside : Each (λ (placed : PlacedPiece). (start ≤ placed.start) × (piece_end placed ≤ end)) pieces
  pub data_inside : Each (λ (d : PlacedData). (start ≤ d.start) × (data_end d ≤ end)) data_commands
  pub pieces_ascend : EachLater (λ (placed y : PlacedPiece). piece_end placed ≤ y.start) pieces
  pub data_ascend : EachLater (λ (d e : PlacedData). data_end d ≤ e.start) data_commands
  pub apart : Each (λ (placed : PlacedPiece). Each (AreApart placed) data_commands) pieces

abbrev pub IsSpread : PlacedOutput → Type 0
IsSpread output = AreSpread output.start (output.start + output.size) output.pieces output.data_commands

-- how many values of `.` a statement of SECTIONS adds: its own, and those of the body of an output section
abbrev pub dots_of_command : ItemCommand → ℕ
dots_of_command (item.Section o) = suc (length o.body)
dots_of_command _ = 1

abbrev pub dots_of : Item → ℕ
dots_of i = dots_of_command i.command

abbrev pub dots_of_all : List Item → ℕ
dots_of_all [] = 0
dots_of_all (i ∷ is) = dots_of i + dots_of_all is

abbrev pub dots_in : List Statement → ℕ
dots_in script = dots_of_all (items script)

-- a statement of SECTIONS keeps `.` as it was before it, and then that before each statement of a body: as many as
-- `values`
pub record Notes (values : ℕ) (layout t : Layout) : Type 0 where
  pub more : List ℕ
  pub dots : t.dots ≡ layout.dots ++ layout.dot ∷ more
  pub count : suc (length more) ≡ values
