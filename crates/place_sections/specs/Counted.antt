-- How many input sections are placed anew.
use Rattle.std.specs.Prelude.{◌≡◌, ℕ, zero, suc, ◌+◌, ◌-◌, ◌≤◌, ◌^◌, max, min, List, [], ◌∷◌, ◌++◌, length, map, ◌⊎◌}
use Rattle.std.specs.Prelude.{IfNone, IfSome, Option, drop, sum_by}
use Rattle.std.specs.Option.{option_map_or}
use Rattle.elfobj.specs.Counts.{Counts}
use Rattle.elfobj.specs.Raised.{raised}
use Rattle.elfobj.specs.declared.meter.Count.TheVariants.{Pieces}
use Rattle.ldmodel.specs.declared.rows.Piece.{Piece}
use Rattle.place_terms.specs.Keyed.{KeyedSection}
use Rattle.place_terms.specs.Wholes.{counts_in}
use Rattle.place_sections.specs.declared.resume_point.ResumePoint.{ResumePoint}
use Rattle.place_sections.specs.declared.script.Input.{Input}
use Rattle.place_sections.specs.declared.state.CurrentOutput.{CurrentOutput}
use Rattle.place_sections.specs.declared.state.LayoutCursor.{LayoutCursor}

-- while one number went on from a place to another, a count did by as much, as far as a count goes
pub record CountsAlong (old new from to : ℕ) : Type 0 where
  pub more : from ≤ to
  pub least : min (old + to) (2 ^ 64 - 1 + from) ≤ new + from
  pub most : new + from ≤ old + to

-- the script stays, and as many input sections are placed anew as take their places, and no more of these than the row
-- has
pub record Entered (old new : LayoutCursor) (f : CurrentOutput) : Type 0 where
  pub script : new.symbols.script ≡ old.symbols.script
  pub anew : CountsAlong old.anew new.anew (length old.pieces.items) (length new.pieces.items)
  pub within : length old.pieces.items ≤ length f.row.now → length new.pieces.items ≤ length f.row.now

-- the script stays, and so does what was placed
pub record StaysThere (old new : LayoutCursor) (f : CurrentOutput) : Type 0 where
  pub script : new.symbols.script ≡ old.symbols.script
  pub more : length old.pieces.items ≤ length new.pieces.items
  pub within : length old.pieces.items ≤ length f.row.now → length new.pieces.items ≤ length f.row.now

-- and none is placed anew where it is known where they start
pub record Counted (old new : LayoutCursor) (f : CurrentOutput) : Type 0 where
  pub script : new.symbols.script ≡ old.symbols.script
  pub anew : new.anew + length old.pieces.items ≤ old.anew + length new.pieces.items
  pub within : length old.pieces.items ≤ length f.row.now → length new.pieces.items ≤ length f.row.now
  pub none : IfSome f.starts (λ s. new.anew ≡ old.anew)
  pub all : IfNone f.starts (CountsAlong old.anew new.anew (length old.pieces.items) (length new.pieces.items))

-- an output section was added, whose input sections were placed anew and counted
pub record PlacesAnew (old new : LayoutCursor) (before after : List KeyedSection) : Type 0 where
  pub section : KeyedSection
  pub pushed : after ≡ before ++ section ∷ []
  pub counted : CountsAlong old.anew new.anew 0 (length section.pieces)

-- the entries of the rows from a number on
abbrev pub entries : ℕ → List (List Piece) → ℕ
entries k [] = 0
entries zero (row ∷ rows) = length row + entries zero rows
entries (suc k) (row ∷ rows) = entries k rows

-- the entries of the rows that differ, from the next output section on
unfoldable pub left_after : Input → List KeyedSection → ℕ
left_after i sections = entries (max i.kept.first (length sections)) (map (λ v. v.items) i.rows.now)

-- at most those of them that have their places now are placed anew
abbrev pub Resumes : Input → LayoutCursor → LayoutCursor → List KeyedSection → List KeyedSection → Type 0
Resumes i old new before after = new.anew + left_after i after ≤ old.anew + left_after i before

-- the input sections of the output sections from a number on, by how many each has
abbrev pub placed_from : ℕ → List ℕ → ℕ
placed_from k counts = sum_by (λ (n : ℕ). n) (drop k counts)

-- the number of the first output section that is not taken over from a previous layout
abbrev pub first_of : Option ResumePoint → ℕ
first_of kept = option_map_or (λ k. k.first_row) kept 0

-- those of the output sections that are not taken over were placed anew, and each counted
abbrev pub Adds : Input → LayoutCursor → LayoutCursor → List KeyedSection → List KeyedSection → Type 0
Adds i old new before after =
    CountsAlong old.anew new.anew (placed_from i.kept.first (counts_in before))
    (placed_from i.kept.first (counts_in after))

-- at most this number is counted, and nothing else is
abbrev pub CountsPieces : Counts → Counts → ℕ → Type 0
CountsPieces old new most = (new ≡ old) ⊎ ((by : ℕ) × (by ≤ most) × (new ≡ raised old Pieces by))
