-- What is in the rows, with what statements still bring, is all; the lists of these statements are as they were.
use Rattle.gather.proofs.Common.{AreBuckets, Global, List, Vec, drop, enumerate_from, flat_map, get_or, length}
use Rattle.gather.proofs.Common.{output_sections, shown_row, ℕ, ◌++◌, ◌<◌, ◌≡◌, ◌≤◌}
use Rattle.ldscript.specs.statements.Numbered.{shown_inputs}
use Rattle.ldmodel.specs.declared.rows.Piece.{Piece}
use Rattle.gather.specs.RowPieces.{pieces_at}
use Rattle.gather.proofs.rows.join_buckets.Given as goal

abbrev pub invariant-loop-number : goal.invariant-loop-number
invariant-loop-number l = record {
  long : length l.found.items ≡ length (output_sections l.project.script);
  buckets : length l.buckets.items ≡ length l.statements;
  left : (k : ℕ) (d : Vec Piece Global) → l.number ≤ k → k < length l.statements
      → get_or l.buckets.items k d ≡ get_or l.fn.taken.items k d;
  rows : (xs : List Piece) → AreBuckets xs (length l.statements) l.fn.taken.items
      → (k : ℕ) (d : Vec Piece Global) → k < length l.found.items → shown_row l.project (get_or l.found.items k d)
      ++ flat_map (pieces_at l.project xs k) (enumerate_from l.number (shown_inputs (drop l.number l.statements)))
      ≡ flat_map (pieces_at l.project xs k) (enumerate_from 0 (shown_inputs l.statements));
}
