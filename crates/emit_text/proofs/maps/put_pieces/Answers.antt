-- The lines of a row.
use Rattle.emit_text.proofs.Common.{List, Piece, Project, [], arith, at_drop_more, drop, get_or, length, min}
use Rattle.emit_text.proofs.Common.{piece_text, pieces_text, refl, suc, zero, ℕ, ◌++◌, ◌+◌, ◌<◌, ◌∙◌, ◌∷◌, ◌≡◌, ◌≤◌}
use Rattle.emit_text.proofs.Appending.{written_step, written_end}
use Rattle.emit_text.proofs.maps.put_pieces.Goals as goal

-- one piece further
more_pieces : (p : Project) (row : List Piece) (starts : List ℕ) (i : ℕ) (x : Piece) (start : ℕ)
    → i < min (length row) (length starts)
    → pieces_text p (drop i row) (drop i starts)
    ≡ piece_text p (get_or row i x) (get_or starts i start)
    ++ pieces_text p (drop (i + 1) row) (drop (i + 1) starts)
more_pieces p row starts i x start h =
    at_drop_more (λ xs. pieces_text p xs (drop i starts)) row i x (omega (arith, h))
    ∙ at_drop_more (λ ss. pieces_text p (get_or row i x ∷ drop (i + 1) row) ss) starts i start (omega (arith, h))

no_starts : (p : Project) (row : List Piece) → pieces_text p row [] ≡ []
no_starts p [] = refl
no_starts p (x ∷ xs) = refl

no_pieces : (p : Project) (row : List Piece) (starts : List ℕ) (i : ℕ)
    → min (length row) (length starts) ≤ i → pieces_text p (drop i row) (drop i starts) ≡ []
no_pieces p [] starts zero h = refl
no_pieces p [] starts (suc i) h = refl
no_pieces p (x ∷ xs) [] zero h = refl
no_pieces p (x ∷ xs) [] (suc i) h = no_starts p (drop i xs)
no_pieces p (x ∷ xs) (s ∷ ss) zero h = absurd (omega (arith, h))
no_pieces p (x ∷ xs) (s ∷ ss) (suc i) h = no_pieces p xs ss i (omega (arith, h))

pub loop-i-preserved : goal.loop-i-preserved
loop-i-preserved c =
    written_step _ _ _ _ _ _ c.in_ok-likely.ensures
    (more_pieces c.args.project.now c.args.row.now c.args.starts.now c.loop-i.i _ _ (omega arith)) c.loop-i.invariant

pub returns : goal.returns
returns c =
    c.in_ok-move_to.ensures.text
    ∙ written_end _ _ _
    (no_pieces c.args.project.now c.args.row.now c.args.starts.now c.loop-i.i (omega arith)) c.loop-i.invariant
