-- With the lines still to come, the text is the whole one.
use Rattle.emit_text.proofs.Common.{drop, pieces_text, ◌++◌, ◌≡◌}
use Rattle.emit_text.proofs.maps.put_pieces.Given as goal

abbrev pub invariant-loop-i : goal.invariant-loop-i
invariant-loop-i l =
    (l.text.items ++ l.lines) ++ pieces_text l.project (drop l.i l.row) (drop l.i l.starts)
    ≡ l.initial.text.items ++ pieces_text l.project l.row l.starts
