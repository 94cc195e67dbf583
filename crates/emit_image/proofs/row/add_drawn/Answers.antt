-- One that does not stay is not joined.
use Rattle.emit_image.proofs.Common.{[], subst, sym, true≢false, ◌++◌, ◌∙◌, ◌∷◌}
use Rattle.emit_image.specs.Joined.{StandFor}
use Rattle.emit_image.proofs.Joining.{stand_more}
use Rattle.emit_image.proofs.row.add_drawn.Goals as goal

pub returns : goal.returns
returns c = λ whole h drawn.
    subst (StandFor (whole ++ c.args.piece ∷ [])) (sym c.in_ok-add.ensures)
    (stand_more whole c.args.row.now.items c.args.piece h (λ stays. absurd (true≢false (sym stays ∙ drawn))))
