use Rattle.emit.proofs.Common.{provided, rows}
use Rattle.emit.proofs.InFile.{all_by_contents}
use Rattle.emit.proofs.Sizes.{pieces_filed}
use Rattle.emit.proofs.law.pieces_in_file.Goals as goal

pub returns : goal.returns
returns c =
    λ p s names numbers profile e.
    pieces_filed p names numbers (c.live_by_path.ensures.in_order p) s
    (c.placed_are_rows.ensures p (provided p) s e) (c.nothing_overlaps.ensures p.script (rows p) (provided p) s e)
    (all_by_contents p.script s (c.layout_by_effects.ensures p.script (rows p) (provided p) s e)) profile
    (λ x t within. c.fields_in_image.ensures.some (record { project = p; layout = s }) x t within)
