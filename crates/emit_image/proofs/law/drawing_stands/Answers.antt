use Rattle.emit_image.proofs.Standing.{stands}
use Rattle.emit_image.proofs.law.drawing_stands.Goals as goal

pub returns : goal.returns
returns c = λ p s d h m f e. stands p s d (c.segments_by_neighbours.ensures.is s.sections) h m f e
