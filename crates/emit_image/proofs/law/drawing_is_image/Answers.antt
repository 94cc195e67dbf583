use Rattle.emit_image.proofs.OfLink.{drawing-same, end-same, image-same, unstayed}
use Rattle.emit_image.proofs.law.drawing_is_image.Goals as goal

pub returns-clause-byte : goal.returns-clause-byte
returns-clause-byte c = drawing-same

pub returns-clause-end : goal.returns-clause-end
returns-clause-end c = end-same

pub returns-clause-unstayed : goal.returns-clause-unstayed
returns-clause-unstayed c = unstayed

pub returns-clause-whole : goal.returns-clause-whole
returns-clause-whole c = image-same
