use Rattle.ldmodel_laws.proofs.InImage as image
use Rattle.ldmodel_laws.proofs.PieceBytes as bytes
use Rattle.ldmodel_laws.proofs.segments.sections_in_file.Goals as goal

pub returns-clause-all : goal.returns-clause-all
returns-clause-all c = bytes.all_sections

pub returns-clause-offset : goal.returns-clause-offset
returns-clause-offset c = image.offset_by_name
