use Rattle.ldmodel_laws.proofs.PieceBytes as bytes
use Rattle.ldmodel_laws.proofs.image.byte_of_piece.Goals as goal

pub returns : goal.returns
returns c = bytes.byte_of_piece
