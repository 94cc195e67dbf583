use Rattle.ldmodel_laws.proofs.StayedBytes as bytes
use Rattle.ldmodel_laws.proofs.stayed.stayed_in_image.Goals as goal

pub returns : goal.returns
returns c = bytes.stayed_in_image
