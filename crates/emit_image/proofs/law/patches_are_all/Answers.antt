use Rattle.emit_image.proofs.Sparing.{all_patches}
use Rattle.emit_image.proofs.law.patches_are_all.Goals as goal

pub returns : goal.returns
returns c = all_patches
