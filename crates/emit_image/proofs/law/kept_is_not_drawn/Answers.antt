use Rattle.emit_image.proofs.Sparing.{all_spared}
use Rattle.emit_image.proofs.law.kept_is_not_drawn.Goals as goal

pub returns : goal.returns
returns c = λ old new d good h is kept. all_spared old new c.sections_in_file.ensures.all good d h is kept
