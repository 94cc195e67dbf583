use Rattle.emit_image.proofs.Spending.{unstayed_is}
use Rattle.emit_image.proofs.law.kept_is_what_stayed.Goals as goal

pub returns : goal.returns
returns c = λ old new d good h is kept stayed.
    unstayed_is old new c.sections_in_file.ensures.all good d h is kept stayed
