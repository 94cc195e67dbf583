use Rattle.ldscript_terms.proofs.Reading.{only_pattern}
use Rattle.ldscript_terms.proofs.pattern.Pattern.read.Goals as goal

pub returns : goal.returns
returns c = only_pattern _ _ c.in_ok-form.ensures.spelled
