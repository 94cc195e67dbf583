use Rattle.ldscript_terms.proofs.Common.{false≢true, refl}
use Rattle.ldscript_terms.proofs.Stars.{star_goes_on}
use Rattle.ldscript_terms.proofs.matching.matches_word.Goals as goal

pub returns-in-Whole : goal.returns-in-Whole
returns-in-Whole c = λ ps s. (λ t. c.in-Whole.ensures.value ps s, λ m. refl)

pub returns-in-Star : goal.returns-in-Star
returns-in-Star c = λ ps s.
    let k = c.in-Star.ensures.value ps s in
    let g = star_goes_on ps k.0 c.args.name.now c.in-Star.left.now k.2 in
    let m = c.matches_behind_star.ensures k.0 k.1 in
    (λ t. g.0 (m.0 t), λ a. m.1 (g.1 a))

pub returns-in-Missed : goal.returns-in-Missed
returns-in-Missed c = λ ps s. (λ f. absurd (false≢true f), λ m. absurd (c.in-Missed.ensures.value ps s m))
