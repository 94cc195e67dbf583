use Rattle.ldscript_terms.proofs.Common.{IsForm, ap, false≢true, parts_in, subst, sym, ◌∙◌}
use Rattle.ldscript_terms.proofs.Exact.{any_matches, no_star}
use Rattle.ldscript_terms.proofs.Patterns.{star_is}
use Rattle.ldscript_terms.proofs.pattern.Pattern.is_any.Goals as goal

pub returns-in-Exact-clause-value : goal.returns-in-Exact-clause-value
returns-in-Exact-clause-value c = (
  λ f. absurd (false≢true f),
  λ m. absurd
      (no_star c.in-Exact.field-0 (sym (ap parts_in c.in-Exact.is) ∙ c.self.view_is ∙ m)),
)

value : goal.returns-in-Wild-clause-value
value c =
    star_is c.in-Wild.word c.as_bytes.result.now c.args.self.now c.is_star.result
    (subst (λ f. IsForm f) c.in-Wild.is c.self.invariant).0 c.as_bytes.ensures
    (sym (ap parts_in c.in-Wild.is) ∙ c.self.view_is) c.is_star.ensures

pub returns-in-Wild-clause-value : goal.returns-in-Wild-clause-value
returns-in-Wild-clause-value c = value c

pub returns-in-Wild-clause-all : goal.returns-in-Wild-clause-all
returns-in-Wild-clause-all c = λ t. any_matches c.args.self.now ((value c).0 t)
