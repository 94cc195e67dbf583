use Rattle.ldscript_terms.proofs.Common.{Some, ap, exact_name, parts_in, sym, ◌∙◌}
use Rattle.ldscript_terms.proofs.Exact.{exact_of_bytes, only_exact}
use Rattle.ldscript_terms.proofs.pattern.Pattern.exact_name.Goals as goal

value : goal.returns-in-Exact-clause-value
value c =
    sym (ap exact_name (sym (ap parts_in c.in-Exact.is) ∙ c.self.view_is)) ∙ exact_of_bytes c.in-Exact.name
    ∙ ap Some (sym c.as_bytes.ensures)

pub returns-in-Exact-clause-value : goal.returns-in-Exact-clause-value
returns-in-Exact-clause-value c = value c

pub returns-in-Exact-clause-only : goal.returns-in-Exact-clause-only
returns-in-Exact-clause-only c = only_exact c.args.self.now c.as_bytes.result.now (value c)
