use Rattle.place_sections.proofs.Common.{Err, Ok, ap, outcome_of, sym, ◌∙◌}
use Rattle.ldscript.specs.terms.CodeTerms.{expr_of}
use Rattle.place_terms.specs.declared.value.ValueFault.TheVariants.{NotReady, NoValue}
use Rattle.place_sections.proofs.Valued.{number_is}
use Rattle.place_sections.proofs.state.LayoutCursor.number.Goals as goal

pub returns-in-Ok : goal.returns-in-Ok
returns-in-Ok g c = number_is g.naming c.args.self.now c.args.done.now c.args.line (expr_of c.args.expr.now)
    (Ok c.in-Ok.number) c.in-Ok.ensures

pub returns-in-Err-NotReady : goal.returns-in-Err-NotReady
returns-in-Err-NotReady g c =
    number_is g.naming c.args.self.now c.args.done.now c.args.line (expr_of c.args.expr.now)
    (Err (NotReady c.in-Err-NotReady.name))
    (sym (ap outcome_of (c.in-Err-NotReady.is ∙ ap Err c.in-Err-NotReady.field-0-is)) ∙ c.value.ensures)

pub returns-in-Err-NoValue : goal.returns-in-Err-NoValue
returns-in-Err-NoValue g c =
    number_is g.naming c.args.self.now c.args.done.now c.args.line (expr_of c.args.expr.now) (Err NoValue)
    (sym (ap outcome_of (c.in-Err-NoValue.is ∙ ap Err c.in-Err-NoValue.field-0-is)) ∙ c.value.ensures)
