use Rattle.emit_relocate.proofs.Common.{Fields, Relocation, ap, raised, sym, work_of, ◌∙◌}
use Rattle.ldmodel.specs.SymbolValues.{SymbolValue}
use Rattle.emit_relocate.proofs.Evaluations.{one_evaluation}
use Rattle.emit_relocate.proofs.Sites.{evaluated}
use Rattle.emit_relocate.proofs.site.evaluate.Goals as goal

pub returns-clause-evaluated : goal.returns-clause-evaluated
returns-clause-evaluated c =
    λ l entry t h is. evaluated l t _ _
    (c.site_value-value.ensures l t h.site (ap (λ (r : Relocation). r.symbol) is))
    (c.field_with.ensures.outcome l entry t h is)

pub returns-clause-counted : goal.returns-clause-counted
returns-clause-counted c =
    λ l t h is. c.field_with.ensures.counted
    ∙ ap (λ (v : SymbolValue). raised c.args.meter.now Fields (work_of v))
    (c.site_value-value.ensures l t h (ap (λ (r : Relocation). r.symbol) is))
    ∙ ap (raised c.args.meter.now Fields) (sym (one_evaluation l t))
