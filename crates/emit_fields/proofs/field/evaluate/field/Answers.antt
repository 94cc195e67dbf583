use Rattle.emit_fields.proofs.Common.{List, Ok, Overflow, Result, ap, sym, ℕ, ◌∙◌}
use Rattle.emit_fields.proofs.FieldBytes.{field_of_fitting, field_of_overflowing}
use Rattle.emit_fields.proofs.field.evaluate.field.Goals as goal

pub returns-then-fits-clause-field : goal.returns-then-fits-clause-field
returns-then-fits-clause-field c =
    let ok : List ℕ → Result (List ℕ) Overflow = λ bytes. Ok bytes in
    ap ok c.cut.ensures
    ∙ field_of_fitting c.args.relocation.now c.args.s c.args.p c.value-value.result c.value-value.ensures
    (sym c.fits.ensures ∙ c.if-fits.true)

pub returns-else-fits-clause-field : goal.returns-else-fits-clause-field
returns-else-fits-clause-field c =
    field_of_overflowing c.args.relocation.now c.args.s c.args.p c.value-value.result c.value-value.ensures
    (sym c.fits.ensures ∙ c.if-fits.false)
