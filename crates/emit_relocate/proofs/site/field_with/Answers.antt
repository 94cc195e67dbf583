use Rattle.emit_relocate.proofs.Common.{Fields, ap, arith, raised, sym, work_of, ◌∙◌}
use Rattle.emit_relocate.specs.Values.{value_of}
use Rattle.emit_relocate.specs.declared.value.SymbolValue.{SymbolValue}
use Rattle.emit_relocate.proofs.Added.{raise_none}
use Rattle.emit_relocate.proofs.Sites.{missing, overflow, undefined}
use Rattle.emit_relocate.proofs.site.field_with.Goals as goal

pub returns-in-NotDefined-clause-outcome : goal.returns-in-NotDefined-clause-outcome
returns-in-NotDefined-clause-outcome c =
    λ l entry t h is. undefined l c.args.section.now entry t h _ (ap value_of c.in-NotDefined.is)

pub returns-in-NotInOutput-clause-outcome : goal.returns-in-NotInOutput-clause-outcome
returns-in-NotInOutput-clause-outcome c =
    λ l entry t h is. missing l c.args.section.now entry t h _ (ap value_of c.in-NotInOutput.is)

pub returns-in-Err-clause-outcome : goal.returns-in-Err-clause-outcome
returns-in-Err-clause-outcome c =
    λ l entry t h is. overflow l c.args.section.now entry t h _ c.in-Number.value c.args.relocation.now
    c.in-Err.overflow (ap value_of c.in-Number.is) is c.in-Err.ensures.field

pub returns-in-NotDefined-clause-counted : goal.returns-in-NotDefined-clause-counted
returns-in-NotDefined-clause-counted c =
    raise_none c.args.meter.now (omega (arith, c.fields-fields.type_inv, c.fields-fields.ensures))
    ∙ ap (λ (v : SymbolValue). raised c.args.meter.now Fields (work_of (value_of v))) (sym c.in-NotDefined.is)

pub returns-in-NotInOutput-clause-counted : goal.returns-in-NotInOutput-clause-counted
returns-in-NotInOutput-clause-counted c =
    raise_none c.args.meter.now (omega (arith, c.fields-fields.type_inv, c.fields-fields.ensures))
    ∙ ap (λ (v : SymbolValue). raised c.args.meter.now Fields (work_of (value_of v))) (sym c.in-NotInOutput.is)
