use Rattle.emit_relocate.proofs.Common.{refl}
use Rattle.emit_relocate.proofs.Found.{apart, ends, numbered, relocations_of}
use Rattle.emit_relocate.proofs.site.PlacedInput.new.Goals as goal

pub returns-clause-section : goal.returns-clause-section
returns-clause-section c = λ x is. record {
  place_is = refl;
  number_is = numbered c.args.object.now.sections c.args.index.0 _ c.sections.result.now c.sections.ensures.value x is
      c.sections.ensures.ascending;
  symbols_are = c.symbols.ensures.value;
  relocations_are = relocations_of c.args.object.now.sections c.args.index.0 c.relocations.result.now
      c.relocations.ensures.value x is;
}

pub returns-clause-apart : goal.returns-clause-apart
returns-clause-apart c =
    apart c.args.object.now.sections c.args.index.0 c.relocations.result.now c.relocations.ensures.value _
    c.relocations.ensures.limits
    c.requires

pub returns-clause-ends : goal.returns-clause-ends
returns-clause-ends c =
    ends c.args.object.now.sections c.args.index.0 c.relocations.result.now c.relocations.ensures.value _
    c.relocations.ensures.limits
