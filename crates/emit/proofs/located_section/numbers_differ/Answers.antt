use Rattle.emit.proofs.Planning.{found_by_number}
use Rattle.emit.proofs.located_section.numbers_differ.Goals as goal

pub returns : goal.returns
returns c = λ j x is.
    found_by_number c.args.object.now.sections c.sections-sections.result.now c.sections-sections.ensures.value
    c.sections-sections.ensures.ascending j x is
