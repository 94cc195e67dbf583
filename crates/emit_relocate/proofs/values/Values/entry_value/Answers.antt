use Rattle.emit_relocate.proofs.Common.{◌∙◌}
use Rattle.emit_relocate.proofs.Looking.{entry_none, entry_some}
use Rattle.emit_relocate.proofs.values.Values.entry_value.Goals as goal

pub returns-in-None : goal.returns-in-None
returns-in-None c = λ s same. entry_none c.args.project.now s c.in-None.ensures

pub returns-in-Some : goal.returns-in-Some
returns-in-Some c =
    λ s same.
    c.value.ensures
    ∙ entry_some c.args.project.now s c.args.symbols.list.now c.in-Some.name.now c.in-Some.ensures same
