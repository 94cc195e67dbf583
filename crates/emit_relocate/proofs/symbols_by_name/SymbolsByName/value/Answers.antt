use Rattle.emit_relocate.proofs.Common.{ap, value_found, ◌∙◌}
use Rattle.emit_relocate.specs.Values.{value_of}
use Rattle.emit_relocate.proofs.symbols_by_name.SymbolsByName.value.Goals as goal

pub returns-in-Some : goal.returns-in-Some
returns-in-Some c = ap value_of c.value.ensures ∙ ap value_found c.in-Some.ensures

pub returns-in-None : goal.returns-in-None
returns-in-None c = ap value_found c.in-None.ensures
