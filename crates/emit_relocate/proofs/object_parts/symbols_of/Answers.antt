use Rattle.emit_relocate.proofs.Common.{ap, option_copied, slice_get, sym, ◌∙◌}
use Rattle.emit_relocate.proofs.Objects.{no_symbols, symbols_are}
use Rattle.emit_relocate.proofs.object_parts.symbols_of.Goals as goal

pub returns-in-None : goal.returns-in-None
returns-in-None c n =
    no_symbols (slice_get c.args.project.now.objects c.args.place.0) n
    (sym (ap option_copied c.in-None.is) ∙ c.object.ensures)

pub returns-in-Some : goal.returns-in-Some
returns-in-Some c n =
    symbols_are (slice_get c.args.project.now.objects c.args.place.0) c.in-Some.object.now n c.symbols.result.now
    (sym (ap option_copied c.in-Some.is) ∙ c.object.ensures) c.symbols.ensures.value
