-- Three numbers, each in its place.
use Rattle.emit_text.proofs.Common.{hex, refl}
use Rattle.emit_text.proofs.map_line.section_numbers.Goals as goal

pub returns : goal.returns
unfolding hex
returns c = rw (c.hex_digits-start.ensures, c.hex_digits-load.ensures, c.hex_digits-size.ensures) refl
