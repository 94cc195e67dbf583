-- The 16 digits of a number.
use Rattle.emit_text.proofs.HexDigits.{sixteen}
use Rattle.emit_text.proofs.hex.hex_digits.Goals as goal

pub returns : goal.returns
returns c = sixteen c.args.value c.swap_bytes-swapped.result c.swap_bytes-swapped.ensures
