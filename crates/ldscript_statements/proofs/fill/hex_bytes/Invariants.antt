use Rattle.ldscript_statements.proofs.Common.{Some, hex_bytes, length, ◌≡◌}
use Rattle.ldscript_statements.proofs.fill.hex_bytes.Given as goal

abbrev pub invariant-loop-i : goal.invariant-loop-i
invariant-loop-i l = (hex_bytes l.digits l.i ≡ Some l.bytes.items) × (length l.bytes.items ≡ l.i)
