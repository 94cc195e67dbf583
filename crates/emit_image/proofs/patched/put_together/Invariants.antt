use Rattle.emit_image.proofs.Together.{Together}
use Rattle.emit_image.proofs.patched.put_together.Given as goal

abbrev pub invariant-loop-patch : goal.invariant-loop-patch
invariant-loop-patch l = Together l.bytes l.patches l.patch-index l.whole
