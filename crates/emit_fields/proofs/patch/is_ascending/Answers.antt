use Rattle.emit_fields.proofs.Common.{Patch, arith}
use Rattle.std.proofs.lemmas.List.Sorted.{IsNonDecreasingBy-from_all_adjacent}
use Rattle.emit_fields.proofs.patch.is_ascending.Goals as goal

pub returns : goal.returns
returns c = λ e. IsNonDecreasingBy-from_all_adjacent (λ (s : Patch). s.offset) c.args.patches.now
    (λ k d low. c.loop-k.invariant k d (omega (arith, low)))
