use Rattle.ldscript_statements.proofs.Common.{[], ap, length-append, rules, sym, ◌+◌, ◌∙◌, ◌∷◌}
use Rattle.ldscript_statements.proofs.Fills.{pair_none, pair_some}
use Rattle.ldscript_statements.proofs.fill.hex_bytes.Goals as goal

pub returns-in-None : goal.returns-in-None
returns-in-None c =
    sym (pair_none c.args.digits.now c.loop-i.i c.byte_at.result c.byte_at-in-loop-i.result c.args.count
    c.loop-i.bytes.items c.loop-i.invariant.0 c.byte_at.ensures.value c.byte_at-in-loop-i.ensures.value
    c.in-None.ensures (search rules))

pub loop-i-preserved : goal.loop-i-preserved
loop-i-preserved c =
    rw c.in_ok-push-in-Some.ensures.items (
      pair_some c.args.digits.now c.loop-i.i c.byte_at.result c.byte_at-in-loop-i.result c.in-Some.byte
          c.loop-i.bytes.items c.loop-i.invariant.0 c.byte_at.ensures.value c.byte_at-in-loop-i.ensures.value
          c.in-Some.ensures,
      length-append c.loop-i.bytes.items (c.in-Some.byte ∷ []) ∙ ap (λ n. n + 1) c.loop-i.invariant.1,
    )
