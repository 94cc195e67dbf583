use Rattle.std.proofs.Common.{◌≡◌, ◌+◌, ◌-◌, arith, get_or, length, refl, rules, subst}
use Rattle.elfobj_file.proofs.StringTables.{AreLengthsFrom, lengths_start, lengths_step}
use Rattle.elfobj_file.proofs.names.name_lengths.Goals as goal

pub loop-at-init : goal.loop-at-init
loop-at-init c =
    let count : length c.in_ok-lengths.lengths.items ≡ length c.args.table.now = search rules in
    lengths_start c.args.table.now c.in_ok-lengths.lengths.items count

pub loop-at-preserved : goal.loop-at-preserved
loop-at-preserved c =
    let e : c.loop-at.at ≡ c.loop-at.at - 1 + 1 = omega arith in
    lengths_step c.args.table.now c.loop-at.lengths.items (c.loop-at.at - 1)
    (get_or c.args.table.now (c.loop-at.at - 1) 0) c.loop-at.next c.length_before-next.result c.loop-at.is_end _
    (omega arith) refl c.length_before-next.ensures refl
    (subst (λ k. AreLengthsFrom c.args.table.now c.loop-at.lengths.items k c.loop-at.next c.loop-at.is_end) e
    c.loop-at.invariant)
