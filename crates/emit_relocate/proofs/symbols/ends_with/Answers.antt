use Rattle.emit_relocate.proofs.Common.{NamedKey, arith, get_or, get_or_default, length, ◌-◌, ◌<◌, ◌∙◌, ◌≤◌}
use Rattle.emit_relocate.proofs.Giving.{no_key}
use Rattle.emit_relocate.proofs.Walking.{last_is}
use Rattle.emit_relocate.proofs.symbols.ends_with.Goals as goal

pub returns : goal.returns
returns c =
    let sorted = c.args.sorted.now in
    let end = length sorted - 1 in
    let some : 1 ≤ length sorted = grind (arith, c.is_empty.ensures, c.if-is_empty.false) in
    let within : end < length sorted = omega (arith, some) in
    let x : NamedKey = get_or sorted end no_key in
    c.eq.ensures ∙ last_is sorted c.args.name.now x some (get_or_default sorted end no_key x within)
