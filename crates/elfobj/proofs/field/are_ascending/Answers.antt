use Rattle.elfobj.proofs.Common.{AllAdjacentBelow, Relocation, arith, length, subst, ◌≡◌, ◌≤◌}
use Rattle.std.proofs.lemmas.List.Sorted.{IsNonDecreasingBy-from_all_adjacent}
use Rattle.elfobj.proofs.field.are_ascending.Goals as goal

pub returns : goal.returns
returns c =
    let e : c.loop-relocation.relocation-index ≡ length c.args.relocations.now = omega arith in
    λ h. IsNonDecreasingBy-from_all_adjacent (λ (r : Relocation). r.offset) c.args.relocations.now
    (subst (λ n. AllAdjacentBelow (λ (x y : Relocation). x.offset ≤ y.offset) c.args.relocations.now n) e
    c.loop-relocation.invariant.sorted)
