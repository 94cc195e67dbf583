use Rattle.symres_table.proofs.Common.{PlacedKey, ap, arith, get_or_default, length, ℕ, ◌+◌, ◌-◌, ◌/◌, ◌<◌}
use Rattle.symres_table.proofs.Finding.{below_middle, above_middle}
use Rattle.symres_table.proofs.places.count_below.Goals as goal

abbrev nowhere : PlacedKey
nowhere = record { key = record { 0 = 0 }; at = 0 }

pub loop-low-preserved-then-places-middle : goal.loop-low-preserved-then-places-middle
loop-low-preserved-then-places-middle c =
    let i = c.loop-low.invariant in
    let ps = c.args.places.now in
    let m : ℕ = c.loop-low.low + (c.loop-low.high - c.loop-low.low) / 2 in
    let lt : c.loop-low.low + (c.loop-low.high - c.loop-low.low) / 2 < c.loop-low.high =
    omega (arith, c.loop-low-test.true) in
    let in_list : c.loop-low.low + (c.loop-low.high - c.loop-low.low) / 2 < length ps = omega (arith, lt, i.within) in
    record {
      ordered = omega (arith, lt);
      within = i.within;
      below = below_middle ps c.args.key.0 m c.requires in_list (λ d.
          omega (
            arith,
            ap (λ (p : PlacedKey). p.key.0) (get_or_default ps m d nowhere in_list),
            c.if-places-middle.true,
          ));
      rest = i.rest;
    }

pub loop-low-preserved : goal.loop-low-preserved
loop-low-preserved c =
    let i = c.loop-low.invariant in
    let ps = c.args.places.now in
    let m : ℕ = c.loop-low.low + (c.loop-low.high - c.loop-low.low) / 2 in
    let lt : c.loop-low.low + (c.loop-low.high - c.loop-low.low) / 2 < c.loop-low.high =
    omega (arith, c.loop-low-test.true) in
    record {
      ordered = omega arith;
      within = omega (arith, lt, i.within);
      below = i.below;
      rest = above_middle ps c.args.key.0 m c.requires (λ d h.
          omega (arith, ap (λ (p : PlacedKey). p.key.0) (get_or_default ps m d nowhere h), c.if-places-middle.false));
    }
