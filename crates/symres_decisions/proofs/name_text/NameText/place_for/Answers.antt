use Rattle.symres_decisions.proofs.Common.{List, ap, arith, length, slice_cmp, sym, ℕ, ◌+◌, ◌-◌, ◌/◌, ◌<◌, ◌∙◌}
use Rattle.std.specs.Ordering.{is_lt, nat_cmp}
use Rattle.symres_decisions.proofs.ByteOrder.{after_middle, before_middle}
use Rattle.symres_decisions.proofs.Listed.{Listed}
use Rattle.symres_decisions.proofs.name_text.NameText.place_for.Goals as goal

pub loop-low-preserved-then-is_lt : goal.loop-low-preserved-then-is_lt
loop-low-preserved-then-is_lt c =
    let i = c.loop-low.invariant in
    let names : List Listed = c.args.self.now in
    let middle : ℕ = c.loop-low.low + (c.loop-low.high - c.loop-low.low) / 2 in
    let below : middle < c.loop-low.high = omega (arith, c.loop-low-test.true) in
    let inside : middle < length names = omega (arith, below, i.within) in
    record {
      ordered = omega (arith, below);
      within = i.within;
      before = before_middle names c.args.name.now middle c.requires inside (λ e.
          ap (λ (name : List ℕ). is_lt (slice_cmp nat_cmp name c.args.name.now)) (c.name_at.ensures e)
          ∙ ap is_lt (sym c.cmp.ensures) ∙ sym c.is_lt.ensures ∙ c.if-is_lt.true);
      after = i.after;
    }

pub loop-low-preserved : goal.loop-low-preserved
loop-low-preserved c =
    let i = c.loop-low.invariant in
    let names : List Listed = c.args.self.now in
    let middle : ℕ = c.loop-low.low + (c.loop-low.high - c.loop-low.low) / 2 in
    let below : middle < c.loop-low.high = omega (arith, c.loop-low-test.true) in
    record {
      ordered = omega arith;
      within = omega (arith, below, i.within);
      before = i.before;
      after = after_middle names c.args.name.now middle c.requires (λ e.
          ap (λ (name : List ℕ). is_lt (slice_cmp nat_cmp name c.args.name.now)) (c.name_at.ensures e)
          ∙ ap is_lt (sym c.cmp.ensures) ∙ sym c.is_lt.ensures ∙ c.if-is_lt.false);
    }
