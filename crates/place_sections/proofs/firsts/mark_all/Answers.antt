-- One range a step.
use Rattle.place_sections.proofs.Common.{◌∙◌}
use Rattle.place_sections.proofs.Ranking.{first_more}
use Rattle.place_sections.proofs.firsts.mark_all.Goals as goal

pub loop-k-preserved : goal.loop-k-preserved
loop-k-preserved c = record {
  lengths = c.mark_overlapping.auto.nodes ∙ c.loop-k.invariant.lengths;
  kept = c.mark_overlapping.ensures.kept;
  first = first_more c.args.extents.now c.args.in_order.now c.loop-k.firsts c.mark_overlapping.new.firsts c.loop-k.k _
      c.loop-k-test.true c.mark_overlapping.auto.firsts c.loop-k.invariant.first c.mark_overlapping.ensures.marked
      c.mark_overlapping.ensures.missed;
}
