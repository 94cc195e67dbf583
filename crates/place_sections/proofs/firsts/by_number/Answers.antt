-- One number a step.
use Rattle.place_sections.proofs.Common.{length-set, ◌∙◌}
use Rattle.place_sections.proofs.Ranking.{each_more, each_number}
use Rattle.place_sections.proofs.firsts.by_number.Goals as goal

pub loop-j-preserved : goal.loop-j-preserved
loop-j-preserved c = record {
  count = length-set c.loop-j.firsts.items _ _ ∙ c.loop-j.invariant.count;
  each = each_more c.args.extents.now c.args.ranking.now c.args.marks.now c.loop-j.firsts.items c.loop-j.j _
      c.requires.ranking c.requires.marks c.loop-j.invariant.count c.loop-j-test.true c.loop-j.invariant.each;
}

pub returns : goal.returns
returns c =
    each_number c.args.extents.now c.args.ranking.now c.loop-j.firsts.items c.loop-j.j c.requires.ranking
    c.loop-j.invariant.count c.loop-j-test.false c.loop-j.invariant.each
