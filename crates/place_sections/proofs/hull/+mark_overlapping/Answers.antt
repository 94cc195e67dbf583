-- A node, and what is below it.
use Rattle.place_sections.proofs.Common.{arith, length, same, sym, ◌-◌, ◌∙◌}
use Rattle.place_sections.proofs.Hulls.{kept_joined, marked_join, missed_all, missed_join, missed_leaf}
use Rattle.place_sections.proofs.hull.+mark_overlapping.Goals as goal

pub returns-then-not-may_overlap-clause-marked : goal.returns-then-not-may_overlap-clause-marked
returns-then-not-may_overlap-clause-marked t c j d within = same _

pub returns-then-not-may_overlap-clause-missed : goal.returns-then-not-may_overlap-clause-missed
returns-then-not-may_overlap-clause-missed t c =
    missed_all c.args.extents.now c.args.nodes.now c.args.firsts.now c.args.node _ c.args.extent.now c.requires.lengths
    c.requires.positive c.requires.kept (sym c.may_overlap.ensures ∙ c.if-not-may_overlap.true)

pub returns-then-node-extents-clause-missed : goal.returns-then-node-extents-clause-missed
returns-then-node-extents-clause-missed t c =
    missed_leaf c.args.extents.now c.mark_leaf.new.firsts c.args.node (c.args.node - length c.args.extents.now)
    c.args.extent.now (omega (arith, c.requires.node, c.requires.lengths, c.if-node-extents.true))
    (omega (arith, c.if-node-extents.true)) c.mark_leaf.ensures.missed

pub returns-clause-kept : goal.returns-clause-kept
returns-clause-kept t c =
    kept_joined c.args.extents.now c.mark_overlapping-2.new.nodes c.mark_overlapping-2.new.firsts c.args.node
    c.around.result _
    (omega (arith, c.requires.lengths, c.mark_overlapping.auto.nodes, c.mark_overlapping-2.auto.nodes))
    c.requires.positive c.if-node-extents.false c.mark_overlapping-2.ensures.kept c.around.ensures

pub returns-clause-marked : goal.returns-clause-marked
returns-clause-marked t c =
    marked_join c.args.extents.now c.args.extent.now c.args.by c.args.firsts.now c.mark_overlapping.new.firsts
    c.mark_overlapping-2.new.firsts
    c.mark_overlapping.ensures.marked c.mark_overlapping-2.ensures.marked

pub returns-clause-missed : goal.returns-clause-missed
returns-clause-missed t c =
    missed_join c.args.extents.now c.args.extent.now c.args.by c.args.node c.mark_overlapping.new.firsts
    c.mark_overlapping-2.new.firsts c.if-node-extents.false c.mark_overlapping.ensures.missed
    c.mark_overlapping-2.ensures.marked c.mark_overlapping-2.ensures.missed
