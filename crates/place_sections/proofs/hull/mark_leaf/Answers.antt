-- One leaf.
use Rattle.place_sections.proofs.Common.{same, sym, ◌∙◌}
use Rattle.place_sections.proofs.Hulls.{kept_marked, marked_leaf, none_is}
use Rattle.place_sections.proofs.hull.mark_leaf.Goals as goal

pub returns-then-is_some-clause-marked : goal.returns-then-is_some-clause-marked
returns-then-is_some-clause-marked c j d within = same _

pub returns-then-overlaps-clause-kept : goal.returns-then-overlaps-clause-kept
returns-then-overlaps-clause-kept c =
    kept_marked c.args.extents.now c.args.nodes.now c.args.firsts.now c.args.leaf c.args.by _ _ c.requires.lengths
    c.requires.marks c.requires.leaf c.requires.kept c.emptied-then-overlaps.ensures

pub returns-then-overlaps-clause-marked : goal.returns-then-overlaps-clause-marked
returns-then-overlaps-clause-marked c =
    marked_leaf c.args.extents.now c.args.firsts.now c.args.leaf c.args.by c.args.extent.now _ c.requires.marks
    c.requires.leaf (none_is _ (sym c.is_some.ensures ∙ c.if-is_some.false)) (sym c.overlaps.ensures
    ∙ c.if-overlaps.true)

pub returns-clause-marked : goal.returns-clause-marked
returns-clause-marked c j d within = same _
