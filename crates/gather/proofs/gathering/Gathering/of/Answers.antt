use Rattle.gather.proofs.Common.{AreBlocks, subst, sym}
use Rattle.gather.proofs.gathering.Gathering.of.Goals as goal

pub of-requires : goal.of-requires
of-requires c =
    let p = c.args.project.now in
    c.in_ok-ranks.ensures p (subst (AreBlocks p) (sym c.deref.ensures.value) c.in_ok-blocks.ensures)
