use Rattle.gather.proofs.Common.{ap, block_rank, map, subst, sym, ◌++◌, ◌∙◌}
use Rattle.gather.proofs.Ranked.{RankedUpTo, all_ranked, more_ranked, none_ranked}
use Rattle.gather.proofs.blocks.block_ranks.Goals as goal

pub loop-place-init : goal.loop-place-init
loop-place-init c =
    subst (λ l. RankedUpTo c.args.all.now l 0) (sym c.new-ranks.ensures.items) (none_ranked c.args.all.now)

pub loop-place-preserved : goal.loop-place-preserved
loop-place-preserved c =
    more_ranked c.args.all.now c.loop-place.place c.index-all-place.result c.loop-place.ranks.items
    c.add_ranks.new.ranks.items c.index-all-place.is
    (c.in_ok-add_ranks.ensures
    ∙ ap (λ l. c.loop-place.ranks.items ++ map (block_rank c.loop-place.place) l) c.deref.ensures.value)
    c.loop-place.invariant

pub returns : goal.returns
returns c =
    λ p are.
    all_ranked p c.args.all.now c.loop-place.ranks.items c.loop-place.place c.loop-place-test.false
    c.loop-place.invariant are
