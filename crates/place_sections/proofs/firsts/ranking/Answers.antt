-- A sort only moves them.
use Rattle.place_sections.proofs.Ranking.{ranking_is}
use Rattle.place_sections.proofs.firsts.ranking.Goals as goal

pub returns : goal.returns
returns c =
    ranking_is c.args.extents.now c.in_ok-ranking.ranking.items c.sort_unstable_by_key.new.self.items
    c.in_ok-ranking.ensures c.sort_unstable_by_key.ensures.permutation
