use Rattle.ldmodel_deferred.proofs.Cutting.{no_feed}
use Rattle.ldmodel_deferred.proofs.law.deferred_lines_without_feed.Goals as goal

pub returns : goal.returns
returns c = no_feed c.lines_without_feed.ensures
