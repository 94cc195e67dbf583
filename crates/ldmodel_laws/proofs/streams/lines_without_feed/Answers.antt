use Rattle.ldmodel_laws.proofs.Cutting as cutting
use Rattle.ldmodel_laws.proofs.streams.lines_without_feed.Goals as goal

pub returns : goal.returns
returns c = cutting.no_feed
