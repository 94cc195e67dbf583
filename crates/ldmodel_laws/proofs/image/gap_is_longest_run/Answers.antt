use Rattle.ldmodel_laws.proofs.Gapped.{gap_starts}
use Rattle.ldmodel_laws.proofs.image.gap_is_longest_run.Goals as goal

pub returns : goal.returns
returns c = gap_starts
