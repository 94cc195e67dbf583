use Rattle.ldmodel_laws.proofs.Cutting as cutting
use Rattle.ldmodel_laws.proofs.streams.one_first_command.Goals as goal

pub returns : goal.returns
returns c = cutting.one_first
