use Rattle.ldmodel_laws.proofs.Spreading as spreading
use Rattle.ldmodel_laws.proofs.layout.nothing_overlaps.Goals as goal

pub returns : goal.returns
returns c script rows provided s e = spreading.script_spread rows provided script s e
