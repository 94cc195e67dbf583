use Rattle.emit.proofs.SameRows as same
use Rattle.emit.proofs.rewritten.rewritten_rows.Goals as goal

pub returns-clause-rows : goal.returns-clause-rows
returns-clause-rows c p q place h = same.same_rows h

pub returns-clause-faults : goal.returns-clause-faults
returns-clause-faults c p q place h = same.same_gathering_faults h
