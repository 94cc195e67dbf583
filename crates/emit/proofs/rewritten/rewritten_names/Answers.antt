use Rattle.emit.proofs.SameNames as same
use Rattle.emit.proofs.rewritten.rewritten_names.Goals as goal

pub returns-clause-decided : goal.returns-clause-decided
returns-clause-decided c p q place h name = λ i. same.same_decision h i name

pub returns-clause-provided : goal.returns-clause-provided
returns-clause-provided c p q place h = same.same_provided h

pub returns-clause-faults : goal.returns-clause-faults
returns-clause-faults c p q place h = same.same_name_faults h
