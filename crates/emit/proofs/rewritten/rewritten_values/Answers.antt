use Rattle.emit.proofs.SameValues as same
use Rattle.emit.proofs.rewritten.rewritten_values.Goals as goal

pub returns-clause-names : goal.returns-clause-names
returns-clause-names c p q place h s name = λ i. same.same_name_value h s i name

pub returns-clause-entry : goal.returns-clause-entry
returns-clause-entry c p q place h s = same.same_entry_point h s

pub returns-clause-references : goal.returns-clause-references
returns-clause-references c p q place h s = same.same_referenced h s
