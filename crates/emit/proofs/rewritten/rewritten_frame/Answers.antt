use Rattle.emit.proofs.SameFrame as same
use Rattle.emit.proofs.rewritten.rewritten_frame.Goals as goal

pub returns-clause-map : goal.returns-clause-map
returns-clause-map c p q place h s = same.same_map h s

pub returns-clause-frame : goal.returns-clause-frame
returns-clause-frame c p q place h s = same.same_frame h s

pub returns-clause-headers : goal.returns-clause-headers
returns-clause-headers c p q place h s = same.same_headers h s

pub returns-clause-tail : goal.returns-clause-tail
returns-clause-tail c p q place h s = same.same_tail h s

pub returns-clause-length : goal.returns-clause-length
returns-clause-length c p q place h s = same.same_length h s

pub returns-clause-assertions : goal.returns-clause-assertions
returns-clause-assertions c p q place h s = same.same_assertion_faults h s
