use Rattle.emit.proofs.SameLink as same
use Rattle.emit.proofs.rewritten.rewritten_layout.Goals as goal

pub returns : goal.returns
returns c p q place h = same.same_layout h
