use Rattle.emit.proofs.SameLink as same
use Rattle.emit.proofs.rewritten.rewritten_link.Goals as goal

pub returns : goal.returns
returns c p q place h = same.good_again h
