-- Each byte of a run is the same.
use Rattle.std.proofs.lemmas.List.{get_or-replicate}
use Rattle.emit_image.proofs.paint.run_of.Goals as goal

pub returns-clause-filled : goal.returns-clause-filled
returns-clause-filled c = λ i h. get_or-replicate 32 i c.args.byte 0 h
