use Rattle.emit_relocate.proofs.known.start_in.Goals as goal

pub returns : goal.returns
returns c p s h = c.start_at.ensures p s c.args.section (c.find.ensures.place p s h)
