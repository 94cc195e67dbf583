-- The member of the list.
use Rattle.emit.proofs.OfSections.{section_among}
use Rattle.emit.proofs.pieces.section_at.Goals as goal

pub returns : goal.returns
returns c x here =
    section_among c.args.object.now c.args.index.0 x c.sections.result.now _ c.sections.ensures.value here
