-- The sizes are those of the link.
use Rattle.emit.proofs.Common.{AreSegments, segments, subst, sym}
use Rattle.emit.proofs.length.image_length.Goals as goal

pub returns : goal.returns
returns c s a link_layout values =
    c.image_length.ensures c.args.project.now s
    (subst (λ xs. AreSegments s.sections (segments s.sections) xs) (sym c.deref.ensures.value) link_layout.segments)
    (c.in_ok-sizes.ensures s a c.args.link_layout.now link_layout values)
