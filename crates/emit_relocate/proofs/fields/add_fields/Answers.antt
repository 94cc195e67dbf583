use Rattle.emit_relocate.proofs.Added.{added_as_they_are}
use Rattle.emit_relocate.proofs.fields.add_fields.Goals as goal

pub returns : goal.returns
returns c =
    λ l o x h. added_as_they_are l c.args.section.now o x h _ _ _ _ _ _
    (c.in_ok-add_sites.ensures.tried l o x h) c.in_ok-add_sites.ensures.fields c.requires.apart
    (c.is_ascending.ensures c.if-not-is_ascending.false)
