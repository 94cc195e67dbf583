-- A part that is in no output section has no header; another has that of its output section.
use Rattle.emit_relocate.proofs.Common.{IfOk-weaker, IsSectionAddress, object_name, subst, sym, ◌∙◌}
use Rattle.emit_relocate.proofs.Rows.{header_none, header_some}
use Rattle.emit_relocate.proofs.name_row.header_at.Goals as goal

pub returns-in-None : goal.returns-in-None
returns-in-None c p s k h =
    sym (header_none s (object_name p k.object.0) k.part (subst (IsSectionAddress p s k) c.in-None.is h))

pub returns-in-Some : goal.returns-in-Some
returns-in-Some c =
    IfOk-weaker c.header_of.result _ _
    (λ n e p s k h.
    e
    ∙ sym (header_some s (object_name p k.object.0) k.part c.in-Some.address.section.0
    (subst (IsSectionAddress p s k) c.in-Some.is h).1))
    c.header_of.ensures
