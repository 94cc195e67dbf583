use Rattle.elfobj.proofs.Common.{LinkedSection, ObjectData, Some, length, map, nat_lt, slice_get, subst, ◌<◌, ◌≡◌}
use Rattle.elfobj.proofs.Relocated.{flag_at}
use Rattle.elfobj.proofs.object.Object.has_relocations.Goals as goal

pub returns : goal.returns
returns c =
    subst (λ (o : ObjectData). c.args.section.0 < length o.sections
    → slice_get (map (λ (s : LinkedSection). nat_lt 0 (length s.relocations)) o.sections) c.args.section.0
    ≡ Some c.index.result.now) c.self.view_is
    (flag_at c.self.inside.relocations.items c.self.inside.part_spans.items _ c.self.inside.relocated.items
    c.args.section.0
    c.index.result.now c.self.invariant.read.relocations_read c.self.invariant.relocated_are c.index.ensures)
    c.requires
