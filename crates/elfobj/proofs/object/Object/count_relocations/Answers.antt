use Rattle.elfobj.proofs.Common.{All, LinkedSection, ObjectData, arith, length, subst, ◌≤◌}
use Rattle.elfobj.proofs.Relocated.{at_most}
use Rattle.elfobj.proofs.object.Object.count_relocations.Goals as goal

pub returns : goal.returns
returns c =
    subst (λ (o : ObjectData). All (λ (s : LinkedSection). length s.relocations ≤ c.len.result) o.sections)
    c.self.view_is
    (at_most c.self.inside.relocations.items c.self.inside.part_spans.items _ c.len.result
    c.self.invariant.read.relocations_read
    (omega (arith, c.len.ensures, c.self.inside.relocations.ok.0)))
