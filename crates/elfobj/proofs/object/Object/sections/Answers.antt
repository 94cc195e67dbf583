use Rattle.elfobj.proofs.Common.{All, AllPairs, IsSectionOfProfile, ObjectData, subst, sym, ◌∙◌}
use Rattle.elfobj.proofs.Ascending.{IsBefore, ascending}
use Rattle.elfobj.proofs.Limits.{limits}
use Rattle.elfobj.proofs.object.Object.sections.Goals as goal

pub returns-clause-limits : goal.returns-clause-limits
returns-clause-limits c = subst (λ (o : ObjectData). All IsSectionOfProfile o.sections) c.self.view_is
    (limits c.self.inside.bytes.items c.self.invariant.refusal)

pub returns-clause-ascending : goal.returns-clause-ascending
returns-clause-ascending c = subst (AllPairs IsBefore)
    (sym (c.deref.ensures.value ∙ c.self.invariant.read.sections_read.sections)) (ascending c.self.inside.bytes.items)
