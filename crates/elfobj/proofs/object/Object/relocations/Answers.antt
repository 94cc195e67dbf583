use Rattle.elfobj.proofs.Common.{All, HasRelocationsOfProfile, ObjectData, length, subst}
use Rattle.elfobj.proofs.RelocationLimits.{relocation_limits_of}
use Rattle.elfobj.proofs.object.Object.relocations.Goals as goal

pub returns-clause-limits : goal.returns-clause-limits
returns-clause-limits c =
    subst (λ (o : ObjectData). All (HasRelocationsOfProfile (length o.symbols)) o.sections) c.self.view_is
    (relocation_limits_of c.self.inside.bytes.items c.self.invariant.refusal)
