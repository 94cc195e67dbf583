use Rattle.emit.proofs.Common.{All, IsRead, NamedObject, shown_inputs, take}
use Rattle.emit.proofs.objects_read.objects_are_read.Given as goal

-- the objects before this one were read
abbrev pub invariant-loop-input : goal.invariant-loop-input
invariant-loop-input l = All (λ (o : NamedObject). IsRead o.object) (take l.input-index (shown_inputs l.inputs))
