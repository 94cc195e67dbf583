use Rattle.place.proofs.Common.{Each, EachLater, InputObject, LinkedSection, false, take, ◌==◌, ◌≡◌}
use Rattle.place.proofs.numbered.are_numbered.Given as goal

-- the sections of the objects so far have different numbers
abbrev pub invariant-loop-input : goal.invariant-loop-input
invariant-loop-input l =
    Each (λ (o : InputObject).
    EachLater (λ (x y : LinkedSection). (x.number.0 == y.number.0) ≡ false) o.object.now.sections)
    (take l.input-index l.input-items)
