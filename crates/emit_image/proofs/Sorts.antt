-- What a sort by a closure says.
use Rattle.emit_image.proofs.Common.{Bool, Bor, Err, IsOrdered, IsStrictWeakOrder, List, Ok, OnOk, Result}
use Rattle.std.specs.List.Sorted.{IsSortedByClosure, IsStableByClosure}
use Rattle.std.specs.Fn.{ComparesAs}
use Rattle.std.specs.declared.cmp.Ordering.{Ordering}
use denote.Param.Members.{Mut}

-- a list that was sorted, where the closure compares by lt
pub ordered_by : {F X : Type 0} {g : Mut F (Bor X × (Bor X × Unit {0})) Ordering} {f : F} {T E : Type 0}
    (r : Result T E) (lt : X → X → Bool) (xs ys : List X)
    → IsStrictWeakOrder lt → ComparesAs g lt f → OnOk r (IsSortedByClosure g f ys) → IsStableByClosure g f xs ys
    → OnOk r (IsOrdered lt xs ys)
ordered_by (Ok x) lt xs ys o k s t = record { sorted = s lt o k; stable = t lt o k }
ordered_by (Err e) lt xs ys o k s t = tt
