-- Where a part of an object comes among all.
use Rattle.std.specs.Prelude.{ℕ, Bool, true, false}
use Rattle.std.specs.Ordering.{bool_cmp, is_eq, nat_cmp, ordering_then}
use Rattle.std.specs.declared.cmp.Ordering.{Ordering}
use Rattle.ldmodel.specs.declared.sections.Part.{Part}
use Rattle.ldmodel.specs.declared.sections.Part.TheVariants.{InTable, InCommon}

-- by the number of the object, then sections before common blocks, then by the number of the part
abbrev pub rank_of : ℕ → Part → ℕ × Bool × ℕ
rank_of object (InTable k) = (object, false, k.0)
rank_of object (InCommon x) = (object, true, x.0)

abbrev pub rank_cmp : ℕ × Bool × ℕ → ℕ × Bool × ℕ → Ordering
rank_cmp x y = ordering_then (ordering_then (nat_cmp x.0 y.0) (bool_cmp x.1 y.1)) (nat_cmp x.2 y.2)

abbrev pub rank_self : ℕ × Bool × ℕ → ℕ × Bool × ℕ
rank_self r = r

abbrev pub is_ranked : ℕ × Bool × ℕ → ℕ × Bool × ℕ → Bool
is_ranked sought r = is_eq (rank_cmp r sought)
