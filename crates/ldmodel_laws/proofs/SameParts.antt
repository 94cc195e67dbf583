-- Two parts of an object that pass for the same are equal.
use Rattle.ldmodel_laws.proofs.Common.{InCommon, InTable, Part, ap, eq-eqb, eqb-true, false≢true, is_same_part, refl}
use Rattle.ldmodel_laws.proofs.Common.{true, ◌≡◌}

pub same_part : (q r : Part) → is_same_part q r ≡ true → q ≡ r
same_part (InTable k) (InTable n) e = ap (λ m. InTable (record { 0 = m })) (eqb-true k.0 n.0 e)
same_part (InTable k) (InCommon n) e = absurd (false≢true e)
same_part (InCommon k) (InTable n) e = absurd (false≢true e)
same_part (InCommon k) (InCommon n) e = ap (λ m. InCommon (record { 0 = m })) (eqb-true k.0 n.0 e)

pub own_part : (q : Part) → is_same_part q q ≡ true
own_part (InTable k) = eq-eqb k.0 k.0 refl
own_part (InCommon k) = eq-eqb k.0 k.0 refl
