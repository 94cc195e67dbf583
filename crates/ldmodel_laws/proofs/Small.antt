-- The value of an expression is below 2^64.
use Rattle.ldmodel_laws.proofs.Common.{Bool, Err, Expr, List, None, Ok, Option, Result, Some, and_le_l, and_then, arith}
use Rattle.ldmodel_laws.proofs.Common.{cond, false, mod_below, nat_le, nat_lt, next_multiple_of, not, option_map, or_lt}
use Rattle.ldmodel_laws.proofs.Common.{refl, subst, true, value, ℕ, ◌%◌, ◌*◌, ◌+◌, ◌-◌, ◌/◌, ◌<◌, ◌==◌, ◌^◌, ◌≡◌}
use Rattle.std.proofs.Math.Nat.{div-le_self, mod-le}
use Rattle.std.specs.Int.{is_power_of_two}
use Rattle.ldscript.specs.terms.Expressions as expression
use Rattle.ldscript.specs.terms.declared.operator.UnaryOperator.{UnaryOperator}
use Rattle.ldscript.specs.terms.declared.operator.UnaryOperator.TheVariants as unary
use Rattle.ldscript.specs.terms.declared.operator.BinaryOperator.{BinaryOperator}
use Rattle.ldscript.specs.terms.declared.operator.BinaryOperator.TheVariants as binary
use Rattle.ldscript.specs.terms.declared.expression.RegionQuery.{RegionQuery}
use Rattle.ldscript.specs.terms.declared.expression.RegionQuery.TheVariants as region
use Rattle.ldscript.specs.terms.declared.expression.SectionQuery.{SectionQuery}
use Rattle.ldscript.specs.terms.declared.expression.SectionQuery.TheVariants as section
use Rattle.ldmodel.specs.Value.{Scope, SectionNumbers, RegionNumbers, ValueFault, NotReady, NoValue, named, truth}
use Rattle.ldmodel.specs.Value.{is_true, unary_value, binary_value, decides_alone, divided, aligned, asked_of_region}
use Rattle.ldmodel.specs.Value.{asked_of_section}
use Rattle.ldmodel_laws.specs.Bounds.{HasSmallNumbers, IsSmallScope, AreSmallSectionNumbers, AreSmallRegionNumbers}

abbrev Small : ℕ → Type 0
Small x = x < 2 ^ 64

-- what a result holds is small
abbrev AllSmall : Result ℕ ValueFault → Type 0
AllSmall r = (x : ℕ) → r ≡ Ok x → Small x

of_value : (x : ℕ) → Small x → AllSmall (Ok x)
of_value x h y e = let same : x ≡ y = cc in subst Small same h

of_fault : (f : ValueFault) → AllSmall (Err f)
of_fault f y e = absurd (let none : ⊥ = cc in none)

-- what comes of a small number is small
of_both : (r : Result ℕ ValueFault) (go : ℕ → Result ℕ ValueFault) → AllSmall r → ((x : ℕ) → Small x → AllSmall (go x))
    → AllSmall (and_then r go)
of_both (Ok x) go h k = k x (h x refl)
of_both (Err f) go h k = of_fault f

modulo : (x : ℕ) → Small (x % 2 ^ 64)
modulo x = mod_below x (2 ^ 64) (omega arith)

of_truth : (b : Bool) → Small (truth b)
of_truth true = omega arith
of_truth false = omega arith

of_unary : (o : UnaryOperator) (x : ℕ) → Small (unary_value o x)
of_unary unary.Not x = of_truth (x == 0)
of_unary unary.Negate x = modulo (0 + (2 ^ 64 - x))
of_unary unary.Complement x = omega arith

of_quotient : (x y : ℕ) → Small x → AllSmall (divided ◌/◌ x y)
of_quotient x y h = go (y == 0)
  where
    go : (b : Bool) → AllSmall (cond b (Err NoValue) (Ok (x / y)))
    go true = of_fault NoValue
    go false = of_value (x / y) (omega (arith, div-le_self x y, h))

of_remainder : (x y : ℕ) → Small x → AllSmall (divided ◌%◌ x y)
of_remainder x y h = go (y == 0)
  where
    go : (b : Bool) → AllSmall (cond b (Err NoValue) (Ok (x % y)))
    go true = of_fault NoValue
    go false = of_value (x % y) (omega (arith, mod-le x y, h))

of_shift : (b : Bool) (x : ℕ) → Small x → Small (cond b x 0)
of_shift true x h = h
of_shift false x h = omega arith

of_and : (b : Bool) (y : ℕ) → Small (cond b (truth (is_true y)) 0)
of_and true y = of_truth (is_true y)
of_and false y = omega arith

of_or : (b : Bool) (y : ℕ) → Small (cond b 1 (truth (is_true y)))
of_or true y = omega arith
of_or false y = of_truth (is_true y)

of_binary : (o : BinaryOperator) (x y : ℕ) → Small x → Small y → AllSmall (binary_value o x y)
of_binary binary.Multiply x y h k = of_value _ (modulo (x * y))
of_binary binary.Divide x y h k = of_quotient x y h
of_binary binary.Remainder x y h k = of_remainder x y h
of_binary binary.Add x y h k = of_value _ (modulo (x + y))
of_binary binary.Subtract x y h k = of_value _ (modulo (x + (2 ^ 64 - y)))
of_binary binary.ShiftLeft x y h k = of_value _ (of_shift (nat_lt y 64) ((x * 2 ^ y) % 2 ^ 64) (modulo (x * 2 ^ y)))
of_binary binary.ShiftRight x y h k =
    of_value _ (of_shift (nat_lt y 64) (x / 2 ^ y) (omega (arith, div-le_self x (2 ^ y), h)))
of_binary binary.Less x y h k = of_value _ (of_truth (nat_lt x y))
of_binary binary.LessOrEqual x y h k = of_value _ (of_truth (nat_le x y))
of_binary binary.Greater x y h k = of_value _ (of_truth (nat_lt y x))
of_binary binary.GreaterOrEqual x y h k = of_value _ (of_truth (nat_le y x))
of_binary binary.Equal x y h k = of_value _ (of_truth (x == y))
of_binary binary.NotEqual x y h k = of_value _ (of_truth (not (x == y)))
of_binary binary.BitAnd x y h k = of_value _ (omega (arith, and_le_l x y, h))
of_binary binary.BitOr x y h k = of_value _ (or_lt 64 x y h k)
of_binary binary.And x y h k = of_value _ (of_and (is_true x) y)
of_binary binary.Or x y h k = of_value _ (of_or (is_true x) y)

-- of the first operand alone, or of both
of_second : (o : BinaryOperator) (x : ℕ) (r : Result ℕ ValueFault) → Small x → AllSmall r → (alone : Bool)
    → AllSmall (cond alone (binary_value o x 0) (and_then r (λ y. binary_value o x y)))
of_second o x r k h true = of_binary o x 0 k (omega arith)
of_second o x r k h false = of_both r _ h (λ y l. of_binary o x y k l)

of_choice : (r s : Result ℕ ValueFault) → AllSmall r → AllSmall s → (b : Bool) → AllSmall (cond b r s)
of_choice r s h k true = h
of_choice r s h k false = k

of_aligned : (x a : ℕ) → AllSmall (aligned x a)
of_aligned x a = go (is_power_of_two a)
  where
    go : (b : Bool) → AllSmall (cond b (Ok (next_multiple_of x a % 2 ^ 64)) (Err NoValue))
    go true = of_value _ (modulo (next_multiple_of x a))
    go false = of_fault NoValue

of_named : (name : List ℕ) (o : Option ℕ) → ((x : ℕ) → o ≡ Some x → Small x) → AllSmall (named name o)
of_named name (Some x) h = of_value x (h x refl)
of_named name None h = of_fault (NotReady name)

region_asked : (q : RegionQuery) (r : RegionNumbers) → AreSmallRegionNumbers r → Small (asked_of_region q r)
region_asked region.Origin r h = h.origin
region_asked region.Length r h = h.extent

section_asked : (q : SectionQuery) (r : SectionNumbers) → AreSmallSectionNumbers r → Small (asked_of_section q r)
section_asked section.Address r h = h.start
section_asked section.LoadAddress r h = h.load
section_asked section.Size r h = h.size

of_asked : {X : Type 0} (ask : X → ℕ) (o : Option X) → ((r : X) → o ≡ Some r → Small (ask r)) → (x : ℕ)
    → option_map ask o ≡ Some x → Small x
of_asked ask None h x e = absurd (let none : ⊥ = cc in none)
of_asked ask (Some r) h x e = let same : ask r ≡ x = cc in subst Small same (h r refl)

module _ (s : Scope) (dot : ℕ) (in_scope : IsSmallScope s) (at : Small dot) where
  small : (e : Expr) → HasSmallNumbers e → AllSmall (value s dot e)
  unfolding value
  small (expression.Number n) h = of_value n h
  small expression.Dot h = of_value dot at
  small (expression.Name n) h = of_named n (s.symbol n) (in_scope.symbols n)
  small (expression.Unary o a) h = of_both (value s dot a) _ (small a h) (λ x k. of_value _ (of_unary o x))
  small (expression.Binary o a b) h =
      of_both (value s dot a) _ (small a h.0) (λ x k. of_second o x (value s dot b) k (small b h.1) (decides_alone o x))
  small (expression.Choice t a b) h =
      of_both (value s dot t) _ (small t h.0) (λ x k.
      of_choice (value s dot a) (value s dot b) (small a h.1) (small b h.2) (is_true x))
  small (expression.OfRegion q n) h =
      of_named n _ (of_asked (asked_of_region q) (s.region n) (λ r e. region_asked q r (in_scope.regions n r e)))
  small (expression.OfSection q n) h =
      of_named n _ (of_asked (asked_of_section q) (s.section n) (λ r e. section_asked q r (in_scope.sections n r e)))
  small (expression.AlignDot a) h = of_both (value s dot a) _ (small a h) (λ x k. of_aligned dot x)
  small (expression.Align a b) h =
      of_both (value s dot a) _ (small a h.0) (λ x k. of_both (value s dot b) _ (small b h.1) (λ y l. of_aligned x y))

pub value_is_small : (s : Scope) (dot : ℕ) (e : Expr) (x : ℕ) → IsSmallScope s → dot < 2 ^ 64 → HasSmallNumbers e
    → value s dot e ≡ Ok x → x < 2 ^ 64
value_is_small s dot e x in_scope at h is = small s dot in_scope at e h x is
