-- The value of an expression (GNU ld manual, "Expressions in Linker Scripts": numbers are unsigned, and operators are
-- those of C with C's precedence). Here every number is below 2^64, arithmetic is modulo 2^64, and no number is
-- relative to a section.
use Rattle.std.specs.Prelude.{ℕ, ◌-◌, ◌*◌, ◌/◌, ◌%◌, ◌^◌, List, Option, Some, None, Result, Ok, Err, Bool, false, not}
use Rattle.std.specs.Prelude.{nat_lt, nat_le, ◌==◌, bit_and, bit_or, if◌then◌else◌}
use Rattle.std.specs.Option.{option_map}
use Rattle.std.specs.Int.{is_power_of_two, next_multiple_of}
use Rattle.ldscript.specs.terms.Expressions as expression
use Rattle.ldscript.specs.terms.Expressions.{Expr}
use Rattle.ldscript.specs.terms.declared.operator.UnaryOperator.{UnaryOperator}
use Rattle.ldscript.specs.terms.declared.operator.UnaryOperator.TheVariants as unary
use Rattle.ldscript.specs.terms.declared.operator.BinaryOperator.{BinaryOperator}
use Rattle.ldscript.specs.terms.declared.operator.BinaryOperator.TheVariants as binary
use Rattle.ldscript.specs.terms.declared.expression.RegionQuery.{RegionQuery}
use Rattle.ldscript.specs.terms.declared.expression.RegionQuery.TheVariants as region
use Rattle.ldscript.specs.terms.declared.expression.SectionQuery.{SectionQuery}
use Rattle.ldscript.specs.terms.declared.expression.SectionQuery.TheVariants as section
use Rattle.ldmodel.specs.Chain.{and_then}
use Rattle.ldmodel.specs.Arithmetic.{plus_modulo, minus_modulo}

-- ADDR, LOADADDR and SIZEOF of an output section
pub record SectionNumbers : Type 0 where
  pub start : ℕ
  pub load : ℕ
  pub size : ℕ

-- ORIGIN and LENGTH of a memory region
pub record RegionNumbers : Type 0 where
  pub origin : ℕ
  pub extent : ℕ

-- what an expression may name where it stands: symbols, output sections and regions, by their names
pub record Scope : Type 0 where
  pub symbol : List ℕ → Option ℕ
  pub section : List ℕ → Option SectionNumbers
  pub region : List ℕ → Option RegionNumbers

-- a name that is not in scope; or a division by 0 or an ALIGN to no power of two
pub data ValueFault : Type 0 where
  NotReady : (name : List ℕ) → ValueFault
  NoValue : ValueFault

-- the number of a name in scope
abbrev pub named : List ℕ → Option ℕ → Result ℕ ValueFault
named name (Some x) = Ok x
named name None = Err (NotReady name)

abbrev pub asked_of_region : RegionQuery → RegionNumbers → ℕ
asked_of_region region.Origin numbers = numbers.origin
asked_of_region region.Length numbers = numbers.extent

abbrev pub asked_of_section : SectionQuery → SectionNumbers → ℕ
asked_of_section section.Address numbers = numbers.start
asked_of_section section.LoadAddress numbers = numbers.load
asked_of_section section.Size numbers = numbers.size

-- 1 where it holds, else 0
abbrev pub truth : Bool → ℕ
truth b = if b then 1 else 0

-- anything but 0 counts as true
abbrev pub is_true : ℕ → Bool
is_true x = not (x == 0)

abbrev pub unary_value : UnaryOperator → ℕ → ℕ
unary_value unary.Not x = truth (x == 0)
unary_value unary.Negate x = minus_modulo 0 x
unary_value unary.Complement x = 2 ^ 64 - 1 - x

-- where the divisor is 0 there is no value
abbrev pub divided : (ℕ → ℕ → ℕ) → ℕ → ℕ → Result ℕ ValueFault
divided by x y = if y == 0 then Err NoValue else Ok (by x y)

-- of both operands; `&&` and `||` do not always ask for the second (`value`)
abbrev pub binary_value : BinaryOperator → ℕ → ℕ → Result ℕ ValueFault
binary_value binary.Multiply x y = Ok ((x * y) % 2 ^ 64)
binary_value binary.Divide x y = divided ◌/◌ x y
binary_value binary.Remainder x y = divided ◌%◌ x y
binary_value binary.Add x y = Ok (plus_modulo x y)
binary_value binary.Subtract x y = Ok (minus_modulo x y)
binary_value binary.ShiftLeft x y = Ok (if nat_lt y 64 then (x * 2 ^ y) % 2 ^ 64 else 0)
binary_value binary.ShiftRight x y = Ok (if nat_lt y 64 then x / 2 ^ y else 0)
binary_value binary.Less x y = Ok (truth (nat_lt x y))
binary_value binary.LessOrEqual x y = Ok (truth (nat_le x y))
binary_value binary.Greater x y = Ok (truth (nat_lt y x))
binary_value binary.GreaterOrEqual x y = Ok (truth (nat_le y x))
binary_value binary.Equal x y = Ok (truth (x == y))
binary_value binary.NotEqual x y = Ok (truth (not (x == y)))
binary_value binary.BitAnd x y = Ok (bit_and x y)
binary_value binary.BitOr x y = Ok (bit_or x y)
binary_value binary.And x y = Ok (if is_true x then truth (is_true y) else 0)
binary_value binary.Or x y = Ok (if is_true x then 1 else truth (is_true y))

-- the first operand alone gives the value, as in C: `0 && e` and `1 || e` do not evaluate e. No other operator has that
abbrev pub decides_alone : BinaryOperator → ℕ → Bool
decides_alone binary.And x = x == 0
decides_alone binary.Or x = is_true x
decides_alone _ x = false

-- ALIGN(x, a): the least multiple of a not below x, modulo 2^64; a is a power of two
abbrev pub aligned : ℕ → ℕ → Result ℕ ValueFault
aligned x a = if is_power_of_two a then Ok (next_multiple_of x a % 2 ^ 64) else Err NoValue

-- the value of an expression with `.` at a number; operands are evaluated from left to right
unfoldable pub value : Scope → ℕ → Expr → Result ℕ ValueFault
value scope dot (expression.Number number) = Ok number
value scope dot expression.Dot = Ok dot
value scope dot (expression.Name name) = named name (scope.symbol name)
value scope dot (expression.Unary operator a) = and_then (value scope dot a) (λ x. Ok (unary_value operator x))
value scope dot (expression.Binary operator a b) =
    and_then (value scope dot a) (λ x.
    if decides_alone operator x then binary_value operator x 0
    else and_then (value scope dot b) (λ y. binary_value operator x y))
value scope dot (expression.Choice test a b) =
    and_then (value scope dot test) (λ x. if is_true x then value scope dot a else value scope dot b)
value scope dot (expression.OfRegion query name) = named name (option_map (asked_of_region query) (scope.region name))
value scope dot (expression.OfSection query name) =
    named name (option_map (asked_of_section query) (scope.section name))
value scope dot (expression.AlignDot a) = and_then (value scope dot a) (λ x. aligned dot x)
value scope dot (expression.Align a b) =
    and_then (value scope dot a) (λ x. and_then (value scope dot b) (λ y. aligned x y))
