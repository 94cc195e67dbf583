-- Numbers below 2^64, as those of addresses are: in an expression, and in what it may name.
use Rattle.std.specs.Prelude.{◌≡◌, ℕ, ◌^◌, ◌<◌, List, Some}
use Rattle.ldscript.specs.terms.Expressions as expression
use Rattle.ldscript.specs.terms.Expressions.{Expr}
use Rattle.ldmodel.specs.Value.{Scope, SectionNumbers, RegionNumbers}

-- the numbers of an expression, as every text spells them
abbrev pub HasSmallNumbers : Expr → Type 0
HasSmallNumbers (expression.Number n) = n < 2 ^ 64
HasSmallNumbers expression.Dot = Unit {0}
HasSmallNumbers (expression.Name n) = Unit {0}
HasSmallNumbers (expression.Unary o a) = HasSmallNumbers a
HasSmallNumbers (expression.Binary o a b) = HasSmallNumbers a × HasSmallNumbers b
HasSmallNumbers (expression.Choice t a b) = HasSmallNumbers t × HasSmallNumbers a × HasSmallNumbers b
HasSmallNumbers (expression.OfRegion q n) = Unit {0}
HasSmallNumbers (expression.OfSection q n) = Unit {0}
HasSmallNumbers (expression.AlignDot a) = HasSmallNumbers a
HasSmallNumbers (expression.Align a b) = HasSmallNumbers a × HasSmallNumbers b

pub record AreSmallSectionNumbers (q : SectionNumbers) : Type 0 where
  pub start : q.start < 2 ^ 64
  pub load : q.load < 2 ^ 64
  pub size : q.size < 2 ^ 64

pub record AreSmallRegionNumbers (r : RegionNumbers) : Type 0 where
  pub origin : r.origin < 2 ^ 64
  pub extent : r.extent < 2 ^ 64

-- the numbers that a scope gives
pub record IsSmallScope (s : Scope) : Type 0 where
  pub symbols : (name : List ℕ) (x : ℕ) → s.symbol name ≡ Some x → x < 2 ^ 64
  pub sections : (name : List ℕ) (q : SectionNumbers) → s.section name ≡ Some q → AreSmallSectionNumbers q
  pub regions : (name : List ℕ) (r : RegionNumbers) → s.region name ≡ Some r → AreSmallRegionNumbers r

-- what two scopes agree on: output sections and regions have the same numbers, and so do symbols that both have
pub record DoAgree (s t : Scope) : Type 0 where
  pub symbols : (name : List ℕ) (x y : ℕ) → s.symbol name ≡ Some x → t.symbol name ≡ Some y → x ≡ y
  pub sections : (name : List ℕ) → s.section name ≡ t.section name
  pub regions : (name : List ℕ) → s.region name ≡ t.region name
