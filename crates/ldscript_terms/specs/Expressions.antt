-- Expressions of a script, apart from where they lie in memory, and what a script's reader asks of them.
use Rattle.std.specs.Prelude.{ℕ, List, Bool, true, false, ◌||◌}
use Rattle.ldscript_terms.specs.declared.operator.UnaryOperator.{UnaryOperator}
use Rattle.ldscript_terms.specs.declared.operator.BinaryOperator.{BinaryOperator}
use Rattle.ldscript_terms.specs.declared.expression.RegionQuery.{RegionQuery}
use Rattle.ldscript_terms.specs.declared.expression.SectionQuery.{SectionQuery}

-- a number, `.`, a name, operators on expressions, ORIGIN(r) and LENGTH(r) of a memory region, ADDR(s), LOADADDR(s) and
-- SIZEOF(s) of an output section, ALIGN(a), ALIGN(a, b)
pub data Expr : Type 0 where
  Number : (value : ℕ) → Expr
  Dot : Expr
  Name : (name : List ℕ) → Expr
  Unary : (operator : UnaryOperator) → (a : Expr) → Expr
  Binary : (operator : BinaryOperator) → (a b : Expr) → Expr
  Choice : (test a b : Expr) → Expr
  OfRegion : (query : RegionQuery) → (name : List ℕ) → Expr
  OfSection : (query : SectionQuery) → (name : List ℕ) → Expr
  AlignDot : (a : Expr) → Expr
  Align : (a b : Expr) → Expr

-- the token `.` is in it
abbrev pub has_dot : Expr → Bool
has_dot (Number value) = false
has_dot Dot = true
has_dot (Name name) = false
has_dot (Unary operator a) = has_dot a
has_dot (Binary operator a b) = has_dot a || has_dot b
has_dot (Choice test a b) = has_dot test || has_dot a || has_dot b
has_dot (OfRegion query name) = false
has_dot (OfSection query name) = false
has_dot (AlignDot a) = has_dot a
has_dot (Align a b) = has_dot a || has_dot b

-- an ALIGN of one argument is in it
abbrev pub has_align_dot : Expr → Bool
has_align_dot (Number value) = false
has_align_dot Dot = false
has_align_dot (Name name) = false
has_align_dot (Unary operator a) = has_align_dot a
has_align_dot (Binary operator a b) = has_align_dot a || has_align_dot b
has_align_dot (Choice test a b) = has_align_dot test || has_align_dot a || has_align_dot b
has_align_dot (OfRegion query name) = false
has_align_dot (OfSection query name) = false
has_align_dot (AlignDot a) = true
has_align_dot (Align a b) = has_align_dot a || has_align_dot b

-- an ALIGN of one or two arguments is in it
abbrev pub has_align : Expr → Bool
has_align (Number value) = false
has_align Dot = false
has_align (Name name) = false
has_align (Unary operator a) = has_align a
has_align (Binary operator a b) = has_align a || has_align b
has_align (Choice test a b) = has_align test || has_align a || has_align b
has_align (OfRegion query name) = false
has_align (OfSection query name) = false
has_align (AlignDot a) = true
has_align (Align a b) = true
