-- The operators of an expression: the marks that spell them, and how tightly they bind, as in C.
use Rattle.std.specs.Prelude.{ℕ, Option, Some, None}
use Rattle.ldscript_tokens.specs.declared.token.Mark.{Mark}
use Rattle.ldscript_tokens.specs.declared.token.Mark.TheVariants as mark
use Rattle.ldscript_terms.specs.declared.operator.UnaryOperator.{UnaryOperator}
use Rattle.ldscript_terms.specs.declared.operator.UnaryOperator.TheVariants.{Not, Negate, Complement}
use Rattle.ldscript_terms.specs.declared.operator.BinaryOperator.{BinaryOperator}
use Rattle.ldscript_terms.specs.declared.operator.BinaryOperator.TheVariants.{Multiply, Divide, Remainder, Add}
use Rattle.ldscript_terms.specs.declared.operator.BinaryOperator.TheVariants.{Subtract}
use Rattle.ldscript_terms.specs.declared.operator.BinaryOperator.TheVariants.{ShiftLeft, ShiftRight, Less, LessOrEqual}
use Rattle.ldscript_terms.specs.declared.operator.BinaryOperator.TheVariants.{Greater, GreaterOrEqual, Equal, NotEqual}
use Rattle.ldscript_terms.specs.declared.operator.BinaryOperator.TheVariants.{BitAnd}
use Rattle.ldscript_terms.specs.declared.operator.BinaryOperator.TheVariants.{BitOr, And, Or}

-- before an operand: ! - ~
abbrev pub unary_of : Mark → Option UnaryOperator
unary_of mark.Not = Some Not
unary_of mark.Minus = Some Negate
unary_of mark.Complement = Some Complement
unary_of _ = None

-- between operands
abbrev pub binary_of : Mark → Option BinaryOperator
binary_of mark.Star = Some Multiply
binary_of mark.Slash = Some Divide
binary_of mark.Percent = Some Remainder
binary_of mark.Plus = Some Add
binary_of mark.Minus = Some Subtract
binary_of mark.ShiftLeft = Some ShiftLeft
binary_of mark.ShiftRight = Some ShiftRight
binary_of mark.Less = Some Less
binary_of mark.LessOrEqual = Some LessOrEqual
binary_of mark.Greater = Some Greater
binary_of mark.GreaterOrEqual = Some GreaterOrEqual
binary_of mark.Equal = Some Equal
binary_of mark.NotEqual = Some NotEqual
binary_of mark.And = Some BitAnd
binary_of mark.Or = Some BitOr
binary_of mark.AndAnd = Some And
binary_of mark.OrOr = Some Or
binary_of _ = None

-- the levels, tightest first: * / %, + -, << >>, < <= > >=, == !=, &, |, &&, ||
abbrev pub level_of : BinaryOperator → ℕ
level_of Multiply = 1
level_of Divide = 1
level_of Remainder = 1
level_of Add = 2
level_of Subtract = 2
level_of ShiftLeft = 3
level_of ShiftRight = 3
level_of Less = 4
level_of LessOrEqual = 4
level_of Greater = 4
level_of GreaterOrEqual = 4
level_of Equal = 5
level_of NotEqual = 5
level_of BitAnd = 6
level_of BitOr = 7
level_of And = 8
level_of Or = 9
