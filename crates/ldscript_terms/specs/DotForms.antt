-- What `.` may be set to in an output section, beside `. += e` (GNU ld manual, "The Location Counter").
use Rattle.std.specs.Prelude.{Option, Some, None, ◌||◌, if◌then◌else◌}
use Rattle.ldscript_terms.specs.declared.operator.BinaryOperator.TheVariants.{Add}
use Rattle.ldscript_terms.specs.Expressions.{Expr, Dot, Binary, AlignDot, has_dot, has_align}

-- `.` goes on by e; `.` is aligned to e; `.` is the section's start and e
pub data DotForm : Type 0 where
  Advance : (expression : Expr) → DotForm
  Align : (expression : Expr) → DotForm
  Offset : (expression : Expr) → DotForm

-- `. + e`; `ALIGN(e)` where `.` is not in e; an expression with neither `.` nor ALIGN
abbrev pub dot_form : Expr → Option DotForm
dot_form (Binary Add Dot expression) = Some (Advance expression)
dot_form (AlignDot expression) = if has_dot expression then None else Some (Align expression)
dot_form expression = if has_dot expression || has_align expression then None else Some (Offset expression)
