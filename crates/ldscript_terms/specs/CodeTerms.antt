-- What the expressions, the settings of `.` and the parts of patterns of the code stand for (this project's own).
use Rattle.std.specs.Prelude.{ℕ, ◌≤◌, List, [], ◌∷◌, Option, Some, None, slice_range}
use Rattle.std.specs.Option.{option_map}
use Rattle.ldscript_terms.specs.DotForms.{DotForm, Advance, Align, Offset}
use Rattle.ldscript_terms.specs.Expressions as expression
use Rattle.ldscript_terms.specs.Expressions.{Expr}
use Rattle.ldscript_terms.specs.Parts.{Part, AnyRun, AnyByte, Byte, OneOf, ranges_of}
use Rattle.ldscript_terms.specs.declared.dot_forms.DotForm as dot_forms
use Rattle.ldscript_terms.specs.declared.dot_forms.DotForm.TheVariants as form
use Rattle.ldscript_terms.specs.declared.expression.Expr as tree
use Rattle.ldscript_terms.specs.declared.part.CodePart.{CodePart}
use Rattle.ldscript_terms.specs.declared.part.CodePart.TheVariants as part

-- an expression of the code
abbrev pub expr_of : tree.Expr → Expr
expr_of (tree.Number n) = expression.Number n
expr_of tree.Dot = expression.Dot
expr_of (tree.Name n) = expression.Name n
expr_of (tree.Unary' o p a) = expression.Unary o (expr_of a)
expr_of (tree.Binary' o p a q b) = expression.Binary o (expr_of a) (expr_of b)
expr_of (tree.Choice' p t a b) = expression.Choice (expr_of t) (expr_of a) (expr_of b)
expr_of (tree.OfRegion q n) = expression.OfRegion q n
expr_of (tree.OfSection q n) = expression.OfSection q n
expr_of (tree.AlignDot' p a) = expression.AlignDot (expr_of a)
expr_of (tree.Align' p a q b) = expression.Align (expr_of a) (expr_of b)

-- a form that the code lends
abbrev pub form_of : dot_forms.DotForm → DotForm
form_of (form.Advance e) = Advance (expr_of e.now)
form_of (form.Align e) = Align (expr_of e.now)
form_of (form.Offset e) = Offset (expr_of e.now)

abbrev pub maybe_form_of : Option dot_forms.DotForm → Option DotForm
maybe_form_of None = None
maybe_form_of (Some f) = Some (form_of f)

-- the part at a place of a word
abbrev pub part_of : List ℕ → CodePart → Part
part_of word part.AnyRun = AnyRun
part_of word part.AnyByte = AnyByte
part_of word (part.Byte b) = Byte b
part_of word (part.OneOf start end) = OneOf (ranges_of (slice_range word start end))

-- its bytes lie inside a word of this length
abbrev pub IsInText : ℕ → CodePart → Type 0
IsInText len part.AnyRun = Unit {0}
IsInText len part.AnyByte = Unit {0}
IsInText len (part.Byte b) = Unit {0}
IsInText len (part.OneOf start end) = (start ≤ end) × (end ≤ len)

-- it takes one byte
abbrev pub IsSingle : CodePart → Type 0
IsSingle part.AnyRun = ⊥
IsSingle part.AnyByte = Unit {0}
IsSingle (part.Byte b) = Unit {0}
IsSingle (part.OneOf start end) = Unit {0}

abbrev pub code_byte : CodePart → Option ℕ
code_byte part.AnyRun = None
code_byte part.AnyByte = None
code_byte (part.Byte b) = Some b
code_byte (part.OneOf start end) = None

-- the bytes of a pattern that has nothing else
abbrev pub exact_name : List Part → Option (List ℕ)
exact_name [] = Some []
exact_name (Byte b ∷ ps) = option_map (λ bytes. b ∷ bytes) (exact_name ps)
exact_name (_ ∷ ps) = None
