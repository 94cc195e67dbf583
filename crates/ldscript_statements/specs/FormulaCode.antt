-- Expressions one part behind the other, operands first: a proof tells formulas apart by this.
use Rattle.std.specs.Prelude.{◌≡◌, ℕ, List, [], ◌∷◌, ◌++◌, refl}
use Rattle.std.proofs.Common.{ap, ◌∙◌, append_assoc}
use Rattle.ldscript_terms.specs.declared.operator.UnaryOperator.{UnaryOperator}
use Rattle.ldscript_terms.specs.declared.operator.BinaryOperator.{BinaryOperator}
use Rattle.ldscript_terms.specs.declared.expression.RegionQuery.{RegionQuery}
use Rattle.ldscript_terms.specs.declared.expression.SectionQuery.{SectionQuery}
use Rattle.ldscript_terms.specs.Expressions.{Expr, Number, Dot, Name, Unary, Binary, Choice, OfRegion, OfSection}
use Rattle.ldscript_terms.specs.Expressions.{AlignDot}
use Rattle.ldscript_terms.specs.Expressions.{Align}

pub data Instruction : Type 0 where
  PushNumber : (value : ℕ) → Instruction
  PushDot : Instruction
  PushName : (name : List ℕ) → Instruction
  MakeUnary : (operator : UnaryOperator) → Instruction
  MakeBinary : (operator : BinaryOperator) → Instruction
  MakeChoice : Instruction
  PushOfRegion : (query : RegionQuery) → (name : List ℕ) → Instruction
  PushOfSection : (query : SectionQuery) → (name : List ℕ) → Instruction
  MakeAlignDot : Instruction
  MakeAlign : Instruction

abbrev pub operands_first : Expr → List Instruction
operands_first (Number v) = PushNumber v ∷ []
operands_first Dot = PushDot ∷ []
operands_first (Name n) = PushName n ∷ []
operands_first (Unary o a) = operands_first a ++ MakeUnary o ∷ []
operands_first (Binary o a b) = operands_first a ++ (operands_first b ++ MakeBinary o ∷ [])
operands_first (Choice t a b) = operands_first t ++ (operands_first a ++ (operands_first b ++ MakeChoice ∷ []))
operands_first (OfRegion q n) = PushOfRegion q n ∷ []
operands_first (OfSection q n) = PushOfSection q n ∷ []
operands_first (AlignDot a) = operands_first a ++ MakeAlignDot ∷ []
operands_first (Align a b) = operands_first a ++ (operands_first b ++ MakeAlign ∷ [])

abbrev pub step : Instruction → List Expr → List Expr
step (PushNumber v) s = Number v ∷ s
step PushDot s = Dot ∷ s
step (PushName n) s = Name n ∷ s
step (PushOfRegion q n) s = OfRegion q n ∷ s
step (PushOfSection q n) s = OfSection q n ∷ s
step (MakeUnary o) (a ∷ s) = Unary o a ∷ s
step (MakeBinary o) (b ∷ a ∷ s) = Binary o a b ∷ s
step MakeChoice (b ∷ a ∷ t ∷ s) = Choice t a b ∷ s
step MakeAlignDot (a ∷ s) = AlignDot a ∷ s
step MakeAlign (b ∷ a ∷ s) = Align a b ∷ s
step _ s = s

abbrev pub run : List Instruction → List Expr → List Expr
run [] s = s
run (i ∷ is) s = run is (step i s)

abbrev pub last_made : List Expr → Expr
last_made [] = Dot
last_made (e ∷ s) = e

abbrev pub to_instructions : Expr → List Instruction
to_instructions e = operands_first e ++ []

abbrev pub from_instructions : List Instruction → Expr
from_instructions is = last_made (run is [])

one_operand : (a e : Expr) (i : Instruction) (is : List Instruction) (s : List Expr) → step i (a ∷ s) ≡ e ∷ s
    → ((js : List Instruction) (r : List Expr) → run (operands_first a ++ js) r ≡ run js (a ∷ r))
    → run ((operands_first a ++ i ∷ []) ++ is) s ≡ run is (e ∷ s)
one_operand a e i is s h ra = ap (λ l. run l s) (append_assoc (operands_first a) (i ∷ []) is) ∙ ra (i ∷ is) s
    ∙ ap (run is) h

two_operands : (a b e : Expr) (i : Instruction) (is : List Instruction) (s : List Expr) → step i (b ∷ a ∷ s) ≡ e ∷ s
    → ((js : List Instruction) (r : List Expr) → run (operands_first a ++ js) r ≡ run js (a ∷ r))
    → ((js : List Instruction) (r : List Expr) → run (operands_first b ++ js) r ≡ run js (b ∷ r))
    → run ((operands_first a ++ (operands_first b ++ i ∷ [])) ++ is) s ≡ run is (e ∷ s)
two_operands a b e i is s h ra rb =
    ap (λ l. run l s) (append_assoc (operands_first a) (operands_first b ++ i ∷ []) is)
    ∙ ra ((operands_first b ++ i ∷ []) ++ is) s
    ∙ ap (λ l. run l (a ∷ s)) (append_assoc (operands_first b) (i ∷ []) is) ∙ rb (i ∷ is) (a ∷ s) ∙ ap (run is) h

runs_first : (e : Expr) (is : List Instruction) (s : List Expr) → run (operands_first e ++ is) s ≡ run is (e ∷ s)
runs_first (Number v) is s = refl
runs_first Dot is s = refl
runs_first (Name n) is s = refl
runs_first (Unary o a) is s = one_operand a (Unary o a) (MakeUnary o) is s refl (runs_first a)
runs_first (Binary o a b) is s = two_operands a b (Binary o a b) (MakeBinary o) is s refl (runs_first a) (runs_first b)
runs_first (Choice t a b) is s =
    ap (λ l. run l s) (append_assoc (operands_first t) (operands_first a ++ (operands_first b ++ MakeChoice ∷ [])) is)
    ∙ runs_first t ((operands_first a ++ (operands_first b ++ MakeChoice ∷ [])) ++ is) s
    ∙ ap (λ l. run l (t ∷ s)) (append_assoc (operands_first a) (operands_first b ++ MakeChoice ∷ []) is)
    ∙ runs_first a ((operands_first b ++ MakeChoice ∷ []) ++ is) (t ∷ s)
    ∙ ap (λ l. run l (a ∷ t ∷ s)) (append_assoc (operands_first b) (MakeChoice ∷ []) is)
    ∙ runs_first b (MakeChoice ∷ is) (a ∷ t ∷ s)
runs_first (OfRegion q n) is s = refl
runs_first (OfSection q n) is s = refl
runs_first (AlignDot a) is s = one_operand a (AlignDot a) MakeAlignDot is s refl (runs_first a)
runs_first (Align a b) is s = two_operands a b (Align a b) MakeAlign is s refl (runs_first a) (runs_first b)

pub from_to : (e : Expr) → from_instructions (to_instructions e) ≡ e
from_to e = ap last_made (runs_first e [] [])
