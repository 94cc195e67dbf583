-- No edit has two outcomes.
use Rattle.ldmodel_laws.proofs.Common.{Change, Err, HasClash, IsCut, IsRefusal, IsScript, IsTree, Lexeme, List, Ok}
use Rattle.ldmodel_laws.proofs.Common.{Project, Result, ScriptRefusal, Statement, ap, arith, false, has_misplaced_dot}
use Rattle.ldmodel_laws.proofs.Common.{inl, inr, refl, subst, sym, true≢false, ℕ, ◌∙◌, ◌≡◌, ◌≢◌}
use Rattle.ldscript.specs.tokens.Limits.{IsTokens, IsTokenRefusal, IsWithinLimits, tokens_of}
use Rattle.ldscript.specs.tokens.declared.refusal.TokenRefusal.TheVariants as token
use Rattle.ldscript.specs.Grammar.{script}
use Rattle.ldscript.specs.Script.{IsNoTree, IsClashing, IsMisplacing}
use Rattle.ldscript.specs.declared.refusal.ScriptRefusal.TheVariants.{NotTokens, NotAScript, Repeated, MisplacedDot}
use Rattle.ldscript.specs.declared.refusal.ScriptRefusal.TheVariants.{Limit, NoMemory}
use Rattle.ldmodel.specs.Edits.{Add, Replace, Move, Remove, SetScript, Refusal, NotAScript, Accepts, Refuses}
use Rattle.ldmodel.specs.Edits.{RefusesObject, RefusesScript, After}
use Rattle.growth.specs.Memory.{no_memory}

abbrev pub OneCut : Type 0
OneCut = (text : List ℕ) (ls ms : List Lexeme) → IsCut text ls → IsCut text ms → ls ≡ ms

abbrev pub OneTree : Type 0
OneTree = (text : List ℕ) (s t : List Statement) → IsTree text s → IsTree text t → s ≡ t

-- it is accepted with one project or refused in one way, and never both
pub record HasOneOutcome (p : Project) (c : Change) : Type 0 where
  pub one_project : (q r : Project) → Accepts p c q → Accepts p c r → q ≡ r
  pub not_both : (q : Project) (r : Refusal) → Accepts p c q → Refuses p c r → ⊥
  pub one_refusal : (r s : Refusal) → Refuses p c r → Refuses p c s → r ≡ s

after : (p : Project) (c : Change) → HasOneOutcome p c → (x y : Result Project Refusal) → After p c x → After p c y → x
    ≡ y
after p c h (Ok q) (Ok r) x y = ap Ok (h.one_project q r x.1 y.1)
after p c h (Ok q) (Err r) x (inl y) = cc (x.0, y)
after p c h (Ok q) (Err r) x (inr y) = absurd (h.not_both q r x.1 y.1)
after p c h (Err r) (Ok q) (inl x) y = cc (x, y.0)
after p c h (Err r) (Ok q) (inr x) y = absurd (h.not_both q r y.1 x.1)
after p c h (Err r) (Err s) (inl x) (inl y) = cc
after p c h (Err r) (Err s) (inl x) (inr y) = cc (x, y.0)
after p c h (Err r) (Err s) (inr x) (inl y) = cc (x.0, y)
after p c h (Err r) (Err s) (inr x) (inr y) = ap Err (h.one_refusal r s x.1 y.1)

one_object_refusal : (bytes : List ℕ) (r s : Refusal) → RefusesObject bytes r → RefusesObject bytes s → r ≡ s
one_object_refusal bytes r s x y = cc (x.1, x.2, y.1, y.2)

of_addition : (p : Project) (name : List ℕ) (at : ℕ) (bytes : List ℕ) → HasOneOutcome p (Add name at bytes)
of_addition p name at bytes = record {
  one_project = λ q r x y. x.1 ∙ sym y.1;
  not_both = λ q r x y. cc (x.0, y.1);
  one_refusal = one_object_refusal bytes;
}

of_replacement : (p : Project) (name bytes : List ℕ) → HasOneOutcome p (Replace name bytes)
of_replacement p name bytes = record {
  one_project = λ q r x y. x.1 ∙ sym y.1;
  not_both = λ q r x y. cc (x.0, y.1);
  one_refusal = one_object_refusal bytes;
}

of_move : (p : Project) (name : List ℕ) (to : ℕ) → HasOneOutcome p (Move name to)
of_move p name to = record {
  one_project = λ q r x y. x ∙ sym y;
  not_both = λ q r x y. y;
  one_refusal = λ r s x y. absurd x;
}

of_removal : (p : Project) (name : List ℕ) → HasOneOutcome p (Remove name)
of_removal p name = record {
  one_project = λ q r x y. x ∙ sym y;
  not_both = λ q r x y. y;
  one_refusal = λ r s x y. absurd x;
}

module _ (one_cut : OneCut) (one_tree : OneTree) (text : List ℕ) where
  -- a text with tokens is none of those refused for them
  not_no_tokens : (ls : List Lexeme) → IsTokens text ls → IsTokenRefusal text token.NotAToken → ⊥
  not_no_tokens ls t x = x.1 ls t.cut

  not_past_limits : (ls : List Lexeme) → IsTokens text ls → IsTokenRefusal text token.Limit → ⊥
  not_past_limits ls t (inl long) = omega (arith, t.short, long)
  not_past_limits ls t (inr x) =
      x.past (subst (λ l. IsWithinLimits (tokens_of l)) (one_cut text ls x.lexemes t.cut x.cut) t.limits)

  no_tokens_or_limit : IsTokenRefusal text token.NotAToken → IsTokenRefusal text token.Limit → ⊥
  no_tokens_or_limit x (inl long) = omega (arith, x.0, long)
  no_tokens_or_limit x (inr y) = x.1 y.lexemes y.cut

  -- a text with a tree has one
  not_no_tree : (s : List Statement) → IsTree text s → IsNoTree text → ⊥
  not_no_tree s t x = x.none s (subst (script s) (one_cut text t.lexemes x.lexemes t.tokens.cut x.tokens.cut) t.spelled)

  not_clashing : (s : List Statement) → IsTree text s → (HasClash s → ⊥) → IsClashing text → ⊥
  not_clashing s t none x = none (subst HasClash (one_tree text x.statements s x.tree t) x.clash)

  not_misplacing : (s : List Statement) → IsTree text s → has_misplaced_dot s ≡ false → IsMisplacing text → ⊥
  not_misplacing s t none x =
      true≢false (sym x.misplaced ∙ ap has_misplaced_dot (one_tree text x.statements s x.tree t) ∙ none)

  read_not_refused : (s : List Statement) (why : ScriptRefusal) → why ≢ NoMemory no_memory
      → IsScript text s → IsRefusal text why
      → ⊥
  read_not_refused s NotTokens n x y = not_no_tokens x.tree.lexemes x.tree.tokens y
  read_not_refused s NotAScript n x y = not_no_tree s x.tree y
  read_not_refused s Repeated n x y = not_clashing s x.tree x.no_clash y
  read_not_refused s MisplacedDot n x y = not_misplacing s x.tree x.no_misplaced_dot y
  read_not_refused s Limit n x y = not_past_limits x.tree.lexemes x.tree.tokens y
  read_not_refused s (NoMemory _) n x y = n refl

  one_why : (a b : ScriptRefusal) → a ≢ NoMemory no_memory → b ≢ NoMemory no_memory → IsRefusal text a → IsRefusal
      text b → a ≡ b
  one_why NotTokens NotTokens m n x y = refl
  one_why NotTokens NotAScript m n x y = absurd (not_no_tokens y.lexemes y.tokens x)
  one_why NotTokens Repeated m n x y = absurd (not_no_tokens y.tree.lexemes y.tree.tokens x)
  one_why NotTokens MisplacedDot m n x y = absurd (not_no_tokens y.tree.lexemes y.tree.tokens x)
  one_why NotTokens Limit m n x y = absurd (no_tokens_or_limit x y)
  one_why NotTokens (NoMemory _) m n x y = absurd (n refl)
  one_why NotAScript NotTokens m n x y = absurd (not_no_tokens x.lexemes x.tokens y)
  one_why NotAScript NotAScript m n x y = refl
  one_why NotAScript Repeated m n x y = absurd (not_no_tree y.statements y.tree x)
  one_why NotAScript MisplacedDot m n x y = absurd (not_no_tree y.statements y.tree x)
  one_why NotAScript Limit m n x y = absurd (not_past_limits x.lexemes x.tokens y)
  one_why NotAScript (NoMemory _) m n x y = absurd (n refl)
  one_why Repeated NotTokens m n x y = absurd (not_no_tokens x.tree.lexemes x.tree.tokens y)
  one_why Repeated NotAScript m n x y = absurd (not_no_tree x.statements x.tree y)
  one_why Repeated Repeated m n x y = refl
  one_why Repeated MisplacedDot m n x y = absurd (not_clashing y.statements y.tree y.no_clash x)
  one_why Repeated Limit m n x y = absurd (not_past_limits x.tree.lexemes x.tree.tokens y)
  one_why Repeated (NoMemory _) m n x y = absurd (n refl)
  one_why MisplacedDot NotTokens m n x y = absurd (not_no_tokens x.tree.lexemes x.tree.tokens y)
  one_why MisplacedDot NotAScript m n x y = absurd (not_no_tree x.statements x.tree y)
  one_why MisplacedDot Repeated m n x y = absurd (not_clashing x.statements x.tree x.no_clash y)
  one_why MisplacedDot MisplacedDot m n x y = refl
  one_why MisplacedDot Limit m n x y = absurd (not_past_limits x.tree.lexemes x.tree.tokens y)
  one_why MisplacedDot (NoMemory _) m n x y = absurd (n refl)
  one_why Limit NotTokens m n x y = absurd (no_tokens_or_limit y x)
  one_why Limit NotAScript m n x y = absurd (not_past_limits y.lexemes y.tokens x)
  one_why Limit Repeated m n x y = absurd (not_past_limits y.tree.lexemes y.tree.tokens x)
  one_why Limit MisplacedDot m n x y = absurd (not_past_limits y.tree.lexemes y.tree.tokens x)
  one_why Limit Limit m n x y = refl
  one_why Limit (NoMemory _) m n x y = absurd (n refl)
  one_why (NoMemory _) b m n x y = absurd (m refl)

  one_script : (p q r : Project) → Accepts p (SetScript text) q → Accepts p (SetScript text) r → q ≡ r
  one_script p q r x y = x.2 ∙ ap (λ s. record p { script = s }) (one_tree text x.0 y.0 x.1.tree y.1.tree) ∙ sym y.2

  script_not_refused : (p q : Project) (r : Refusal) → Accepts p (SetScript text) q → RefusesScript text r → ⊥
  script_not_refused p q r x y = read_not_refused x.0 y.0 y.1 x.1 y.2

  one_script_refusal : (r s : Refusal) → RefusesScript text r → RefusesScript text s → r ≡ s
  one_script_refusal r s x y = x.3 ∙ ap NotAScript (one_why x.0 y.0 x.1 y.1 x.2 y.2) ∙ sym y.3

  of_script : (p : Project) → HasOneOutcome p (SetScript text)
  of_script p = record {
    one_project = one_script p;
    not_both = script_not_refused p;
    one_refusal = one_script_refusal;
  }

outcome : OneCut → OneTree → (p : Project) (c : Change) → HasOneOutcome p c
outcome cuts trees p (Add name at bytes) = of_addition p name at bytes
outcome cuts trees p (Replace name bytes) = of_replacement p name bytes
outcome cuts trees p (Move name to) = of_move p name to
outcome cuts trees p (Remove name) = of_removal p name
outcome cuts trees p (SetScript text) = of_script cuts trees text p

pub one_outcome : OneCut → OneTree → (p : Project) (c : Change) (x y : Result Project Refusal) → After p c x
    → After p c y → x ≡ y
one_outcome cuts trees p c = after p c (outcome cuts trees p c)
