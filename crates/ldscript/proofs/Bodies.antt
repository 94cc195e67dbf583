-- Statements of an output section: no tokens are two of them.
use Rattle.ldscript.proofs.Common.{Add, AddAssign, Assign, BodyStatement, CloseBrace, Directive, Expr, Input, Lexeme}
use Rattle.ldscript.proofs.Common.{List, Mark, Mode, NoneAt, OpenParenthesis, Pattern, Set, ap, body_statement}
use Rattle.ldscript.proofs.Common.{bytes_eq, codes, data_part, directive, dot_command, false, if◌then◌else◌}
use Rattle.ldscript.proofs.Common.{in_parentheses, inl, inr, is_free_name, is_free_word, is_reserved, key, mark, refl}
use Rattle.ldscript.proofs.Common.{statements, subst, sym, token, true, width_part, ℕ, ◌∙◌, ◌≡◌, ◌▸◌}
use Rattle.ldscript_tokens.specs.Tokens.{Word}
use Rattle.ldscript.specs.Grammar.{width_word, input, body_command}
use Rattle.ldscript_statements.specs.declared.directive.Directive.TheVariants as directives
use Rattle.ldscript_statements.specs.declared.directive.DotCommand.{DotCommand}
use Rattle.ldscript_statements.specs.declared.section.Width.{Width}
use Rattle.ldscript_statements.specs.declared.section.Width.TheVariants.{Byte, Short, Long, Quad}
use Rattle.ldscript_statements.specs.declared.section.BodyCommand.{BodyCommand}
use Rattle.ldscript_statements.specs.declared.section.BodyCommand.TheVariants as body
use Rattle.ldscript.proofs.Singles.{Single, tokens_same, words_same, pair_single, behind_tree, keys_differ}
use Rattle.ldscript.proofs.Singles.{name_no_key, directive_single, dot_command_single, in_parentheses_single}
use Rattle.ldscript.proofs.Singles.{marks_differ}
use Rattle.ldscript.proofs.Inputs.{pattern_no_key, word_no_mark, input_single, input_no_mark, kept_cases}
use Rattle.ldscript.proofs.Inputs.{listed_to_brace}
use Rattle.ldscript.proofs.Lists.{Listed, closing_single}

-- the width that a word names
abbrev width_named : List ℕ → Width
width_named w = if bytes_eq w (codes "BYTE") then Byte
    else (if bytes_eq w (codes "SHORT") then Short else (if bytes_eq w (codes "LONG") then Long else Quad))

width_back : (w : Width) → width_named (width_word w) ≡ w
width_back Byte = refl
width_back Short = refl
width_back Long = refl
width_back Quad = refl

pub width_single : Single width_part
width_single ts r s a b x y =
    let e = words_same Pattern (width_word a) (width_word b) ts r s x y in
    (sym (width_back a) ∙ ap width_named e.0 ∙ width_back b, e.1)

-- what the language keeps
width_no_name : (w : Width) → is_free_name (width_word w) ≡ false
unfolding is_free_name is_reserved
width_no_name Byte = refl
width_no_name Short = refl
width_no_name Long = refl
width_no_name Quad = refl

width_no_word : (w : Width) → is_free_word (width_word w) ≡ false
unfolding is_free_word is_reserved
width_no_word Byte = refl
width_no_word Short = refl
width_no_word Long = refl
width_no_word Quad = refl

pub dot_no_name : is_free_name (codes ".") ≡ false
unfolding is_free_name is_reserved
dot_no_name = refl

provide_no_word : is_free_word (codes "PROVIDE") ≡ false
unfolding is_free_word is_reserved
provide_no_word = refl

assert_no_word : is_free_word (codes "ASSERT") ≡ false
unfolding is_free_word is_reserved
assert_no_word = refl

keep_no_name : is_free_name (codes "KEEP") ≡ false
unfolding is_free_name is_reserved
keep_no_name = refl

width_no_key : (w : Width) (v : List ℕ)
    → (bytes_eq (codes "BYTE") v ≡ false) × (bytes_eq (codes "SHORT") v ≡ false) × (bytes_eq (codes "LONG") v ≡ false)
    × (bytes_eq (codes "QUAD") v ≡ false)
    → (ts r s : List Lexeme) → key Pattern (width_word w) ts r → key Pattern v ts s → ⊥
width_no_key Byte v d ts r s x y = keys_differ Pattern (codes "BYTE") v refl d.0 ts r s x y
width_no_key Short v d ts r s x y = keys_differ Pattern (codes "SHORT") v refl d.1 ts r s x y
width_no_key Long v d ts r s x y = keys_differ Pattern (codes "LONG") v refl d.2 ts r s x y
width_no_key Quad v d ts r s x y = keys_differ Pattern (codes "QUAD") v refl d.3 ts r s x y

-- a word that no pattern has, and not KEEP, begins no input statement
key_no_input : (v : List ℕ) → is_free_word v ≡ false → bytes_eq v v ≡ true → bytes_eq v (codes "KEEP") ≡ false
    → (i : Input) (ts r s : List Lexeme) → key Pattern v ts r → input i ts s → ⊥
key_no_input v f e k i ts r s x y = elim (kept_cases i.keep i ts s y) [
  | inl d ↦ pattern_no_key v f i.file ts d.0 r d.1 x
  | inr d ↦ keys_differ Pattern v (codes "KEEP") e k ts r d.0 x d.1
]

-- a word with a mark behind it that is not `(`
word_no_input : (w : List ℕ) (m : Mark) → (m ≡ OpenParenthesis → ⊥) → bytes_eq w w ≡ true
    → bytes_eq w (codes "KEEP") ≡ false → (i : Input) (ts us r s : List Lexeme) → token (Word w) ts us → mark m us r
    → input i ts s → ⊥
word_no_input w m d e k i ts us r s x h y = elim (kept_cases i.keep i ts s y) [
  | inl p ↦
      let same = (tokens_same (Word p.1.0) (Word w) ts p.0 us p.1.3 x).1 in
      marks_differ m OpenParenthesis us r p.2.0 d h (subst (λ l. mark OpenParenthesis l p.2.0) same p.2.1)
  | inr p ↦ keys_differ Pattern w (codes "KEEP") e k ts us p.0 x p.1
]

pub dot_no_directive : (mode : Mode) (a : DotCommand) (b : Directive) (ts r s : List Lexeme) → dot_command mode a ts r
    → directive mode b ts s → ⊥
dot_no_directive mode a (directives.Assign b) ts r s x y = name_no_key mode b.name (codes ".") dot_no_name ts y.0 x.0
    y.1 x.1
dot_no_directive mode a (directives.Provide b) ts r s x y =
    keys_differ mode (codes ".") (codes "PROVIDE") refl refl ts x.0 y.0 x.1 y.1
dot_no_directive mode a (directives.Assert b) ts r s x y =
    keys_differ mode (codes ".") (codes "ASSERT") refl refl ts x.0 y.0 x.1 y.1

dot_no_data : (a : DotCommand) (w : Width) (e : Expr) (ts r s : List Lexeme) → dot_command Pattern a ts r
    → data_part (w, e) ts s → ⊥
dot_no_data a w e ts r s x y = width_no_key w (codes ".") (refl, refl, refl, refl) ts y.0 x.0 y.1 x.1

dot_no_input : (a : DotCommand) (i : Input) (ts r s : List Lexeme) → dot_command Pattern a ts r → input i ts s → ⊥
dot_no_input (Set e) i ts r s x y = word_no_input (codes ".") Assign (λ q. cc) refl refl i ts x.0 x.2.0 s x.1 x.2.1 y
dot_no_input (Add e) i ts r s x y = word_no_input (codes ".") AddAssign (λ q. cc) refl refl i ts x.0 x.2.0 s x.1 x.2.1 y

directive_no_data : (a : Directive) (w : Width) (e : Expr) (ts r s : List Lexeme) → directive Pattern a ts r
    → data_part (w, e) ts s → ⊥
directive_no_data (directives.Assign a) w e ts r s x y =
    name_no_key Pattern a.name (width_word w) (width_no_name w) ts x.0 y.0 x.1 y.1
directive_no_data (directives.Provide a) w e ts r s x y =
    width_no_key w (codes "PROVIDE") (refl, refl, refl, refl) ts y.0 x.0 y.1 x.1
directive_no_data (directives.Assert a) w e ts r s x y =
    width_no_key w (codes "ASSERT") (refl, refl, refl, refl) ts y.0 x.0 y.1 x.1

directive_no_input : (a : Directive) (i : Input) (ts r s : List Lexeme) → directive Pattern a ts r → input i ts s → ⊥
directive_no_input (directives.Assign a) i ts r s x y = elim (kept_cases i.keep i ts s y) [
  | inl p ↦
      let same = (tokens_same (Word p.1.0) (Word a.name) ts p.0 x.0 p.1.3 x.1.1).1 in
      marks_differ Assign OpenParenthesis x.0 x.2.0 p.2.0 (λ q. cc) x.2.1
      (subst (λ l. mark OpenParenthesis l p.2.0) same p.2.1)
  | inr p ↦ name_no_key Pattern a.name (codes "KEEP") keep_no_name ts x.0 p.0 x.1 p.1
]
directive_no_input (directives.Provide a) i ts r s x y =
    key_no_input (codes "PROVIDE") provide_no_word refl refl i ts x.0 s x.1 y
directive_no_input (directives.Assert a) i ts r s x y =
    key_no_input (codes "ASSERT") assert_no_word refl refl i ts x.0 s x.1 y

data_no_input : (w : Width) (e : Expr) (i : Input) (ts r s : List Lexeme) → data_part (w, e) ts r → input i ts s → ⊥
data_no_input Byte e i ts r s x y = key_no_input (codes "BYTE") (width_no_word Byte) refl refl i ts x.0 s x.1 y
data_no_input Short e i ts r s x y = key_no_input (codes "SHORT") (width_no_word Short) refl refl i ts x.0 s x.1 y
data_no_input Long e i ts r s x y = key_no_input (codes "LONG") (width_no_word Long) refl refl i ts x.0 s x.1 y
data_no_input Quad e i ts r s x y = key_no_input (codes "QUAD") (width_no_word Quad) refl refl i ts x.0 s x.1 y

data_same : (v w : Width) (e f : Expr) → v ≡ w → e ≡ f → body.Data v e ≡ body.Data w f
data_same v w e f p q = ap (λ x. body.Data x e) p ∙ ap (λ x. body.Data w x) q

pub body_command_single : Single body_command
body_command_single ts r s (body.Dot a) (body.Dot b) x y = let e = dot_command_single Pattern ts r s a b x y in
    (ap body.Dot e.0, e.1)
body_command_single ts r s (body.Directive a) (body.Directive b) x y = let e = directive_single Pattern ts r s a b x y
    in
    (ap body.Directive e.0, e.1)
body_command_single ts r s (body.Data v e) (body.Data w f) x y =
    let h = pair_single width_part in_parentheses width_single in_parentheses_single ts r s v w e f x y in
    (data_same v w e f h.0 h.1, h.2)
body_command_single ts r s (body.Input a) (body.Input b) x y = let e = input_single ts r s a b x y in
    (ap body.Input e.0, e.1)
body_command_single ts r s (body.Dot a) (body.Directive b) x y = absurd (dot_no_directive Pattern a b ts r s x y)
body_command_single ts r s (body.Dot a) (body.Data w e) x y = absurd (dot_no_data a w e ts r s x y)
body_command_single ts r s (body.Dot a) (body.Input b) x y = absurd (dot_no_input a b ts r s x y)
body_command_single ts r s (body.Directive a) (body.Dot b) x y = absurd (dot_no_directive Pattern b a ts s r y x)
body_command_single ts r s (body.Directive a) (body.Data w e) x y = absurd (directive_no_data a w e ts r s x y)
body_command_single ts r s (body.Directive a) (body.Input b) x y = absurd (directive_no_input a b ts r s x y)
body_command_single ts r s (body.Data w e) (body.Dot b) x y = absurd (dot_no_data b w e ts s r y x)
body_command_single ts r s (body.Data w e) (body.Directive b) x y = absurd (directive_no_data b w e ts s r y x)
body_command_single ts r s (body.Data w e) (body.Input b) x y = absurd (data_no_input w e b ts r s x y)
body_command_single ts r s (body.Input a) (body.Dot b) x y = absurd (dot_no_input b a ts s r y x)
body_command_single ts r s (body.Input a) (body.Directive b) x y = absurd (directive_no_input b a ts s r y x)
body_command_single ts r s (body.Input a) (body.Data w e) x y = absurd (data_no_input w e a ts s r y x)

body_statements_same : (a b : BodyStatement) → a.line ≡ b.line → a.command ≡ b.command → a ≡ b
body_statements_same a b e f =
    let mk : ℕ → BodyCommand → BodyStatement = λ n i. record { line = n; command = i } in
    ap (λ n. mk n a.command) e ∙ ap (λ i. mk b.line i) f

pub body_statement_single : Single body_statement
body_statement_single ts r s a b x y =
    let e = body_command_single ts r s a.command b.command x.1 y.1 in
    (body_statements_same a b (x.0 ∙ sym y.0) e.0, e.1)

pub body_no_mark : (m : Mark) (c : BodyCommand) (ts r s : List Lexeme) → body_command c ts r → mark m ts s → ⊥
body_no_mark m (body.Dot a) ts r s x y = word_no_mark (codes ".") m ts x.0 s x.1 y
body_no_mark m (body.Directive (directives.Assign a)) ts r s x y = word_no_mark a.name m ts x.0 s x.1.1 y
body_no_mark m (body.Directive (directives.Provide a)) ts r s x y = word_no_mark (codes "PROVIDE") m ts x.0 s x.1 y
body_no_mark m (body.Directive (directives.Assert a)) ts r s x y = word_no_mark (codes "ASSERT") m ts x.0 s x.1 y
body_no_mark m (body.Data w e) ts r s x y = word_no_mark (width_word w) m ts x.0 s x.1 y
body_no_mark m (body.Input i) ts r s x y = input_no_mark m i ts r s x y

pub body_listed : Listed (λ ts. Unit {0}) (mark CloseBrace) body_statement
body_listed = listed_to_brace body_statement body_statement_single
    (λ m x ts r s d e. body_no_mark m x.command ts r s d.1 e)

pub closed_body_single : Single (λ ss. statements body_statement ss ▸ mark CloseBrace)
closed_body_single ts r s a b x y = closing_single body_listed a b ts r s x y

pub width_none : (ts : List Lexeme) → ((us : List Lexeme) → key Pattern (codes "BYTE") ts us → ⊥)
    → ((us : List Lexeme) → key Pattern (codes "SHORT") ts us → ⊥)
    → ((us : List Lexeme) → key Pattern (codes "LONG") ts us → ⊥)
    → ((us : List Lexeme) → key Pattern (codes "QUAD") ts us → ⊥) → NoneAt width_part ts
width_none ts a b c d Byte more k = a more k
width_none ts a b c d Short more k = b more k
width_none ts a b c d Long more k = c more k
width_none ts a b c d Quad more k = d more k

pub data_none : (ts us : List Lexeme) (w : Width) → width_part w ts us → NoneAt in_parentheses us → NoneAt data_part ts
data_none ts us w h n (v, e) more d =
    n e more (behind_tree width_part (in_parentheses e) width_single ts us more w v h d).1

pub body_none : (ts : List Lexeme) → NoneAt (dot_command Pattern) ts → NoneAt (directive Pattern) ts
    → NoneAt data_part ts
    → NoneAt input ts → NoneAt body_command ts
body_none ts a b c d (body.Dot y) more k = a y more k
body_none ts a b c d (body.Directive y) more k = b y more k
body_none ts a b c d (body.Data w e) more k = c (w, e) more k
body_none ts a b c d (body.Input y) more k = d y more k
