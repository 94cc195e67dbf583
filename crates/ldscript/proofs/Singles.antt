-- No tokens are two trees of one part: part by part.
use Rattle.ldscript.proofs.Common.{Add, AddAssign, Assign, Bool, CloseParenthesis, Comma, Expr, Expression, IsTrue}
use Rattle.ldscript.proofs.Common.{Lexeme, List, Mark, Mode, OpenParenthesis, Pattern, Punctuation, Rule, Semicolon}
use Rattle.ldscript.proofs.Common.{Set, Sign, Stops, StopsAt, Whole, ap, asserted, bytes_eq, codes, directive}
use Rattle.ldscript.proofs.Common.{dot_command, ended, expression, false, false≢true, in_parentheses, is_free_name}
use Rattle.ldscript.proofs.Common.{is_reserved, key, lexeme, mark, provided_assignment, refl, string, subst, sym, token}
use Rattle.ldscript.proofs.Common.{true, ℕ, ◌&&◌, ◌∙◌, ◌∷◌, ◌≡◌, ◌▸◌}
use Rattle.ldscript_tokens.specs.Tokens.{Token, Text}
use Rattle.ldscript.specs.Steps.{word_in, is_name_spelling, is_name_in, name_in, name}
use Rattle.ldscript.specs.Grammar.{dot_set_to, add_to, dot_change, assign, provided_name, provide, assertion}
use Rattle.ldscript_statements.specs.declared.directive.Assignment.{Assignment}
use Rattle.ldscript_statements.specs.declared.directive.Assertion.{Assertion}
use Rattle.ldscript_statements.specs.declared.directive.Directive.TheVariants as directives
use Rattle.ldscript.proofs.Expressions.{one_expression}

-- a part without a tree leads to one place
abbrev pub Fixed : Rule → Type 0
Fixed p = (ts r s : List Lexeme) → p ts r → p ts s → r ≡ s

-- a part with a tree gives one tree and leads to one place
abbrev pub Single : {A : Type 0} → (A → Rule) → Type 0
Single {A} p = (ts r s : List Lexeme) (a b : A) → p a ts r → p b ts s → (a ≡ b) × (r ≡ s)

-- the same of readings that stop
abbrev pub SingleUntil : {A : Type 0} → (List Lexeme → Type 0) → (A → Rule) → Type 0
SingleUntil {A} Stop p = (ts r s : List Lexeme) (a b : A) → p a ts r → p b ts s → Stop r → Stop s → (a ≡ b) × (r ≡ s)

same_lexemes : (t u : Token) (k l : ℕ) (r s : List Lexeme) → lexeme t k ∷ r ≡ lexeme u l ∷ s → (t ≡ u) × (r ≡ s)
same_lexemes t u k l r s e =
    let first : lexeme t k ≡ lexeme u l = cc in
    (ap (λ (x : Lexeme). x.token) first, cc)

pub tokens_same : (t u : Token) (ts r s : List Lexeme) → token t ts r → token u ts s → (t ≡ u) × (r ≡ s)
tokens_same t u ts r s a b = same_lexemes t u a.0 b.0 r s (sym a.1 ∙ b.1)

pub token_fixed : (t : Token) → Fixed (token t)
token_fixed t ts r s a b = (tokens_same t t ts r s a b).1

pub mark_fixed : (m : Mark) → Fixed (mark m)
mark_fixed m = token_fixed (Punctuation m)

pub key_fixed : (mode : Mode) (w : List ℕ) → Fixed (key mode w)
key_fixed mode w = token_fixed (word_in mode w)

pub then_fixed : (p q : Rule) → Fixed p → Fixed q → Fixed (p ▸ q)
then_fixed p q f g ts r s a b = g b.0 r s (subst (λ l. q l r) (f ts a.0 b.0 a.1 b.1) a.2) b.2

-- what follows a part that leads to one place
pub behind : (p q : Rule) → Fixed p → (ts us more : List Lexeme) → p ts us → (p ▸ q) ts more → q us more
behind p q f ts us more h d = subst (λ l. q l more) (f ts d.0 us d.1 h) d.2

-- the same behind a part with a tree
pub behind_tree : {A : Type 0} (p : A → Rule) (q : Rule) → Single p → (ts us more : List Lexeme) (a b : A) → p a ts us
    → (p b ▸ q) ts more → (b ≡ a) × q us more
behind_tree p q f ts us more a b h d =
    let e = f ts d.0 us b a d.1 h in
    (e.0, subst (λ l. q l more) e.1 d.2)

pub skip_single : {A : Type 0} (p : Rule) (q : A → Rule) → Fixed p → Single q → Single (λ a. p ▸ q a)
skip_single {A} p q f g ts r s a b x y = g y.0 r s a b (subst (λ l. q a l r) (f ts x.0 y.0 x.1 y.1) x.2) y.2

pub end_single : {A : Type 0} (p : A → Rule) (q : Rule) → Single p → Fixed q → Single (λ a. p a ▸ q)
end_single {A} p q f g ts r s a b x y =
    let e = f ts x.0 y.0 a b x.1 y.1 in
    (e.0, g y.0 r s (subst (λ l. q l r) e.1 x.2) y.2)

pub pair_single : {A B : Type 0} (p : A → Rule) (q : B → Rule) → Single p → Single q
    → (ts r s : List Lexeme) (a a' : A) (b b' : B) → (p a ▸ q b) ts r → (p a' ▸ q b') ts s
    → (a ≡ a') × (b ≡ b') × (r ≡ s)
pair_single {A} {B} p q f g ts r s a a' b b' x y =
    let e = f ts x.0 y.0 a a' x.1 y.1 in
    let h = g y.0 r s b b' (subst (λ l. q b l r) e.1 x.2) y.2 in
    (e.0, h.0, h.1)

-- words
pub same_words : (mode : Mode) (v w : List ℕ) → word_in mode v ≡ word_in mode w → v ≡ w
same_words Expression v w e = cc
same_words Pattern v w e = cc

pub words_same : (mode : Mode) (v w : List ℕ) (ts r s : List Lexeme) → token (word_in mode v) ts r
    → token (word_in mode w) ts s → (v ≡ w) × (r ≡ s)
words_same mode v w ts r s a b =
    let e = tokens_same (word_in mode v) (word_in mode w) ts r s a b in
    (same_words mode v w e.0, e.1)

pub word_single : (mode : Mode) → Single (λ w. token (word_in mode w))
word_single mode ts r s a b x y = words_same mode a b ts r s x y

pub name_single : (mode : Mode) → Single (name_in mode)
name_single mode ts r s a b x y = words_same mode a b ts r s x.1 y.1

same_texts : (v w : List ℕ) → Text v ≡ Text w → v ≡ w
same_texts v w e = cc

pub string_single : Single string
string_single ts r s a b x y = let e = tokens_same (Text a) (Text b) ts r s x y in (same_texts a b e.0, e.1)

pub keys_differ : (mode : Mode) (v w : List ℕ) → bytes_eq v v ≡ true → bytes_eq v w ≡ false → (ts r s : List Lexeme)
    → key mode v ts r → key mode w ts s → ⊥
keys_differ mode v w h k ts r s a b =
    let e : v ≡ w = (words_same mode v w ts r s a b).0 in
    false≢true (sym k ∙ sym (ap (λ x. bytes_eq v x) e) ∙ h)

name_free : (mode : Mode) (n : List ℕ) → IsTrue (is_name_in mode n) → is_free_name n ≡ true
name_free Expression n h = h
name_free Pattern n h = first (is_free_name n) (is_name_spelling n) h where
  first : (a b : Bool) → IsTrue (a && b) → a ≡ true
  first true b h = refl
  first false b h = h

-- a word that the language keeps is no name
pub name_no_key : (mode : Mode) (n w : List ℕ) → is_free_name w ≡ false → (ts r s : List Lexeme) → name_in mode n ts r
    → key mode w ts s → ⊥
name_no_key mode n w k ts r s a b =
    let e : n ≡ w = (words_same mode n w ts r s a.1 b).0 in
    false≢true (sym k ∙ sym (ap is_free_name e) ∙ name_free mode n a.0)

-- expressions
pub expression_single : SingleUntil (Stops Whole) expression
expression_single ts r s a b x y h k = one_expression ts a b r s x y h k

pub stops_at : (m : Mark) → StopsAt Whole (Sign m) → (ts r : List Lexeme) → mark m ts r → Stops Whole ts
stops_at m h ts r a = subst (Stops Whole) (sym a.1) h

pub ended_single : (m : Mark) → StopsAt Whole (Sign m) → Single (ended m)
ended_single m h ts r s a b x y =
    let e = expression_single ts x.0 y.0 a b x.1 y.1 (stops_at m h x.0 r x.2) (stops_at m h y.0 s y.2) in
    (e.0, mark_fixed m y.0 r s (subst (λ l. mark m l r) e.1 x.2) y.2)

pub set_to_single : Single dot_set_to
set_to_single = skip_single (mark Assign) (ended Semicolon) (mark_fixed Assign) (ended_single Semicolon tt)

pub add_to_single : Single add_to
add_to_single = skip_single (mark AddAssign) (ended Semicolon) (mark_fixed AddAssign) (ended_single Semicolon tt)

pub in_parentheses_single : Single in_parentheses
in_parentheses_single = skip_single (mark OpenParenthesis) (ended CloseParenthesis) (mark_fixed OpenParenthesis)
    (ended_single CloseParenthesis tt)

pub marks_differ : (m n : Mark) (ts r s : List Lexeme) → (m ≡ n → ⊥) → mark m ts r → mark n ts s → ⊥
marks_differ m n ts r s d a b = d (mark_of_same ((tokens_same (Punctuation m) (Punctuation n) ts r s a b).0)) where
  mark_of_same : Punctuation m ≡ Punctuation n → m ≡ n
  mark_of_same e = cc

pub dot_change_single : Single dot_change
dot_change_single ts r s (Set a) (Set b) x y = let e = set_to_single ts r s a b x y in (ap Set e.0, e.1)
dot_change_single ts r s (Add a) (Add b) x y = let e = add_to_single ts r s a b x y in (ap Add e.0, e.1)
dot_change_single ts r s (Set a) (Add b) x y = absurd (marks_differ Assign AddAssign ts x.0 y.0 (λ e. cc) x.1 y.1)
dot_change_single ts r s (Add a) (Set b) x y = absurd (marks_differ AddAssign Assign ts x.0 y.0 (λ e. cc) x.1 y.1)

pub dot_command_single : (mode : Mode) → Single (dot_command mode)
dot_command_single mode = skip_single (key mode (codes ".")) dot_change (key_fixed mode (codes ".")) dot_change_single

assignments_same : (a b : Assignment) → a.name ≡ b.name → a.value ≡ b.value → a ≡ b
assignments_same a b e f =
    let mk : List ℕ → Expr → Assignment = λ n v. record { name = n; value = v } in
    ap (λ n. mk n a.value) e ∙ ap (λ v. mk b.name v) f

assertions_same : (a b : Assertion) → a.condition ≡ b.condition → a.message ≡ b.message → a ≡ b
assertions_same a b e f =
    let mk : Expr → List ℕ → Assertion = λ v n. record { condition = v; message = n } in
    ap (λ v. mk v a.message) e ∙ ap (λ n. mk b.condition n) f

pub assign_single : (mode : Mode) → Single (assign mode)
assign_single mode ts r s a b x y =
    let e = pair_single (name_in mode) dot_set_to
    (name_single mode) set_to_single ts r s a.name b.name a.value b.value x y in
    (assignments_same a b e.0 e.1, e.2)

pub provided_name_single : Single provided_name
provided_name_single = skip_single (mark OpenParenthesis) (λ n. name n ▸ mark Assign) (mark_fixed OpenParenthesis)
    (end_single name (mark Assign) (name_single Expression) (mark_fixed Assign))

pub provided_single : Single provided_assignment
provided_single ts r s a b x y =
    let e = pair_single provided_name (ended CloseParenthesis) provided_name_single
    (ended_single CloseParenthesis tt) ts r s a.name b.name a.value b.value x y in
    (assignments_same a b e.0 e.1, e.2)

pub provide_single : (mode : Mode) → Single (provide mode)
provide_single mode = skip_single (key mode (codes "PROVIDE")) provided_assignment
    (key_fixed mode (codes "PROVIDE")) provided_single

pub message_single : Single (λ m. string m ▸ mark CloseParenthesis)
message_single = end_single string (mark CloseParenthesis) string_single (mark_fixed CloseParenthesis)

asserted_behind : (ts r s : List Lexeme) (a b : Assertion)
    → (ended Comma a.condition ▸ string a.message ▸ mark CloseParenthesis) ts r
    → (ended Comma b.condition ▸ string b.message ▸ mark CloseParenthesis) ts s → (a ≡ b) × (r ≡ s)
asserted_behind ts r s a b x y =
    let e = pair_single (ended Comma) (λ m. string m ▸ mark CloseParenthesis)
    (ended_single Comma tt) message_single ts r s a.condition b.condition a.message b.message x y in
    (assertions_same a b e.0 e.1, e.2)

pub asserted_single : Single asserted
asserted_single = skip_single (mark OpenParenthesis)
    (λ a. ended Comma a.condition ▸ string a.message ▸ mark CloseParenthesis)
    (mark_fixed OpenParenthesis) asserted_behind

pub assertion_single : (mode : Mode) → Single (assertion mode)
assertion_single mode = skip_single (key mode (codes "ASSERT")) asserted
    (key_fixed mode (codes "ASSERT")) asserted_single

provide_kept : is_free_name (codes "PROVIDE") ≡ false
unfolding is_free_name is_reserved
provide_kept = refl

assert_kept : is_free_name (codes "ASSERT") ≡ false
unfolding is_free_name is_reserved
assert_kept = refl

provide_no_assert : (mode : Mode) (ts r s : List Lexeme) → key mode (codes "PROVIDE") ts r
    → key mode (codes "ASSERT") ts s → ⊥
provide_no_assert mode = keys_differ mode (codes "PROVIDE") (codes "ASSERT") refl refl

pub directive_single : (mode : Mode) → Single (directive mode)
directive_single mode ts r s (directives.Assign a) (directives.Assign b) x y = let e = assign_single mode ts r s a b x y
    in
    (ap directives.Assign e.0, e.1)
directive_single mode ts r s (directives.Provide a) (directives.Provide b) x y = let e = provide_single mode ts r s a b
    x y in
    (ap directives.Provide e.0, e.1)
directive_single mode ts r s (directives.Assert a) (directives.Assert b) x y = let e = assertion_single mode ts r s a b
    x y in
    (ap directives.Assert e.0, e.1)
directive_single mode ts r s (directives.Assign a) (directives.Provide b) x y =
    absurd (name_no_key mode a.name (codes "PROVIDE") provide_kept ts x.0 y.0 x.1 y.1)
directive_single mode ts r s (directives.Assign a) (directives.Assert b) x y =
    absurd (name_no_key mode a.name (codes "ASSERT") assert_kept ts x.0 y.0 x.1 y.1)
directive_single mode ts r s (directives.Provide a) (directives.Assign b) x y =
    absurd (name_no_key mode b.name (codes "PROVIDE") provide_kept ts y.0 x.0 y.1 x.1)
directive_single mode ts r s (directives.Assert a) (directives.Assign b) x y =
    absurd (name_no_key mode b.name (codes "ASSERT") assert_kept ts y.0 x.0 y.1 x.1)
directive_single mode ts r s (directives.Provide a) (directives.Assert b) x y =
    absurd (provide_no_assert mode ts x.0 y.0 x.1 y.1)
directive_single mode ts r s (directives.Assert a) (directives.Provide b) x y =
    absurd (provide_no_assert mode ts y.0 x.0 y.1 x.1)
