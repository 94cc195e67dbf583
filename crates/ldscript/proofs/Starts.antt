-- No expression begins with `:` or `=`.
use Rattle.ldscript.proofs.Common.{Expr, Lexeme, List, Mark, None, OpenParenthesis, Punctuation, Sign, Some, ap, lexeme}
use Rattle.ldscript.proofs.Common.{mark, sym, ℕ, ◌∙◌, ◌∷◌, ◌≡◌}
use Rattle.ldscript_terms.specs.Operators.{unary_of}
use Rattle.ldscript_terms.specs.declared.operator.UnaryOperator.{UnaryOperator}
use Rattle.ldscript_terms.specs.Grammar.{Word, Terminal, Numeral, Worded, terminal_of, Begins, Level, Spells, number}
use Rattle.ldscript_terms.specs.Grammar.{dot, name, group, of_region, of_section, align, one_argument, two_arguments}
use Rattle.ldscript_terms.specs.Grammar.{primary, unary, operand, binary, operators, choice}

same_first : (x y : Lexeme) (r s : List Lexeme) → x ∷ r ≡ y ∷ s → x ≡ y
same_first x y r s e = cc

begins_same : (ts us vs : List Lexeme) (t : Terminal) (m : Mark) → Begins ts t us → mark m ts vs → t ≡ Sign m
begins_same ts us vs t m b d =
    let e = same_first b.first (lexeme (Punctuation m) d.0) us vs (sym b.split ∙ d.1) in
    sym b.kind ∙ ap (λ (x : Lexeme). terminal_of x.token) e

no_numeral : (v : ℕ) (m : Mark) → Numeral v ≡ Sign m → ⊥
no_numeral v m e = cc

no_worded : (w : Word) (m : Mark) → Worded w ≡ Sign m → ⊥
no_worded w m e = cc

no_unary : (o : UnaryOperator) → None ≡ Some o → ⊥
no_unary o e = cc

same_sign : (m n : Mark) → Sign m ≡ Sign n → m ≡ n
same_sign m n e = cc

-- a mark that is no `(` and no operator before an operand
pub starts : (m : Mark) → (OpenParenthesis ≡ m → ⊥) → unary_of m ≡ None → (l : Level) (e : Expr) (ts r vs : List Lexeme)
    → Spells l e ts r → mark m ts vs → ⊥
starts m o u l e ts r vs (number b s) d = no_numeral _ m (begins_same ts r vs _ m b d)
starts m o u l e ts r vs (dot b) d = no_worded _ m (begins_same ts r vs _ m b d)
starts m o u l e ts r vs (name b) d = no_worded _ m (begins_same ts r vs _ m b d)
starts m o u l e ts r vs (group b x y) d = o (same_sign OpenParenthesis m (begins_same ts _ vs _ m b d))
starts m o u l e ts r vs (of_region b x) d = no_worded _ m (begins_same ts _ vs _ m b d)
starts m o u l e ts r vs (of_section b x) d = no_worded _ m (begins_same ts _ vs _ m b d)
starts m o u l e ts r vs (align b x) d = no_worded _ m (begins_same ts _ vs _ m b d)
starts m o u l e ts r vs (one_argument b x y) d = o (same_sign OpenParenthesis m (begins_same ts _ vs _ m b d))
starts m o u l e ts r vs (two_arguments b x y z w) d = o (same_sign OpenParenthesis m (begins_same ts _ vs _ m b d))
starts m o u l e ts r vs (primary x) d = starts m o u _ e ts r vs x d
starts m o u l e ts r vs (unary b x) d =
    let k : b.mark ≡ m = same_sign b.mark m (begins_same ts _ vs _ m b.begins d) in
    no_unary _ (sym u ∙ sym (ap unary_of k) ∙ b.spells)
starts m o u l e ts r vs (operand x) d = starts m o u _ e ts r vs x d
starts m o u l e ts r vs (binary x b y) d = starts m o u _ _ ts _ vs x d
starts m o u l e ts r vs (operators x) d = starts m o u _ e ts r vs x d
starts m o u l e ts r vs (choice x b y c z) d = starts m o u _ _ ts _ vs x d
