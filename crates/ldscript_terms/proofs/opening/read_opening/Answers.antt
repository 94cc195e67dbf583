use Rattle.ldscript_terms.proofs.Common.{OpenParenthesis, Punctuation, lexeme, rules, sym, ◌∙◌, ◌∷◌, ◌≡◌}
use Rattle.ldscript_terms.proofs.Refusals.{mark_none}
use Rattle.ldscript_terms.proofs.opening.read_opening.Goals as goal

pub returns-in_err-number_value-in-Number : goal.returns-in_err-number_value-in-Number
returns-in_err-number_value-in-Number c =
    rw c.from_residual-in_err-number_value-in-Number.ensures (search rules)

pub returns-in_err-word-in-Name : goal.returns-in_err-word-in-Name
returns-in_err-word-in-Name c = rw c.from_residual-in_err-word-in-Name.ensures (search rules)

pub returns-else-eq : goal.returns-else-eq
returns-else-eq c =
    let begins : c.args.tokens.now ≡ lexeme
    (Punctuation c.in-Punctuation.mark) c.in_ok-kind.field-0-2 ∷ c.in_ok-kind.rest =
    sym c.copy.ensures ∙ rw c.in-Punctuation.is at c.in_ok-kind.ensures in
    let other : c.in-Punctuation.mark ≡ OpenParenthesis
    → ⊥ = λ same. (let e = rw same at c.eq.ensures in let f = c.if-eq.false in cc) in
    mark_none _ _ _ _ begins other
