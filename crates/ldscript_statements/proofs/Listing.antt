-- How lists of mentions grow by an expression.
use Rattle.ldscript_statements.proofs.Common.{List, Mention, RegionUsed, [], ap, append_assoc, in_expression, refl}
use Rattle.ldscript_statements.proofs.Common.{regions_of, sym, used, ℕ, ◌++◌, ◌∙◌, ◌∷◌, ◌≡◌}
use Rattle.ldscript_terms.specs.Expressions.{Expr}

used_append : (xs ys : List (List ℕ)) → used (xs ++ ys) ≡ used xs ++ used ys
used_append [] ys = refl
used_append (x ∷ xs) ys = ap (λ l. RegionUsed x ∷ l) (used_append xs ys)

-- the expression e has two operands, x and y, which are listed one behind the other
pub listed_two : (l0 l1 l2 : List Mention) (e x y a b : Expr) → regions_of e ≡ regions_of a ++ regions_of b
    → x ≡ a → y ≡ b
    → l1 ≡ l0 ++ in_expression x → l2 ≡ l1 ++ in_expression y → l2 ≡ l0 ++ in_expression e
listed_two l0 l1 l2 e x y a b split xa yb first second =
    let parts : in_expression e ≡ in_expression a ++ in_expression b = ap used split
    ∙ used_append (regions_of a) (regions_of b) in
    let left : in_expression x ≡ in_expression a = ap (λ v. in_expression v) xa in
    let right : in_expression y ≡ in_expression b = ap (λ v. in_expression v) yb in
    second ∙ ap (λ l. l ++ in_expression y) first ∙ append_assoc l0 (in_expression x) (in_expression y)
    ∙ ap (λ l. l0 ++ l) (ap (λ l. l ++ in_expression y) left ∙ ap (λ l. in_expression a ++ l) right ∙ sym parts)

-- the expression e has three
pub listed_three : (l0 l1 l2 l3 : List Mention) (e x y z a b d : Expr)
    → regions_of e ≡ regions_of a ++ regions_of b ++ regions_of d → x ≡ a → y ≡ b → z ≡ d
    → l1 ≡ l0 ++ in_expression x → l2 ≡ l1 ++ in_expression y → l3 ≡ l2 ++ in_expression z → l3 ≡ l0 ++ in_expression e
listed_three l0 l1 l2 l3 e x y z a b d split xa yb zd first second third =
    let parts : in_expression e ≡ (in_expression a ++ in_expression b) ++ in_expression d =
    ap used split ∙ used_append (regions_of a ++ regions_of b) (regions_of d)
    ∙ ap (λ l. l ++ in_expression d) (used_append (regions_of a) (regions_of b)) in
    let both : l2 ≡ l0 ++ (in_expression x ++ in_expression y) = second ∙ ap (λ l. l ++ in_expression y) first
    ∙ append_assoc l0 (in_expression x) (in_expression y) in
    let left : in_expression x ++ in_expression y ≡ in_expression a ++ in_expression b = ap
    (λ v. in_expression v ++ in_expression y) xa ∙ ap (λ v. in_expression a ++ in_expression v) yb in
    let right : in_expression z ≡ in_expression d = ap (λ v. in_expression v) zd in
    third ∙ ap (λ l. l ++ in_expression z) both ∙ append_assoc l0 (in_expression x ++ in_expression y) (in_expression z)
    ∙ ap (λ l. l0 ++ l) (ap (λ l. l ++ in_expression z) left
    ∙ ap (λ l. (in_expression a ++ in_expression b) ++ l) right ∙ sym parts)
