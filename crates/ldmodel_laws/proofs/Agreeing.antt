-- Values in scopes that agree.
use Rattle.ldmodel_laws.proofs.Common.{Bool, DoAgree, Err, Expr, List, None, Ok, Option, Result, Some, and_then, ap}
use Rattle.ldmodel_laws.proofs.Common.{cond, false, option_map, refl, subst, sym, true, value, ℕ, ◌∙◌, ◌≡◌}
use Rattle.ldscript.specs.terms.Expressions as expression
use Rattle.ldmodel.specs.Value.{Scope, ValueFault, named, is_true, unary_value, binary_value, decides_alone, aligned}
use Rattle.ldmodel.specs.Value.{asked_of_region, asked_of_section}

-- where both are numbers, they are the same
abbrev Same : Result ℕ ValueFault → Result ℕ ValueFault → Type 0
Same r q = (x y : ℕ) → r ≡ Ok x → q ≡ Ok y → x ≡ y

of_one : (r : Result ℕ ValueFault) → Same r r
of_one r x y p q = cc

of_both : (r q : Result ℕ ValueFault) (f g : ℕ → Result ℕ ValueFault) → Same r q → ((x : ℕ) → Same (f x) (g x))
    → Same (and_then r f) (and_then q g)
of_both (Err e) q f g h k x y p l = absurd (let none : ⊥ = cc in none)
of_both (Ok a) (Err e) f g h k x y p l = absurd (let none : ⊥ = cc in none)
of_both (Ok a) (Ok b) f g h k x y p l =
    let same : a ≡ b = h a b refl refl in
    k b x y (sym (ap f same) ∙ p) l

of_named : (name : List ℕ) (o p : Option ℕ) → ((x y : ℕ) → o ≡ Some x → p ≡ Some y → x ≡ y)
    → Same (named name o) (named name p)
of_named name (Some a) (Some b) h x y p q =
    let same : a ≡ b = h a b refl refl in cc
of_named name (Some a) None h x y p q = absurd (let none : ⊥ = cc in none)
of_named name None p h x y k q = absurd (let none : ⊥ = cc in none)

of_choice : (r q a b : Result ℕ ValueFault) → Same r q → Same a b → (c : Bool) → Same (cond c r a) (cond c q b)
of_choice r q a b h k true = h
of_choice r q a b h k false = k

module _ (s t : Scope) (dot : ℕ) (agree : DoAgree s t) where
  same : (e : Expr) → Same (value s dot e) (value t dot e)
  unfolding value
  same (expression.Number n) = of_one (Ok n)
  same expression.Dot = of_one (Ok dot)
  same (expression.Name n) = of_named n (s.symbol n) (t.symbol n) (agree.symbols n)
  same (expression.Unary o a) =
      of_both (value s dot a) (value t dot a) _ _ (same a) (λ x. of_one (Ok (unary_value o x)))
  same (expression.Binary o a b) =
      of_both (value s dot a) (value t dot a) _ _ (same a) (λ x.
      of_choice (binary_value o x 0) (binary_value o x 0) (and_then (value s dot b) (λ y. binary_value o x y))
      (and_then (value t dot b) (λ y. binary_value o x y)) (of_one (binary_value o x 0))
      (of_both (value s dot b) (value t dot b) _ _ (same b) (λ y. of_one (binary_value o x y))) (decides_alone o x))
  same (expression.Choice c a b) =
      of_both (value s dot c) (value t dot c) _ _ (same c) (λ x.
      of_choice (value s dot a) (value t dot a) (value s dot b) (value t dot b) (same a) (same b) (is_true x))
  same (expression.OfRegion q n) =
      subst (λ r. Same (named n (option_map (asked_of_region q) (s.region n)))
      (named n (option_map (asked_of_region q) r)))
      (agree.regions n) (of_one _)
  same (expression.OfSection q n) =
      subst (λ r. Same (named n (option_map (asked_of_section q) (s.section n)))
      (named n (option_map (asked_of_section q) r)))
      (agree.sections n) (of_one _)
  same (expression.AlignDot a) =
      of_both (value s dot a) (value t dot a) _ _ (same a) (λ x. of_one (aligned dot x))
  same (expression.Align a b) =
      of_both (value s dot a) (value t dot a) _ _ (same a) (λ x.
      of_both (value s dot b) (value t dot b) _ _ (same b) (λ y. of_one (aligned x y)))

pub values_agree : (s t : Scope) (dot : ℕ) (e : Expr) (x y : ℕ) → DoAgree s t → value s dot e ≡ Ok x
    → value t dot e ≡ Ok y → x ≡ y
values_agree s t dot e x y agree = same s t dot agree e x y
