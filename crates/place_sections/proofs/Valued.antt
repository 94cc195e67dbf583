-- The number of an expression, as the code evaluates it.
use Rattle.place_sections.proofs.Common.{Expr, LayoutCursor, Naming, PlacedOutputs, Result, ap, layout_of, nameless}
use Rattle.place_sections.proofs.Common.{number, outcome_of, scope_of, value_at, ℕ, ◌∙◌, ◌≡◌}
use Rattle.ldmodel.specs.Value.{Scope, value}
use Rattle.place_terms.specs.declared.value.ValueFault as code
use Rattle.place_sections.proofs.Naming.{same_scope}

pub number_is : (n : Naming) (h : LayoutCursor) (d : PlacedOutputs) (line : ℕ) (e : Expr) (r : Result ℕ code.ValueFault)
    → outcome_of r
    ≡ value (scope_of (layout_of nameless h d)) h.dot e → value_at line (outcome_of r) ≡ number (layout_of n h d) line e
unfolding number
number_is n h d line e r found =
    ap (value_at line) (found ∙ ap (λ (s : Scope). value s h.dot e) (same_scope nameless n h d))
