-- How many sites have a symbol with a value: between good links each.
use Rattle.emit_relocate.proofs.Common.{Contains, HasField, KnownLink, List, NotInOutput, Number, Ok, Site, [], arith}
use Rattle.emit_relocate.proofs.Common.{evaluations, good_link, here, later, length, refl, site_field, site_field_with}
use Rattle.emit_relocate.proofs.Common.{site_value, sum_by-cons, work_of, ℕ, ◌∷◌, ◌≡◌}
use Rattle.ldmodel.specs.SymbolValues.{SymbolValue, NotDefined}

module _ (l : KnownLink) where
  abbrev one_of : Site → ℕ
  one_of t = work_of (site_value l.project l.layout t)

  pub one_evaluation : (t : Site) → evaluations l (t ∷ []) ≡ work_of (site_value l.project l.layout t)
  one_evaluation t = let one = sum_by-cons one_of t [] in omega (arith, one)

  -- a site with a field has a symbol with a value
  valued : (t : Site) → HasField (good_link l) t → work_of (site_value l.project l.layout t) ≡ 1
  unfolding site_field
  valued t h = go (site_value l.project l.layout t) h.1
    where
      go : (v : SymbolValue) → site_field_with t v ≡ Ok h.0 → work_of v ≡ 1
      go (Number x) e = refl
      go NotDefined e = absurd (let no : ⊥ = cc in no)
      go NotInOutput e = absurd (let no : ⊥ = cc in no)

  pub all_evaluated : (ts : List Site) → ((t : Site) → Contains ts t → HasField (good_link l) t)
      → evaluations l ts ≡ length ts
  all_evaluated [] h = refl
  all_evaluated (t ∷ ts) h =
      let one = valued t (h t (here t ts)) in
      let more = sum_by-cons one_of t ts in
      let rest = all_evaluated ts (λ s c. h s (later t ts s c)) in
      omega (arith, one, more, rest)
