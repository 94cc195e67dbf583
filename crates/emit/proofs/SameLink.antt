-- The layout is the same, and a good link stays good where no relocation of the second project is a fault.
use Rattle.emit.proofs.Common.{DiffersInContents, Err, Layout, Link, List, Ok, Project, Result, [], ap}
use Rattle.emit.proofs.Common.{gathering_faults, good, laid_out, layout, link, name_faults, of_length, placed}
use Rattle.emit.proofs.Common.{placement, refl, relocation_faults, sym, unless, without_overlaps, ℕ, ◌∙◌, ◌∷◌, ◌≡◌}
use Rattle.ldmodel.specs.Assertions.{assertion_faults}
use Rattle.ldmodel.specs.Fault.{Fault}
use Rattle.ldmodel.specs.Overlaps.{overlaps}
use Rattle.emit.proofs.SameFrame.{same_assertion_faults, same_length}
use Rattle.emit.proofs.SameNames.{same_name_faults, same_provided}
use Rattle.emit.proofs.SameRows.{same_gathering_faults, same_rows}

-- a link of status 0 has no faults in a phase, and the phases after it give status 0
none_before : (fs : List Fault) (next : Link) → (unless fs next).status ≡ 0 → (fs ≡ []) × (next.status ≡ 0)
none_before [] next e = (refl, e)
none_before (f ∷ fs) next e = absurd (let none : ⊥ = cc in none)

module _ {p q : Project} {place : ℕ} (h : DiffersInContents p q place) where
  same_without_overlaps : (s : Layout) (fs : List Fault) → without_overlaps p s fs ≡ without_overlaps q s fs
  same_without_overlaps s [] = λ i. of_length (same_length h s i) s
  same_without_overlaps s (f ∷ fs) = refl

  same_laid_out : (r : Result Layout Fault) → laid_out p r ≡ laid_out q r
  same_laid_out (Ok s) = same_without_overlaps s (overlaps s.sections)
  same_laid_out (Err f) = refl

  pub same_layout : layout p ≡ layout q
  unfolding layout
  same_layout = λ i. same_laid_out (placement (h.script i) (same_rows h i) (same_provided h i)) i

  pub good_again : (s : Layout) → layout p ≡ Ok s → (link p).status ≡ 0 → relocation_faults q s ≡ [] → link q ≡ good q s
  unfolding link
  good_again s laid status sites =
      let names = none_before (name_faults p) (unless (gathering_faults p) (placed p (layout p))) status in
      let gathered = none_before (gathering_faults p) (placed p (layout p)) names.1 in
      let located =
      none_before (relocation_faults p s) (unless (assertion_faults p s) (good p s))
      (ap (λ r. (placed p r).status) (sym laid) ∙ gathered.1) in
      let asserted = none_before (assertion_faults p s) (good p s) located.1 in
      ap (λ fs. unless fs (unless (gathering_faults q) (placed q (layout q)))) (sym (same_name_faults h) ∙ names.0)
      ∙ (ap (λ fs. unless fs (placed q (layout q))) (sym (same_gathering_faults h) ∙ gathered.0)
      ∙ (ap (placed q) (sym same_layout ∙ laid)
      ∙ (ap (λ fs. unless fs (unless (assertion_faults q s) (good q s))) sites
      ∙ ap (λ fs. unless fs (good q s)) (sym (same_assertion_faults h s) ∙ asserted.0))))
