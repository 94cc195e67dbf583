use Rattle.place_sections.proofs.Common.{Ends, Places, ap, eq-eqb, eqb-true, nat_eq, refl, subst, sym, ◌∙◌, ◌≡◌}
use Rattle.std.specs.Bool.{Decides}
use Rattle.std.proofs.lemmas.Slice.Eq.{slice_eq-Decides}
use Rattle.ldmodel.specs.declared.script_symbol.DirectiveIndex.{DirectiveIndex}
use Rattle.place_sections.proofs.placement.Placement.reusable.Goals as goal

same_number : (a b : DirectiveIndex) → Decides (nat_eq a.0 b.0) (a ≡ b)
same_number a b = (
  λ e. let same : a.0 ≡ b.0 = eqb-true a.0 b.0 e in ap (λ k. record { 0 = k }) same,
  λ e. eq-eqb a.0 b.0 (ap (λ (x : DirectiveIndex). x.0) e),
)

pub returns : goal.returns
returns c = record {
  sections = c.deref.ensures.value ∙ ap (λ (p : Places). p.sections) c.self.view_is;
  counts = c.deref-2.ensures.value ∙ ap (λ (p : Places). p.counts) c.self.view_is;
  starts = c.deref-3.ensures.value ∙ ap (λ (p : Places). p.starts) c.self.view_is;
  data_commands = c.deref-4.ensures.value ∙ ap (λ (p : Places). p.data_commands) c.self.view_is;
  dots = c.deref-5.ensures.value ∙ ap (λ (p : Places). p.dots) c.self.view_is;
  symbols = c.deref-6.ensures.value ∙ ap (λ (p : Places). p.symbols) c.self.view_is;
  boundaries = c.deref-7.ensures.value ∙ ap (λ (p : Places). p.boundaries) c.self.view_is;
  ends = subst Ends (sym c.deref.ensures.value) c.self.invariant;
  first_is = refl;
  provided_is = λ same.
      ap (λ (p : Places). p.provided) (sym c.self.view_is)
      ∙ (sym c.as_slice.ensures.value ∙ (slice_eq-Decides same_number _ _ _ c.eq.ensures).0 same);
}
