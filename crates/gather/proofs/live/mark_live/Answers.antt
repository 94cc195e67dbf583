use Rattle.gather.proofs.Common.{AreKeyPlaces, AreProjectPlaces, Bool, Contains, Global, IfOk-weaker, InputSection}
use Rattle.gather.proofs.Common.{IsPlaceOf, IsSectionAt, IsTrue, List, Option, Some, Vec, ap, entry_section}
use Rattle.gather.proofs.Common.{input_sections, is_discarded, is_kept, length, length-map, place_under, subst, sym}
use Rattle.gather.proofs.Common.{taken_by, ℕ, ◌↔◌, ◌∙◌, ◌≡◌, ◌⊎◌}
use Rattle.gather.proofs.Keyed.{place_of_key}
use Rattle.gather.proofs.Starting.{graph_is}
use Rattle.gather.proofs.live.mark_live.Goals as goal

pub mark-requires-clause-count : goal.mark-requires-clause-count
mark-requires-clause-count c =
    let p = c.args.project.now in
    sym (ap length c.requires.out ∙ length-map (input_sections p) (is_discarded p))

pub mark-requires-clause-can : goal.mark-requires-clause-can
mark-requires-clause-can c =
    let p = c.args.project.now in
    record {
      named = c.requires.symbol_table;
      sections = c.requires.sections;
      placed =
          subst (λ (l : List (Option ℕ)). AreProjectPlaces p (place_under c.args.table.now l))
          (sym c.deref.ensures.value) c.in_ok-column.ensures;
      keyed =
          subst (AreKeyPlaces p c.args.symbol_table.now) (sym c.deref-2.ensures.value) c.in_ok-by_key.ensures;
    }

pub returns : goal.returns
returns c =
    let p = c.args.project.now in
    let place : IsPlaceOf p (entry_section p) c.find-entry.result =
    place_of_key p (place_under c.args.table.now c.deref.result.now) c.entry_section.result (entry_section p)
    c.find-entry.result
    (subst (λ (l : List (Option ℕ)). AreProjectPlaces p (place_under c.args.table.now l)) (sym c.deref.ensures.value)
    c.in_ok-column.ensures) c.entry_section.ensures c.find-entry.ensures in
    let roots : (k : ℕ) (s : InputSection) → IsSectionAt p k s
    → (IsTrue (is_kept (taken_by p s)) ⊎ (c.find-entry.result ≡ Some k)) ↔ Contains c.deref-3.result.now k =
    subst (λ (l : List ℕ). (k : ℕ) (s : InputSection) → IsSectionAt p k s
    → (IsTrue (is_kept (taken_by p s)) ⊎ (c.find-entry.result ≡ Some k)) ↔ Contains l k)
    (sym c.deref-3.ensures.value)
    (c.in_ok-roots.ensures p (sym c.script.ensures) c.requires.sections) in
    IfOk-weaker c.mark.result _ _
    (λ (marks : Vec Bool Global) h. h p c.requires.collected
    (graph_is p c.args.out.now c.deref-3.result.now c.find-entry.result c.requires.out place roots))
    c.mark.ensures.live
