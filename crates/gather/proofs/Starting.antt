-- The graph of a project, and what its sections refer to.
use Rattle.gather.proofs.Common.{AddsTargets, AreGathered, Bool, Contains, GatheredSection, InputSection, IsGraphOf}
use Rattle.gather.proofs.Common.{IsPlaceOf, IsSectionAt, IsTrue, List, Option, Project, Refers, SectionId, Some, [], ap}
use Rattle.gather.proofs.Common.{arith, entry_section, get_or, get_or_default, get_or_from_slice_get, graph_of, inl}
use Rattle.gather.proofs.Common.{input_sections, inr, is_discarded, is_kept, is_section, length, length-map, list_any}
use Rattle.gather.proofs.Common.{map, or_cases, or_left, or_right, refers_to, relocations_of, same_Some}
use Rattle.gather.proofs.Common.{slice_get_within, subst, sym, taken_by, target_section, ℕ, ⊎_elim, ◌<◌, ◌↔◌, ◌∙◌, ◌≡◌}
use Rattle.gather.proofs.Common.{◌⊎◌}
use Rattle.gather.proofs.InLists.{there}
use Rattle.gather.proofs.Keyed.{as_many, id_at, id_in}
use Rattle.gather.proofs.Named.{found_one}

-- of the section of a key
pub own_row : (p : Project) (xs : List GatheredSection) (n : ℕ) (x : GatheredSection)
    → AreGathered p xs → get_or xs n x ≡ x → (s : InputSection) → IsSectionAt p n s
    → (s.id.object ≡ x.section.object.0)
    × (s.relocations ≡ relocations_of p x.section.object.0 x.section.part)
own_row p xs n x are here s at =
    let same : id_in x.section ≡ s.id = id_at p xs are n s x at here in
    let inside : Contains (input_sections p) s =
    (n, slice_get_within (input_sections p) n s at, get_or_from_slice_get (input_sections p) n s s at) in (
      ap (λ (i : SectionId). i.object) (sym same),
      sym (found_one p are.ascending s inside).relocations
          ∙ ap (λ (i : SectionId). relocations_of p i.object i.part) (sym same),
    )

-- what was added for a section, which is x, are the numbers of those that it refers to
module _ (p : Project) (xs : List GatheredSection) (n b : ℕ) (x : GatheredSection) (new : List ℕ)
    (are : AreGathered p xs) (here : get_or xs n x ≡ x) (low : n < length (input_sections p))
    (below : b < length (input_sections p))
    (adds : AddsTargets p x.section.object.0 (relocations_of p x.section.object.0 x.section.part) [] new) where
  as_added : (s t : InputSection) → IsSectionAt p n s → refers_to p s t
      ≡ list_any (λ r. is_section (target_section p x.section.object.0 r) t)
      (relocations_of p x.section.object.0 x.section.part)
  as_added s t at =
      let own = own_row p xs n x are here s at in
      ap (λ (i : ℕ). list_any (λ r. is_section (target_section p i r) t) s.relocations) own.0
      ∙ ap (list_any (λ r. is_section (target_section p x.section.object.0 r) t)) own.1

  refers_in : Refers p n b → Contains new b
  refers_in h =
      let s = there (input_sections p) n low in
      let t = there (input_sections p) b below in
      subst (λ (l : List ℕ). Contains l b) (sym adds.is)
      ((adds.are b t.0 t.1).0 (sym (as_added s.0 t.0 s.1) ∙ h s.0 t.0 s.1 t.1))

  in_refers : Contains new b → Refers p n b
  in_refers c s t at stands =
      as_added s t at ∙ (adds.are b t stands).1 (subst (λ (l : List ℕ). Contains l b) adds.is c)

  pub refers_as : Refers p n b ↔ Contains new b
  refers_as = (refers_in, in_refers)

-- the same of the section at a place
pub refers_at : (p : Project) (xs : List GatheredSection) (n : ℕ) (d : GatheredSection) (old new : List ℕ)
    → AreGathered p xs → n < length (input_sections p) → old ≡ []
    → AddsTargets p (get_or xs n d).section.object.0
    (relocations_of p (get_or xs n d).section.object.0 (get_or xs n d).section.part) old new
    → (b : ℕ) → b < length (input_sections p) → Refers p n b ↔ Contains new b
refers_at p xs n d old new are low none adds b below =
    let x = get_or xs n d in
    let many : length xs ≡ length (input_sections p) = as_many p xs are in
    refers_as p xs n b x new are (get_or_default xs n x d (omega (arith, low, many))) low below
    (subst (λ (l : List ℕ). AddsTargets p x.section.object.0
    (relocations_of p x.section.object.0 x.section.part) l new) none adds)

-- the graph of the project
pub graph_is : (p : Project) (out : List Bool) (roots : List ℕ) (entry : Option ℕ)
    → out ≡ map (is_discarded p) (input_sections p) → IsPlaceOf p (entry_section p) entry
    → ((k : ℕ) (s : InputSection) → IsSectionAt p k s
    → (IsTrue (is_kept (taken_by p s)) ⊎ (entry ≡ Some k)) ↔ Contains roots k)
    → IsGraphOf p (graph_of out roots (Refers p))
graph_is p out roots entry is_out_of number are = record {
  out = is_out_of;
  roots = λ k s at o. (
    λ h. ⊎_elim
        (λ e. (are k s at).0 (inr ((number k s at).0 e)))
        (λ e. (are k s at).0 (inl e))
        (or_cases (is_section (entry_section p) s) (is_kept (taken_by p s)) h),
    λ c. ⊎_elim
        (λ e. or_right (is_section (entry_section p) s) (is_kept (taken_by p s)) e)
        (λ e. or_left (is_section (entry_section p) s) (is_kept (taken_by p s)) ((number k s at).1 e))
        ((are k s at).1 c),
  );
  references = λ a b s t at stands o q. (λ h. (low a s at, same s t h a b at stands), λ c. c.1 s t at stands);
}
  where
    low : (a : ℕ) (s : InputSection) → IsSectionAt p a s → a < length out
    low a s at =
        let within : a < length (input_sections p) = slice_get_within (input_sections p) a s at in
        let many : length out ≡ length (input_sections p) =
        ap length is_out_of ∙ length-map (input_sections p) (is_discarded p) in
        omega (arith, within, many)

    same : (s t : InputSection) → IsTrue (refers_to p s t) → (a b : ℕ) → IsSectionAt p a s → IsSectionAt p b t
        → Refers p a b
    same s t h a b at stands x y here there =
        subst (λ (z : InputSection). IsTrue (refers_to p z y)) (same_Some s x (sym at ∙ here))
        (subst (λ (z : InputSection). IsTrue (refers_to p s z)) (same_Some t y (sym stands ∙ there)) h)
