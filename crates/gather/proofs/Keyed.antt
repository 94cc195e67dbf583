-- Input sections of a project under their keys.
use Rattle.gather.proofs.Common.{AreGathered, ArePlaces, AreProjectPlaces, Contains, Facts, GatheredSection}
use Rattle.gather.proofs.Common.{InputSection, InputSectionTable, IsPlaceOf, IsSectionAt, IsSome, List, None, Option}
use Rattle.gather.proofs.Common.{Project, SectionId, SectionRef, Some, and_from, and_parts, ap, arith, eq-eqb, eqb}
use Rattle.gather.proofs.Common.{eqb-true, facts, get_or, get_or-map, get_or_default, get_or_from_slice_get}
use Rattle.gather.proofs.Common.{input_sections, is_same, is_same_part, length, length-map, map, option_and_then}
use Rattle.gather.proofs.Common.{option_map, own_part, refl, same_part, section_id, shown_facts, slice_get_within}
use Rattle.gather.proofs.Common.{subst, sym, true, ℕ, ◌<◌, ◌∙◌, ◌≡◌}
use Rattle.gather.specs.SectionTable.{IsTableOf, number_of}
use Rattle.gather.proofs.InLists.{there}

abbrev pub id_in : SectionRef → SectionId
id_in k = section_id (λ key. key) k

same_id : (a b : SectionId) → is_same a b ≡ true → a ≡ b
same_id a b h =
    let both = and_parts (eqb a.object b.object) (is_same_part a.part b.part) h in
    ap (λ n. record { object = n; part = a.part }) (eqb-true a.object b.object both.0)
    ∙ ap (λ q. record { object = b.object; part = q }) (same_part a.part b.part both.1)

id_itself : (a : SectionId) → is_same a a ≡ true
id_itself a =
    and_from (eqb a.object a.object) (is_same_part a.part a.part) (eq-eqb a.object a.object refl) (own_part a.part)

key_of : SectionId → SectionRef
key_of i = record { object = record { 0 = i.object }; part = i.part }

key_is : (a b : SectionRef) → id_in a ≡ id_in b → a ≡ b
unfolding key_of
key_is a b h = ap key_of h

the_some : (o : Option ℕ) → IsSome o → (m : ℕ) × (o ≡ Some m)
the_some None h = absurd (cc)
the_some (Some m) h = (m, refl)

module _ (p : Project) (xs : List GatheredSection) (are : AreGathered p xs) where
  pub as_many : length xs ≡ length (input_sections p)
  as_many =
      sym (length-map xs shown_facts) ∙ (ap length are.facts
      ∙ length-map (input_sections p) (facts p))

  -- the key of a section is that of its place
  pub id_at : (b : ℕ) (s : InputSection) (x : GatheredSection) → IsSectionAt p b s → get_or xs b x ≡ x
      → id_in x.section ≡ s.id
  id_at b s x at is =
      let within : b < length (input_sections p) = slice_get_within (input_sections p) b s at in
      let low : b < length xs = omega (arith, within, as_many) in
      let left : get_or (map shown_facts xs) b (facts p s) ≡ shown_facts x =
      get_or-map shown_facts xs b x (facts p s) low ∙ ap shown_facts is in
      let right : get_or (map (facts p) (input_sections p)) b (facts p s) ≡ facts p s =
      get_or-map (facts p) (input_sections p) b s (facts p s) within
      ∙ ap (facts p) (get_or_from_slice_get (input_sections p) b s s at) in
      ap (λ (f : Facts). f.id) (sym left ∙ (ap (λ l. get_or l b (facts p s)) are.facts ∙ right))

  pub within_gathered : (b : ℕ) (s : InputSection) → IsSectionAt p b s → b < length xs
  within_gathered b s at =
      let within : b < length (input_sections p) = slice_get_within (input_sections p) b s at in
      omega (arith, within, as_many)

  -- each of them has a number
  pub are_numbered : (t : InputSectionTable) → IsTableOf p t → (b : ℕ) (x : GatheredSection) → b < length xs
      → IsSome (number_of t (get_or xs b x).section.object.0 (get_or xs b x).section.part)
  are_numbered t table b x low =
      let s = there (input_sections p) b (omega (arith, low, as_many)) in
      let y : GatheredSection = get_or xs b x in
      let inside : Contains (input_sections p) s.0 =
      (b, omega (arith, low, as_many), get_or_from_slice_get (input_sections p) b s.0 s.0 s.1) in
      subst (λ (i : SectionId). IsSome (number_of t i.object i.part))
      (sym (id_at b s.0 y s.1 (get_or_default xs b y x low))) (table.all s.0 inside)

  module _ (place : SectionRef → Option ℕ) (places : ArePlaces xs (length xs) place)
      (apart : (a b : ℕ) (s u : InputSection) → IsSectionAt p a s → IsSectionAt p b u → s.id ≡ u.id → a ≡ b) where
    -- the number m that the key has, at which x and section u of the project stand, is that of section s
    one_place : (k : SectionRef) (b m : ℕ) (s u : InputSection) (x : GatheredSection) → IsSectionAt p b s → id_in k
        ≡ s.id
        → place k ≡ Some m → get_or xs m x ≡ x → IsSectionAt p m u → m ≡ b
    one_place k b m s u x at same is here stands =
        let its : x.section ≡ k = ap (λ (z : GatheredSection). z.section) (sym here) ∙ places.is k m x is in
        let alike : u.id ≡ s.id = sym (id_at m u x stands here) ∙ (ap id_in its ∙ same) in
        apart m b u s stands at alike

    with_place : (k : SectionRef) (b m : ℕ) (s : InputSection) → IsSectionAt p b s → id_in k ≡ s.id
        → place k ≡ Some m → place k ≡ Some b
    with_place k b m s at same is =
        let low : m < length xs = places.below k m is in
        let x = there xs m low in
        let u = there (input_sections p) m (omega (arith, low, as_many)) in
        is ∙ ap (λ i. Some i)
        (one_place k b m s u.0 x.0 at same is (get_or_from_slice_get xs m x.0 x.0 x.1) u.1)

    has_place : (k : SectionRef) (b : ℕ) (s : InputSection) (x : GatheredSection) → IsSectionAt p b s → id_in k ≡ s.id
        → get_or xs b x ≡ x → IsSome (place k)
    has_place k b s x at same here =
        let key : x.section ≡ k = key_is x.section k (id_at b s x at here ∙ sym same) in
        let own : (get_or xs b x).section ≡ k = ap (λ (y : GatheredSection). y.section) here ∙ key in
        subst (λ (q : SectionRef). IsSome (place q)) own (places.all b x (within_gathered b s at))

    at_once : (k : SectionRef) (b : ℕ) (s : InputSection) → IsSectionAt p b s → id_in k ≡ s.id → place k ≡ Some b
    at_once k b s at same =
        let x = there xs b (within_gathered b s at) in
        let m = the_some (place k)
        (has_place k b s x.0 at same (get_or_from_slice_get xs b x.0 x.0 x.1)) in
        with_place k b m.0 s at same m.1

    at_its_place : (k : SectionRef) (b : ℕ) (s : InputSection) (x : GatheredSection) → IsSectionAt p b s
        → place k ≡ Some b → get_or xs b x ≡ x → s.id ≡ id_in k
    at_its_place k b s x at h here =
        let its : x.section ≡ k = ap (λ (z : GatheredSection). z.section) (sym here) ∙ places.is k b x h in
        sym (id_at b s x at here) ∙ ap id_in its

    from_place : (k : SectionRef) (b : ℕ) (s : InputSection) → IsSectionAt p b s → place k ≡ Some b
        → s.id ≡ id_in k
    from_place k b s at h =
        let x = there xs b (within_gathered b s at) in
        at_its_place k b s x.0 at h (get_or_from_slice_get xs b x.0 x.0 x.1)

    pub project_places : AreProjectPlaces p place
    project_places k b s at = (
      λ same. at_once k b s at (sym (same_id s.id (id_in k) same)),
      λ h. subst (λ (i : SectionId). is_same s.id i ≡ true) (from_place k b s at h) (id_itself s.id),
    )

-- of a key, if there is one
pub place_of_key : (p : Project) (place : SectionRef → Option ℕ) (key : Option SectionRef) (id : Option SectionId)
    (number : Option ℕ)
    → AreProjectPlaces p place → option_map (section_id (λ key. key)) key ≡ id
    → number ≡ option_and_then (place) key → IsPlaceOf p id number
place_of_key p place key id number are same is =
    subst (λ (i : Option SectionId). IsPlaceOf p i number) same
    (subst (λ (n : Option ℕ). IsPlaceOf p (option_map (section_id (λ key. key)) key) n) (sym is) (go key))
  where
    go : (key : Option SectionRef) → IsPlaceOf p (option_map (section_id (λ key. key)) key)
        (option_and_then (place) key)
    go None b s at = (λ h. absurd (cc), λ h. absurd (cc))
    go (Some k) b s at = are k b s at
