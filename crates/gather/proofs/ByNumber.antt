-- A section of an object by its header number, and what is asked of it.
use Rattle.gather.proofs.Common.{All, All-head, All-tail, AllPairs, AscendingSections, IsAscending, IsObjectAt}
use Rattle.gather.proofs.Common.{LinkedSection, List, NamedObject, None, ObjectData, Option, Project, Some, [], ap}
use Rattle.gather.proofs.Common.{arith, eq-eqb, find, get_or, get_or_from_slice_get, length, length-map, map, nat_eq}
use Rattle.gather.proofs.Common.{ne_eqb, option_and_then, option_map, option_map_or, refl, same_Some, section_of}
use Rattle.gather.proofs.Common.{slice_get, slice_get-map, slice_get_within, subst, suc, sym, zero, ℕ, ◌<◌, ◌∙◌, ◌∷◌}
use Rattle.gather.proofs.Common.{◌≡◌}
use Rattle.elfobj.specs.Numbering.{IsNumberedAt}
use Rattle.elfobj.specs.declared.section.Section.{Section}
use Rattle.elfobj.specs.declared.section.SectionIndex.{SectionIndex}
use Rattle.ldmodel.specs.FaultCode.{section_at}
use Rattle.ldmodel.specs.Image.{section_numbered}
use Rattle.gather.proofs.InLists.{there}

abbrev Ascend : List LinkedSection → Type 0
Ascend xs = AllPairs (λ (s t : Section). s.number.0 < t.number.0) (map section_of xs)

pub at_place : (xs : List LinkedSection) (i : ℕ) (x : LinkedSection) (d : Section) → slice_get xs i ≡ Some x
    → get_or (map section_of xs) i d ≡ section_of x
at_place xs i x d e =
    get_or_from_slice_get (map section_of xs) i (section_of x) d (slice_get-map section_of xs i
    ∙ ap (λ o. option_map section_of o) e)

pub found : (xs : List LinkedSection) (i : ℕ) (x : LinkedSection) → Ascend xs → slice_get xs i ≡ Some x
    → find (λ y. nat_eq y.number.0 x.number.0) xs ≡ Some x
found [] i x pairs e = cc
found (y ∷ ys) zero x pairs e =
    let same : y ≡ x = same_Some _ _ e in
    rw (eq-eqb y.number.0 x.number.0 (ap (λ (s : LinkedSection). s.number.0) same)) e
found (y ∷ ys) (suc i) x pairs e =
    let low : i < length ys = slice_get_within ys i x e in
    let many : i < length (map section_of ys) = omega (arith, low, length-map ys section_of) in
    let below : y.number.0 < x.number.0 =
    rw (at_place ys i x (section_of y) e) at
    (pairs zero (suc i) (section_of y) (omega arith) (omega (arith, many))) in
    rw (ne_eqb y.number.0 x.number.0 (λ same. absurd (omega (arith, below, same))))
    (found ys i x (λ a b d before short. pairs (suc a) (suc b) d (omega (arith, before)) (omega (arith, short))) e)

-- the section of an object of the project
pub section_found : (p : Project) (i n : ℕ) (o : NamedObject) (x : LinkedSection) → AscendingSections p
    → slice_get p.objects i ≡ Some o → slice_get o.object.sections n ≡ Some x → section_at p i x.number ≡ Some x
section_found p i n o x up at is =
    let within : i < length p.objects = slice_get_within p.objects i o at in
    let here : IsAscending o =
    subst IsAscending (get_or_from_slice_get p.objects i o o at) (up i o within) in
    ap (λ m. option_and_then (λ (o : NamedObject). section_numbered o x.number) m) at
    ∙ found o.object.sections n x here is

-- what is asked of the section of a header number
pub asked_there : {A : Type 0} (f : LinkedSection → A) (d : A) (xs : List LinkedSection) (i : ℕ)
    (number : SectionIndex) (y : A) → IsNumberedAt (map section_of xs) number i
    → AllPairs (λ (s t : Section). s.number.0 < t.number.0) (map section_of xs)
    → slice_get (map f xs) i ≡ Some y
    → y ≡ option_map_or f (find (λ (x : LinkedSection). nat_eq x.number.0 number.0) xs) d
asked_there f d xs i number y at up is =
    let long : length (map section_of xs) ≡ length xs = length-map xs section_of in
    let low : i < length (map section_of xs) = at.within in
    let x = there xs i (omega (arith, low, long)) in
    let same : x.0.number.0 ≡ number.0 =
    ap (λ (s : Section). s.number.0) (sym (at_place xs i x.0 (section_of x.0) x.1)) ∙ at.number_is (section_of x.0) in
    let one : find (λ (y : LinkedSection). nat_eq y.number.0 number.0) xs ≡ Some x.0 =
    ap (λ (n : ℕ). find (λ (y : LinkedSection). nat_eq y.number.0 n) xs) (sym same) ∙ found xs i x.0 up x.1 in
    let own : f x.0 ≡ y = same_Some _ _ (ap (λ o. option_map f o) (sym x.1) ∙ (sym (slice_get-map f xs i) ∙ is)) in
    sym own ∙ ap (λ o. option_map_or f o d) (sym one)

none_numbered : (xs : List LinkedSection) (number : SectionIndex)
    → All (λ (s : Section). s.number.0 ≡ number.0 → ⊥) (map section_of xs)
    → find (λ (x : LinkedSection). nat_eq x.number.0 number.0) xs ≡ None
none_numbered [] number h = refl
none_numbered (x ∷ xs) number h =
    rw (ne_eqb x.number.0 number.0
    (All-head (λ (s : Section). s.number.0 ≡ number.0 → ⊥) (section_of x) (map section_of xs) h))
    (none_numbered xs number
    (All-tail (λ (s : Section). s.number.0 ≡ number.0 → ⊥) (section_of x) (map section_of xs) h))

pub asked_nowhere : {A : Type 0} (f : LinkedSection → A) (d : A) (xs : List LinkedSection) (number : SectionIndex)
    → All (λ (s : Section). s.number.0 ≡ number.0 → ⊥) (map section_of xs)
    → d ≡ option_map_or f (find (λ (x : LinkedSection). nat_eq x.number.0 number.0) xs) d
asked_nowhere f d xs number h = ap (λ o. option_map_or f o d) (sym (none_numbered xs number h))

-- the same of an object of the project
pub asked_at : {A : Type 0} (f : LinkedSection → A) (d : A) (p : Project) (i : ℕ) (object : ObjectData)
    (number : SectionIndex) (y : A) → IsObjectAt p i object
    → y ≡ option_map_or f (section_numbered (record { name = []; object = object }) number) d
    → y ≡ option_map_or f (section_at p i number) d
asked_at f d p i object number y at are = go (slice_get p.objects i) at
  where
    go : (m : Option NamedObject) → option_map (λ (o : NamedObject). o.object) m ≡ Some object
        → y ≡ option_map_or f (option_and_then (λ (o : NamedObject). section_numbered o number) m) d
    go None e = absurd (cc)
    go (Some o) e =
        are ∙ ap (λ (x : ObjectData). option_map_or f (section_numbered (record { name = []; object = x }) number) d)
        (sym (same_Some o.object object e))

-- where there is no object
pub asked_of_none : {A : Type 0} (f : LinkedSection → A) (d : A) (p : Project) (i : ℕ) (number : SectionIndex)
    → option_map (λ (o : NamedObject). o.object) (slice_get p.objects i) ≡ None
    → d ≡ option_map_or f (section_at p i number) d
asked_of_none f d p i number e = go (slice_get p.objects i) e
  where
    go : (m : Option NamedObject) → option_map (λ (o : NamedObject). o.object) m ≡ None
        → d ≡ option_map_or f (option_and_then (λ (o : NamedObject). section_numbered o number) m) d
    go None e = refl
    go (Some o) e = absurd (cc)
