-- The faults by numbers are those of the definition by names.
use Rattle.place_sections.proofs.Common.{AreOutputs, AreOverlaps, Bool, Extent, Fault, List, Load, Memory, None, Option}
use Rattle.place_sections.proofs.Common.{OutputSectionAt, Placed, PlacedOutput, Project, Some, Space, [], ap}
use Rattle.place_sections.proofs.Common.{append_assoc, cases_lt, cond, extent_in, extents_in, fault_in, fault_with}
use Rattle.place_sections.proofs.Common.{find, first_overlap, get_or, inl, inr, le-ltb, length, length-map, lt-ltb, map}
use Rattle.place_sections.proofs.Common.{map-append, nat_lt, not, option_map, option_map_or, output_sections, overlap}
use Rattle.place_sections.proofs.Common.{overlaps_after, overlaps_before, placed_of, position, position_or_len, refl}
use Rattle.place_sections.proofs.Common.{slice_get, subst, suc, sym, unwrap_or, zero, ℕ, ◌++◌, ◌+◌, ◌∙◌, ◌∷◌, ◌≡◌}
use Rattle.std.proofs.lemmas.List.Folds.{find_at}
use Rattle.std.proofs.lemmas.Simd.{map-map}
use Rattle.std.proofs.lemmas.Option.{slice_get-get_or, slice_get-map, slice_get_past}
use Rattle.ldmodel.specs.Fault as fault
use Rattle.ldmodel.specs.FaultCode.{fault_of, name_of_output}
use Rattle.ldmodel.specs.Overlaps.{addresses_overlap, load_addresses_overlap, overlap_faults, overlap_fault, overlaps}
use Rattle.ldmodel.specs.declared.fault.Fault as code
use Rattle.place_sections.proofs.Taking.{after_first}

abbrev extent_of : Space → PlacedOutput → Extent
extent_of space q = extent_in space (placed_of q)

abbrev overlaps_in : Space → PlacedOutput → PlacedOutput → Bool
overlaps_in Memory = addresses_overlap
overlaps_in Load = load_addresses_overlap

abbrev fault_named : Space → List ℕ → List ℕ → Fault
fault_named Memory = fault.AddressesOverlap
fault_named Load = fault.LoadAddressesOverlap

-- the test on ranges is that on sections
overlaps_are : (space : Space) (q : PlacedOutput) → (λ x. overlap (extent_of space q) (extent_of space x))
    ≡ overlaps_in space q
overlaps_are Memory q = refl
overlaps_are Load q = refl

fault_is : (p : Project) (number : ℕ → ℕ) (space : Space) (k i : ℕ)
    → fault_of p number (fault_in space (record { 0 = k }) (record { 0 = i }))
    ≡ fault_named space (name_of_output p k) (name_of_output p i)
unfolding fault_of
fault_is p number Memory k i = refl
fault_is p number Load k i = refl

-- the first place at which a test passes, through a map
place_is : {A B : Type 0} (f : A → B) (p : B → Bool) (xs : List A)
    → position_or_len p (map f xs) ≡ position_or_len (λ x. p (f x)) xs
place_is f p [] = refl
place_is f p (x ∷ xs) = ap (λ n. cond (not (p (f x))) (1 + n) 0) (place_is f p xs)

position_is : {A B : Type 0} (f : A → B) (p : B → Bool) (xs : List A)
    → position p (map f xs) ≡ position (λ x. p (f x)) xs
position_is f p xs =
    ap (λ n. cond (nat_lt n (length (map f xs))) (Some n) None) (place_is f p xs)
    ∙ ap (λ n. cond (nat_lt (position_or_len (λ x. p (f x)) xs) n) (Some (position_or_len (λ x. p (f x)) xs)) None)
    (length-map xs f)

mapped_or : {A B : Type 0} (f : A → B) (o : Option A) (d : B) → option_map_or f o d ≡ unwrap_or (option_map f o) d
mapped_or f None d = refl
mapped_or f (Some x) d = refl

abbrev NamesStand : Project → List PlacedOutput → Type 0
NamesStand p s = (k : ℕ) (q : PlacedOutput) → slice_get s k ≡ Some q → name_of_output p k ≡ q.name

names_stand : (p : Project) (s : List PlacedOutput) → AreOutputs p s → NamesStand p s
names_stand p s outputs k q at =
    mapped_or (λ (o : OutputSectionAt). o.section.name) (slice_get (output_sections p.script) k) []
    ∙ ap (λ o. unwrap_or o [])
    (sym (slice_get-map (λ (o : OutputSectionAt). o.section.name) (output_sections p.script) k)
    ∙ ap (λ l. slice_get l k) (sym outputs)
    ∙ slice_get-map (λ (x : PlacedOutput). x.name) s k
    ∙ ap (λ o. option_map (λ (x : PlacedOutput). x.name) o) at)

get_left : {A : Type 0} (xs ys : List A) (i : ℕ) (x : A) → slice_get xs i ≡ Some x → slice_get (xs ++ ys) i ≡ Some x
get_left [] ys i x at = absurd (cc at)
get_left (z ∷ zs) ys zero x at = at
get_left (z ∷ zs) ys (suc i) x at = get_left zs ys i x at

-- the fault of one section
overlap_is : (p : Project) (number : ℕ → ℕ) (space : Space) (earlier rest : List PlacedOutput) (q : PlacedOutput)
    → NamesStand p (earlier ++ q ∷ rest)
    → map (fault_of p number) (fault_with space (length earlier) (position (overlaps_in space q) earlier))
    ≡ overlap_fault (fault_named space) q (find (overlaps_in space q) earlier)
overlap_is p number space earlier rest q names = elim (cases_lt i (length earlier)) [
  | inl within ↦
      let x : PlacedOutput = get_or earlier i q in
      let at : slice_get earlier i ≡ Some x = slice_get-get_or earlier i q within in
      ap (λ o. map (fault_of p number) (fault_with space (length earlier) o))
      (ap (λ b. cond b (Some i) None) (lt-ltb i (length earlier) within))
      ∙ ap (λ f. f ∷ []) (fault_is p number space (length earlier) i)
      ∙ ap (λ n. fault_named space n (name_of_output p i) ∷ []) (names (length earlier) q (after_first earlier q rest))
      ∙ ap (λ n. fault_named space q.name n ∷ []) (names i x (get_left earlier (q ∷ rest) i x at))
      ∙ ap (overlap_fault (fault_named space) q) (sym (find_at (overlaps_in space q) earlier ∙ at))
  | inr past ↦
      ap (λ o. map (fault_of p number) (fault_with space (length earlier) o))
      (ap (λ b. cond b (Some i) None) (le-ltb i (length earlier) past))
      ∙ ap (overlap_fault (fault_named space) q)
      (sym (find_at (overlaps_in space q) earlier ∙ slice_get_past earlier i past))
] where
  i : ℕ
  i = position_or_len (overlaps_in space q) earlier

pub all_overlaps : (p : Project) (number : ℕ → ℕ) (space : Space) (earlier rest : List PlacedOutput)
    → NamesStand p (earlier ++ rest)
    → map (fault_of p number) (overlaps_after space (map (extent_of space) earlier) (map (extent_of space) rest))
    ≡ overlap_faults (overlaps_in space) (fault_named space) earlier rest
unfolding overlaps_after
all_overlaps p number space earlier [] names = refl
all_overlaps p number space earlier (q ∷ qs) names =
    let before : List Extent = map (extent_of space) earlier in
    let later : List code.Fault = overlaps_after space (before ++ extent_of space q ∷ []) (map (extent_of space) qs) in
    map-append (fault_of p number) (fault_with space (length before) (first_overlap before (extent_of space q))) later
    ∙ ap (λ l. l ++ map (fault_of p number) later)
    (ap (λ n. map (fault_of p number) (fault_with space n (first_overlap before (extent_of space q))))
    (length-map earlier (extent_of space))
    ∙ ap (λ o. map (fault_of p number) (fault_with space (length earlier) o))
    (position_is (extent_of space) (overlap (extent_of space q)) earlier
    ∙ ap (λ t. position t earlier) (overlaps_are space q))
    ∙ overlap_is p number space earlier qs q names)
    ∙ ap (λ l. overlap_fault (fault_named space) q (find (overlaps_in space q) earlier) ++ l)
    (ap (λ l. map (fault_of p number) (overlaps_after space l (map (extent_of space) qs)))
    (sym (map-append (extent_of space) earlier (q ∷ [])))
    ∙ all_overlaps p number space (earlier ++ q ∷ []) qs
    (subst (NamesStand p) (sym (append_assoc earlier (q ∷ []) qs)) names))

-- what is found in both spaces
pub both_overlaps : (placed : List Placed) (faults : List code.Fault)
    → faults ≡ overlaps_before Memory (extents_in Memory placed) ++ overlaps_before Load (extents_in Load placed)
    → AreOverlaps placed faults
unfolding overlaps
both_overlaps placed faults found p number s same outputs =
    let names : NamesStand p s = names_stand p s outputs in
    let stands : (space : Space) → map (fault_of p number) (overlaps_before space (extents_in space placed))
    ≡ overlap_faults (overlaps_in space) (fault_named space) [] s =
    λ space.
    ap (λ l. map (fault_of p number) (overlaps_before space l))
    (ap (extents_in space) (sym same) ∙ map-map (extent_in space) placed_of s)
    ∙ all_overlaps p number space [] s names in
    ap (map (fault_of p number)) found
    ∙ map-append (fault_of p number) (overlaps_before Memory (extents_in Memory placed))
    (overlaps_before Load (extents_in Load placed))
    ∙ ap (λ l. l ++ map (fault_of p number) (overlaps_before Load (extents_in Load placed))) (stands Memory)
    ∙ ap (λ l. overlap_faults addresses_overlap fault.AddressesOverlap [] s ++ l) (stands Load)
