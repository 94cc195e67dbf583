-- The difference of a region does not turn on the names of input sections.
use Rattle.place_sections.proofs.Common.{Bool, KeyedSection, List, Naming, None, Option, PlacedOutput, Some, [], cond}
use Rattle.place_sections.proofs.Common.{difference_by, difference_in, difference_of, false, filter, last_or, map}
use Rattle.place_sections.proofs.Common.{nameless, option_map_or, refl, same_region, section_of, true, ℕ, ◌∷◌, ◌≡◌}

last_difference : (n m : Naming) (region : Option (List ℕ)) (a b : Option PlacedOutput) (xs : List KeyedSection)
    → option_map_or difference_of a 0 ≡ option_map_or difference_of b 0
    → option_map_or difference_of
    (last_or a (filter (λ (q : PlacedOutput). same_region q.region region) (map (section_of n) xs))) 0
    ≡ option_map_or difference_of
    (last_or b (filter (λ (q : PlacedOutput). same_region q.region region) (map (section_of m) xs))) 0
last_difference n m region a b [] h = h
last_difference n m region a b (x ∷ xs) h =
    go (same_region x.region region)
    (last_difference n m region (Some (section_of n x)) (Some (section_of m x)) xs refl)
    (last_difference n m region a b xs h)
  where
    go : (t : Bool) → option_map_or difference_of
        (last_or (Some (section_of n x))
        (filter (λ (q : PlacedOutput). same_region q.region region) (map (section_of n) xs))) 0
        ≡ option_map_or difference_of
        (last_or (Some (section_of m x))
        (filter (λ (q : PlacedOutput). same_region q.region region) (map (section_of m) xs))) 0
        → option_map_or difference_of
        (last_or a (filter (λ (q : PlacedOutput). same_region q.region region) (map (section_of n) xs))) 0
        ≡ option_map_or difference_of
        (last_or b (filter (λ (q : PlacedOutput). same_region q.region region) (map (section_of m) xs))) 0
        → option_map_or difference_of
        (last_or a (cond t (section_of n x ∷ filter (λ (q : PlacedOutput). same_region q.region region)
        (map (section_of n) xs))
        (filter (λ (q : PlacedOutput). same_region q.region region) (map (section_of n) xs)))) 0
        ≡ option_map_or difference_of
        (last_or b (cond t (section_of m x ∷ filter (λ (q : PlacedOutput). same_region q.region region)
        (map (section_of m) xs))
        (filter (λ (q : PlacedOutput). same_region q.region region) (map (section_of m) xs)))) 0
    go true there later = there
    go false there later = later

pub difference_named : (n : Naming) (xs : List KeyedSection) (region : Option (List ℕ)) → difference_by xs region
    ≡ difference_in (map (section_of n) xs) region
unfolding difference_by difference_in
difference_named n xs region = last_difference nameless n region None None xs refl
