-- What the code's tables of regions and output sections find.
use Rattle.place_terms.proofs.Common.{AreInOrder, List, MemoryRegion, None, Some, Statement, [], ap, arith, freed_from}
use Rattle.place_terms.proofs.Common.{get_or, get_or-map, length, length-map, map, map-set, option_and_then, option_map}
use Rattle.place_terms.proofs.Common.{refl, region_named, region_names, region_number, region_of, set, slice_get}
use Rattle.place_terms.proofs.Common.{slice_get-map, subst, suc, sym, zero, ℕ, ◌+◌, ◌<◌, ◌∙◌, ◌∷◌, ◌≡◌, ◌≤◌}
use Rattle.std.proofs.lemmas.Option.{slice_get_past}
use Rattle.place_terms.proofs.Numbers.{regions_told}
use Rattle.place_terms.proofs.TablesByNumber.{found_under, freed_at, unfreed}
use Rattle.place_terms.specs.declared.regions.RegionState.{RegionState}

module _ (script : List Statement) (xs : List RegionState) (name : List ℕ)
    (o : AreInOrder (region_number script) (region_names (map region_of xs))) where
  region_under : region_named (map region_of xs) name
      ≡ option_and_then (λ k. slice_get (map region_of xs) k) (region_number script name)
  region_under = found_under (λ (r : MemoryRegion). r.name) (region_number script) (regions_told script) name
      (map region_of xs) o

  pub region_there : (k : ℕ) (r : RegionState) → region_number script name ≡ Some k → slice_get xs k ≡ Some r
      → region_named (map region_of xs) name ≡ Some (region_of r)
  region_there k r n e =
      region_under ∙ (ap (option_and_then (λ j. slice_get (map region_of xs) j)) n
      ∙ (slice_get-map region_of xs k ∙ ap (option_map region_of) e))

  pub region_past : (k : ℕ) → region_number script name ≡ Some k → length xs ≤ k → region_named (map region_of xs) name
      ≡ None
  region_past k n l =
      region_under ∙ (ap (option_and_then (λ j. slice_get (map region_of xs) j)) n
      ∙ slice_get_past (map region_of xs) k (omega (arith, length-map xs region_of)))

  pub region_unknown : region_number script name ≡ None → region_named (map region_of xs) name ≡ None
  region_unknown n = region_under ∙ ap (option_and_then (λ j. slice_get (map region_of xs) j)) n

  names_long : length (region_names (map region_of xs)) ≡ length xs
  names_long = length-map (map region_of xs) (λ (r : MemoryRegion). r.name) ∙ length-map xs region_of

  pub freed_there : (k next : ℕ) (r : RegionState) → region_number script name ≡ Some k → k < length xs
      → r ≡ get_or xs k r
      → map region_of (set xs k (record r { next = next })) ≡ freed_from (Some name) next (map region_of xs)
  freed_there k next r n l e =
      let long : k < length (map region_of xs) = omega (arith, length-map xs region_of) in
      let at : get_or (map region_of xs) k (region_of r) ≡ region_of r = get_or-map region_of xs k r (region_of r) l
      ∙ ap region_of (sym e) in
      map-set region_of xs k (record r { next = next })
      ∙ (ap (λ (x : MemoryRegion). set (map region_of xs) k (record x { next = next })) (sym at)
      ∙ sym (freed_at (region_number script) (regions_told script) name next 0 (map region_of xs) k (region_of r)
      (λ j h. o j h ∙ ap Some (zero_more j)) (n ∙ ap Some (zero_more k)) long))
    where
      zero_more : (j : ℕ) → j ≡ 0 + j
      zero_more j = omega arith

  pub freed_past : (k next : ℕ) → region_number script name ≡ Some k → length xs ≤ k → map region_of xs
      ≡ freed_from (Some name) next (map region_of xs)
  freed_past k next n l =
      sym (unfreed name next (map region_of xs) (λ j h s. let f = ap (region_number script) s in let g = o j h in
      let m : j ≡ k = cc in omega (arith, names_long)))

  pub freed_unknown : (next : ℕ) → region_number script name ≡ None → map region_of xs
      ≡ freed_from (Some name) next (map region_of xs)
  freed_unknown next n =
      sym (unfreed name next (map region_of xs) (λ j h s. let f = ap (region_number script) s in let g = o j h in
      let no : ⊥ = cc in no))

  pub freed_in_order : (k next : ℕ) (r : RegionState) → r ≡ get_or xs k r
      → AreInOrder (region_number script) (region_names (map region_of (set xs k (record r { next = next }))))
  freed_in_order k next r e =
      let same : region_names (map region_of (set xs k (record r { next = next }))) ≡ region_names (map region_of xs) =
      kept xs k r next e in
      subst (AreInOrder (region_number script)) (sym same) o
    where
      kept : (ys : List RegionState) (j : ℕ) (q : RegionState) (n : ℕ) → q ≡ get_or ys j q
          → region_names (map region_of (set ys j (record q { next = n }))) ≡ region_names (map region_of ys)
      kept [] j q n h = refl
      kept (y ∷ ys) zero q n h = ap (λ (x : RegionState). x.name.now ∷ region_names (map region_of ys)) h
      kept (y ∷ ys) (suc j) q n h = ap (λ l. y.name.now ∷ l) (kept ys j q n h)
