use Rattle.place_terms.proofs.Common.{drop, map, region_named, region_of, ◌≡◌}
use Rattle.place_terms.proofs.regions.find_region.Given as goal

abbrev pub invariant-loop-region : goal.invariant-loop-region
invariant-loop-region l = region_named (map region_of l.list) l.name
    ≡ region_named (map region_of (drop l.region-index l.list)) l.name
