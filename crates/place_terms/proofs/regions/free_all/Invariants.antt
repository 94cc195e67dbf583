use Rattle.place_terms.proofs.Common.{Some, drop, freed_from, map, region_of, take, ◌++◌, ◌≡◌}
use Rattle.place_terms.proofs.regions.free_all.Given as goal

abbrev pub invariant-loop-region : goal.invariant-loop-region
invariant-loop-region l = freed_from (Some l.name) l.next (map region_of l.fn.list)
    ≡ map region_of (take l.region-index l.list)
    ++ freed_from (Some l.name) l.next (map region_of (drop l.region-index l.list))
