use Rattle.place_terms.proofs.Common.{drop, map, region_of, ◌++◌, ◌≡◌}
use Rattle.ldmodel.specs.PlacementView.{region_of as numbers}
use Rattle.place_terms.proofs.wholes.regions_of.Given as goal

abbrev pub invariant-loop-region : goal.invariant-loop-region
invariant-loop-region l = map numbers (map region_of l.regions) ≡ l.list.items
    ++ map numbers (map region_of (drop l.region-index l.regions))
