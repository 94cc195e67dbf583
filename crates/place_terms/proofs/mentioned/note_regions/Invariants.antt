-- What is listed, with what is still to be listed, is all.
use Rattle.place_terms.proofs.Common.{drop, in_regions, shown_names, ◌++◌, ◌≡◌}
use Rattle.place_terms.proofs.mentioned.note_regions.Given as goal

abbrev pub invariant-loop-region : goal.invariant-loop-region
invariant-loop-region l = shown_names l.names.items ++ in_regions (drop l.region-index l.regions)
    ≡ shown_names l.initial.names.items ++ in_regions l.regions
