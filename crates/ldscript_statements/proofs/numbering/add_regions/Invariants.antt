-- What is listed, with what is still to be listed, is all.
use Rattle.ldscript_statements.proofs.Common.{drop, shown_regions, ◌++◌, ◌≡◌}
use Rattle.ldscript_statements.proofs.numbering.add_regions.Given as goal

abbrev pub invariant-loop-region : goal.invariant-loop-region
invariant-loop-region l = shown_regions l.list.items ++ (drop l.region-index l.these) ≡ shown_regions
    l.initial.list.items ++ l.these
