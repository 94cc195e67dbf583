-- What is listed, with what is still to be listed, is all.
use Rattle.ldscript_statements.proofs.Common.{drop, in_regions, shown, ◌++◌, ◌≡◌}
use Rattle.ldscript_statements.proofs.mention.note_regions.Given as goal

abbrev pub invariant-loop-region : goal.invariant-loop-region
invariant-loop-region l = shown l.list.items ++ in_regions
    (drop l.region-index l.regions) ≡ shown l.initial.list.items ++ in_regions l.regions
