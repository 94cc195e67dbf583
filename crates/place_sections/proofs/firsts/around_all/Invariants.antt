-- Around those so far.
use Rattle.place_sections.proofs.Common.{Around, Extent, get_or, ℕ, ◌<◌}
use Rattle.place_sections.proofs.firsts.around_all.Given as goal

abbrev pub invariant-loop-extent : goal.invariant-loop-extent
invariant-loop-extent l = (j : ℕ) (d : Extent) → j < l.extent-index → Around l.all (get_or l.extents j d)
