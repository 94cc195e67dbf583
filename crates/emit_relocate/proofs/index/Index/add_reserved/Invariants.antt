use Rattle.emit_relocate.proofs.Common.{IsPermutation, count_by, drop, filter, is_against, length, map, site_of}
use Rattle.emit_relocate.proofs.Common.{slice_index, take, ℕ, ◌++◌, ◌≤◌}
use Rattle.emit_relocate.specs.Index.{sites_at}
use Rattle.emit_relocate.proofs.index.Index.add_reserved.Given as goal

abbrev pub invariant-loop-site : goal.invariant-loop-site
invariant-loop-site l = record {
  of_targets : (t : ℕ) → count_by (is_against t) (drop l.site-index l.sites) ≤ slice_index l.self.target_room t;
  of_object : length (drop l.site-index l.sites) ≤ slice_index l.self.object_room l.object.0;
  added : (t : ℕ) → IsPermutation (sites_at l.initial.self t
      ++ map (site_of l.object) (filter (is_against t) (take l.site-index l.sites))) (sites_at l.self t);
}
