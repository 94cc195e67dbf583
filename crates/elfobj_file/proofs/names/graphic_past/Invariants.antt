use Rattle.std.proofs.Common.{◌≡◌, ℕ, ◌-◌, ◌≤◌, ◌<◌, get_or, length, true}
use Rattle.elfobj_file.specs.Names.{is_graphic}
use Rattle.elfobj_file.proofs.names.graphic_past.Given as goal

abbrev pub invariant-loop-count : goal.invariant-loop-count
invariant-loop-count l = record {
  within : l.count ≤ length l.bytes;
  graphic : (k : ℕ) → k < l.count
      → is_graphic (get_or l.bytes k 0) ≡ true;
}

abbrev pub decreases-loop-count : goal.decreases-loop-count
decreases-loop-count l = length l.bytes - l.count
