use Rattle.emit_relocate.proofs.Common.{TargetSite, get_or, length, slots_at, ℕ, ◌<◌, ◌≡◌}
use Rattle.emit_relocate.proofs.index.grow_all.Given as goal

abbrev pub invariant-loop-site : goal.invariant-loop-site
invariant-loop-site l =
    ((t : ℕ) → slots_at l.targets.items t ≡ slots_at l.initial.targets.items t)
    × ((k : ℕ) (d : TargetSite) → k < l.site-index → (get_or l.sites k d).target.0 < length l.targets.items)
