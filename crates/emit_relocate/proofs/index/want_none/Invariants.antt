use Rattle.emit_relocate.proofs.Common.{TargetSite, get_or, length, slots_at, wanted_at, ℕ, ◌<◌, ◌≡◌}
use Rattle.emit_relocate.proofs.index.want_none.Given as goal

abbrev pub invariant-loop-site : goal.invariant-loop-site
invariant-loop-site l =
    ((t : ℕ) → slots_at l.targets.items t ≡ slots_at l.initial.targets.items t)
    × (length l.targets.items ≡ length l.initial.targets.items)
    × ((k : ℕ) (d : TargetSite) → k < l.site-index → wanted_at l.targets.items (get_or l.sites k d).target.0 ≡ 0)
