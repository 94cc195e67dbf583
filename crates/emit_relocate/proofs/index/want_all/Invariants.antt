use Rattle.emit_relocate.proofs.Common.{count_by, is_against, length, room_at, slots_at, take, wanted_at, ℕ, ◌+◌, ◌≡◌}
use Rattle.emit_relocate.proofs.Common.{◌≤◌}
use Rattle.emit_relocate.proofs.index.want_all.Given as goal

abbrev pub invariant-loop-site : goal.invariant-loop-site
invariant-loop-site l =
    ((t : ℕ) → slots_at l.targets.items t ≡ slots_at l.initial.targets.items t)
    × (length l.targets.items ≡ length l.initial.targets.items)
    × ((t : ℕ) → wanted_at l.targets.items t
    ≡ wanted_at l.initial.targets.items t + count_by (is_against t) (take l.site-index l.sites))
    × ((t : ℕ) → count_by (is_against t) (take l.site-index l.sites) ≤ room_at l.targets.items t)
