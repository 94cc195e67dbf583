-- What a session answers of its link.
use Rattle.std.specs.Prelude.{ℕ, Bool, true, false, List, []}
use Rattle.ldmodel.specs.Link.{Link}
use Rattle.relink.specs.declared.outcome.LinkOutcome.{LinkOutcome}
use Rattle.relink.specs.declared.outcome.LinkOutcome.TheVariants.{Good, Faulty}

-- the link, where a canvas holds these bytes
abbrev pub shown : List ℕ → LinkOutcome → Link
shown bytes (Good map) = record { status = 0; image = bytes; map = map.items; faults = [] }
shown bytes (Faulty text) = record { status = 1; image = []; map = []; faults = text.items }

-- it has no faults
abbrev pub is_good : LinkOutcome → Bool
is_good (Good map) = true
is_good (Faulty text) = false
