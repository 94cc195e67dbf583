use Rattle.gather.proofs.Common.{rules, sym}
use Rattle.gather.proofs.SharedStarts.{from_test}
use Rattle.gather.proofs.shared_start.shared.Goals as goal

pub returns-then-starts_with-clause-other : goal.returns-then-starts_with-clause-other
returns-then-starts_with-clause-other c =
    from_test c.args.one.now c.args.other.now (c.if-starts_with.ensures.bound (search rules))
    (sym c.if-starts_with.ensures.value)
