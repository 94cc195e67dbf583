use Rattle.gather.proofs.Common.{arith}
use Rattle.gather.proofs.ByRuns.{bucket_longer, no_bucket}
use Rattle.gather.proofs.rows.add_run.Goals as goal

pub returns-in_ok-push_run : goal.returns-in_ok-push_run
returns-in_ok-push_run c = λ xs count h.
    bucket_longer c.args.place c.args.statement xs c.args.run.now c.args.buckets.now.items c.index_mut.result.now
    c.push_run.new.list count (omega (arith, c.if-number-len.true, c.len.ensures)) c.index_mut.ensures.value
    c.in_ok-push_run.ensures h

pub returns-else-number-len : goal.returns-else-number-len
returns-else-number-len c = λ xs count h.
    no_bucket c.args.place c.args.statement xs c.args.run.now c.args.buckets.now.items count
    (omega (arith, c.if-number-len.false, c.len.ensures)) h
