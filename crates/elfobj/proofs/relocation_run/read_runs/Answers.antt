use Rattle.elfobj.proofs.Common.{refl, rules, ◌-◌}
use Rattle.elfobj.proofs.Runs.{runs_more}
use Rattle.elfobj.proofs.relocation_run.read_runs.Goals as goal

pub loop-class-preserved : goal.loop-class-preserved
loop-class-preserved c =
    runs_more c.args.bytes.now c.args.tables.now c.loop-class.all.items c.push_entries.new.all.items c.loop-class.class
    c.class_range-low.result.0 c.class_range-low.result.1
    (c.class_range-low.result.1 - c.class_range-low.result.0) c.len-first.result c.loop-class.runs.items
    c.push.new.list.items
    c.class_range-low.ensures.order refl c.class_range-low.ensures.covers
    (search rules) c.in_ok-push_entries.ensures c.in_ok-push.ensures.items c.loop-class.invariant
