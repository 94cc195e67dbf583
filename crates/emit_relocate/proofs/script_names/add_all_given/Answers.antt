use Rattle.emit_relocate.proofs.Common.{arith, texts}
use Rattle.emit_relocate.proofs.Listing.{more_given}
use Rattle.emit_relocate.proofs.script_names.add_all_given.Goals as goal

pub loop-at-preserved : goal.loop-at-preserved
loop-at-preserved c =
    more_given (texts c.args.list.now.items) c.args.commands.now c.loop-at.at-index c.at-item.result
    (texts c.loop-at.list.items) (texts c.add_given.new.list.items) (omega (arith, c.loop-at-test.true)) c.at-item.is
    c.in_ok-add_given.ensures c.loop-at.invariant
