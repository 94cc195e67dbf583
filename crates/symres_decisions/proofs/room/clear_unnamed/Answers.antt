use Rattle.symres_decisions.proofs.Common.{arith}
use Rattle.symres_decisions.proofs.MakingRoom.{all_cleaned, none_cleaned, one_cleaned}
use Rattle.symres_decisions.proofs.room.clear_unnamed.Goals as goal

pub loop-key-init : goal.loop-key-init
loop-key-init c = none_cleaned c.args.names.now.names c.args.cases.now

pub clear_if_unnamed-requires : goal.clear_if_unnamed-requires
clear_if_unnamed-requires c =
    omega (arith, c.loop-key-test.true, c.len-count.ensures, c.loop-key.invariant.long)

pub loop-key-preserved : goal.loop-key-preserved
loop-key-preserved c =
    one_cleaned c.args.names.now.names c.args.cases.now c.loop-key.cases c.clear_if_unnamed.new.cases c.loop-key.key
    c.clear_if_unnamed.ensures.long c.clear_if_unnamed.ensures.at c.loop-key.invariant

pub returns : goal.returns
returns c =
    all_cleaned c.args.names.now.names c.args.cases.now c.loop-key.cases c.loop-key.key
    (omega (arith, c.loop-key-test.false, c.len-count.ensures)) c.loop-key.invariant
