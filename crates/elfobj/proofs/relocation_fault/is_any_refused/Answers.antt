use Rattle.elfobj.proofs.Common.{arith}
use Rattle.elfobj.proofs.EntryTests.{none_of_classes}
use Rattle.elfobj.proofs.relocation_fault.is_any_refused.Goals as goal

pub returns : goal.returns
returns c = none_of_classes c.args.fault c.args.bytes.now c.args.symbols c.args.tables.now c.requires.tables
    (λ k l. c.loop-class.invariant k (omega (arith, c.loop-class-test.false)))
