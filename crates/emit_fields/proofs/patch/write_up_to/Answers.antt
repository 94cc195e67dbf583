use Rattle.emit_fields.proofs.Common.{arith, ◌+◌, ◌∙◌}
use Rattle.emit_fields.proofs.Runs.{run_reads}
use Rattle.emit_fields.proofs.patch.write_up_to.Goals as goal

pub returns-clause-own : goal.returns-clause-own
returns-clause-own c = λ i a b.
    c.write-2.ensures.before (c.args.at + i) (omega arith)
    ∙ run_reads c.write.new.self.bytes c.args.bytes.now c.args.at c.args.done c.args.patch.now.offset i
    c.write.ensures.written a b (omega arith)
