use Rattle.symres.proofs.EntryFault.{all_faults}
use Rattle.symres.proofs.symbol_table.SymbolTable.faults.Goals as goal

pub returns : goal.returns
returns c =
    all_faults c.args.project.now c.in_ok-faults.faults.items c.add_entry_fault.new.faults.items c.in_ok-faults.ensures
    c.in_ok-add_entry_fault.ensures
