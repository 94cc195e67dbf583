use Rattle.symres_decisions.proofs.Common.{HaveEntries, take}
use Rattle.symres_decisions.proofs.texts.have_entries.Given as goal

-- the names of the symbols before this one have entries
abbrev pub invariant-loop-number : goal.invariant-loop-number
invariant-loop-number l = HaveEntries l.names.objects (take l.number l.object.symbols)
