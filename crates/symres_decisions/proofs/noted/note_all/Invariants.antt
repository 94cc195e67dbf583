use Rattle.symres_decisions.proofs.Common.{AreNoted, length, ◌≡◌}
use Rattle.symres_decisions.proofs.noted.note_all.Given as goal

-- the keys of the symbols before this one are noted
abbrev pub invariant-loop-number : goal.invariant-loop-number
invariant-loop-number l = record {
  long : length l.keys.items ≡ l.number;
  noted : AreNoted l.names.names l.object.symbols l.keys.items;
}
