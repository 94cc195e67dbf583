use Rattle.place_sections.proofs.Common.{after_sections, before_sections, drop, items_within, take, ◌++◌, ◌≡◌}
use Rattle.place_sections.proofs.parts.ScriptParts.of.Given as goal

abbrev pub invariant-loop-number : goal.invariant-loop-number
invariant-loop-number l = record {
  before : before_sections l.statements ≡ take l.number l.statements ++ before_sections (drop l.number l.statements);
  items : items_within l.statements ≡ items_within (drop l.number l.statements);
  after : after_sections l.statements ≡ after_sections (drop l.number l.statements);
}
