use Rattle.emit_relocate.proofs.Common.{AreAdded, IsPlaced, IsTried, KnownLink, LinkedSection, NamedObject, length}
use Rattle.emit_relocate.proofs.Common.{sites_among, take, vec_capacity, vec_len, ◌+◌, ◌≤◌}
use Rattle.emit_relocate.proofs.fields.add_sites.Given as goal

abbrev pub invariant-loop-entry : goal.invariant-loop-entry
invariant-loop-entry l = record {
  of : AreAdded l.relocations l.entry l.fn.fields.items l.fields.items;
  room : vec_len l.fields + length l.relocations ≤ vec_capacity l.fields + l.entry;
  tried : (k : KnownLink) (o : NamedObject) (x : LinkedSection) → IsPlaced k l.section o x
      → IsTried k (sites_among o x l.section.start (take l.entry l.relocations)) l.fn.fields.items
      l.fields.items
      l.initial.faults.items l.faults.items l.initial.meter l.meter;
}
