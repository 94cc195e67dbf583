use Rattle.place_sections.proofs.Common.{AreNoted, CountsAlong, ItemsAlongside, Ok, counts_in, drop, entries, false}
use Rattle.place_sections.proofs.Common.{item_step, layout_of, left_after, length, map, min, placed_from, rows_of, run}
use Rattle.place_sections.proofs.Common.{take, true, ◌*◌, ◌+◌, ◌-◌, ◌<◌, ◌^◌, ◌≡◌, ◌≤◌}
use Rattle.place_sections.proofs.script.Input.place_items.Given as goal

abbrev pub ghost-resume : goal.ghost-resume
ghost-resume g a = g.naming

abbrev pub ghost-boundary : goal.ghost-boundary
ghost-boundary g a = g.naming

abbrev pub ghost-place_item : goal.ghost-place_item
ghost-place_item g a = g.naming

abbrev pub invariant-loop-number : goal.invariant-loop-number
invariant-loop-number g l = record {
  here : run (item_step (rows_of g.naming l.self) l.self.provided.now) (layout_of g.naming l.fn.here l.fn.done)
      (take l.number l.items) ≡ Ok (layout_of g.naming l.here l.done);
  noted : AreNoted (rows_of g.naming l.self) l.self.provided.now (layout_of g.naming l.fn.here l.fn.done) l.items
      l.boundaries.items (length l.done.sections.list);
  outputs : l.done.sections.script ≡ l.fn.done.sections.script;
  taken : l.self.kept.same_provided ≡ true
      → min l.self.kept.first (length l.self.kept.boundaries.now - 1) ≤ length l.done.sections.list;
  inputs : l.here.inputs ≤ l.number * 2 ^ 64;
  script : l.here.symbols.script ≡ l.fn.here.symbols.script;
  anew : l.here.anew + entries (length l.done.sections.list) (map (λ v. v.items) l.self.rows.now)
      ≤ l.fn.here.anew + entries 0 (map (λ v. v.items) l.self.rows.now);
  resumed : l.here.anew + left_after l.self l.done.sections.list
      ≤ l.fn.here.anew + entries l.self.kept.first (map (λ v. v.items) l.self.rows.now);
  added : CountsAlong l.fn.here.anew l.here.anew 0 (placed_from l.self.kept.first (counts_in l.done.sections.list));
  alongside : l.self.kept.same_provided ≡ false → 0 < l.self.kept.first
      → length l.done.sections.list ≤ l.self.kept.first
      → ItemsAlongside g.naming l.self l.fn.here.symbols.script (layout_of g.naming l.here l.done)
      (drop l.number l.items);
}
