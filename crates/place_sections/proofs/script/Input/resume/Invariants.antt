use Rattle.place_sections.proofs.Common.{PreviousPlacement, layout_of, ◌≡◌}
use Rattle.place_sections.proofs.Resuming.{Reached}
use Rattle.place_sections.proofs.script.Input.resume.Given as goal

abbrev pub invariant-loop-number : goal.invariant-loop-number
invariant-loop-number g l = record {
  reached : (e : PreviousPlacement g.naming l.self l.fn.here.symbols.script
      (layout_of g.naming l.fn.here l.fn.done) l.items)
      → Reached g.naming l.self (layout_of g.naming l.fn.here l.fn.done) l.items e.rows l.done l.number;
  outputs : l.done.sections.script ≡ l.fn.done.sections.script;
  kept : l.done.sections.earlier ≡ l.fn.done.sections.earlier;
  placed : l.done.sections.placed ≡ 0;
}
