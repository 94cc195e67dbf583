use Rattle.place_sections.proofs.Common.{BodyAlongside, Counted, IfSome, body_of, body_step, drop, run, ◌+◌, ◌≡◌, ◌≤◌}
use Rattle.place_sections.proofs.state.CurrentOutput.place_body.Given as goal

abbrev pub ghost-place_statement : goal.ghost-place_statement
ghost-place_statement g a = g.naming

abbrev pub invariant-loop-statement : goal.invariant-loop-statement
invariant-loop-statement g l = record {
  gives : run (body_step l.self.provided.now) (body_of g.naming l.fn.here l.self) l.body
      ≡ run (body_step l.self.provided.now) (body_of g.naming l.here l.self) (drop l.statement-index l.body);
  counted : Counted l.fn.here l.here l.self;
  inputs : l.here.inputs ≤ l.fn.here.inputs + l.statement-index;
  alongside : IfSome l.self.starts (λ s.
      BodyAlongside s.now (body_of g.naming l.here l.self) (drop l.statement-index l.body));
}
