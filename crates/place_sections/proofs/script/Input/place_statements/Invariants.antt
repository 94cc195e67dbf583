use Rattle.place_sections.proofs.Common.{drop, layout_of, rows_of, run, statement_step, ◌≡◌}
use Rattle.place_sections.proofs.script.Input.place_statements.Given as goal

abbrev pub ghost-place_statement : goal.ghost-place_statement
ghost-place_statement g a = g.naming

abbrev pub invariant-loop-statement : goal.invariant-loop-statement
invariant-loop-statement g l = record {
  gives : run (statement_step (rows_of g.naming l.self) l.self.provided.now) (layout_of g.naming l.fn.here l.fn.done)
      l.statements
      ≡ run (statement_step (rows_of g.naming l.self) l.self.provided.now) (layout_of g.naming l.here l.done)
      (drop l.statement-index l.statements);
  script : l.here.symbols.script ≡ l.fn.here.symbols.script;
  anew : l.here.anew ≡ l.fn.here.anew;
  sections : l.done.sections ≡ l.fn.done.sections;
}
