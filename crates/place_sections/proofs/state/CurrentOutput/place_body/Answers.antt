use Rattle.place_sections.proofs.Common.{arith, body_of, body_step}
use Rattle.place_sections.proofs.Alongside.{alongside_on, counted_on, input_stays, run_next}
use Rattle.place_sections.proofs.InputNumbers.{statement_counts}
use Rattle.place_sections.proofs.state.CurrentOutput.place_body.Goals as goal

pub place_statement-requires : goal.place_statement-requires
place_statement-requires g c = (
  input_stays g.naming c.loop-statement.here c.args.self.now c.args.body.now c.loop-statement.statement-index
      c.statement-item.result c.loop-statement-test.true c.statement-item.is c.loop-statement.invariant.alongside,
  (let room = c.requires.1 in omega (arith, room, c.loop-statement.invariant.inputs, c.loop-statement-test.true)),
)

pub loop-statement-preserved : goal.loop-statement-preserved
loop-statement-preserved g c = record {
  gives = run_next (body_step c.args.self.now.provided.now) (body_of g.naming c.args.here.now c.args.self.now)
      (body_of g.naming c.loop-statement.here c.args.self.now)
      (body_of g.naming c.place_statement.new.here c.args.self.now) c.args.body.now c.loop-statement.statement-index
      c.statement-item.result c.loop-statement-test.true c.statement-item.is c.loop-statement.invariant.gives
      c.in_ok-place_statement.ensures.gives;
  counted = counted_on c.args.here.now c.loop-statement.here c.place_statement.new.here c.args.self.now
      c.loop-statement.invariant.counted c.place_statement.ensures.counted;
  inputs =
      let n = statement_counts c.args.self.now.provided.now c.statement-item.result
      (body_of g.naming c.loop-statement.here c.args.self.now)
      (body_of g.naming c.place_statement.new.here c.args.self.now) c.in_ok-place_statement.ensures.gives in
      omega (arith, n, c.loop-statement.invariant.inputs);
  alongside = alongside_on c.steps_stay_alike.ensures.bodies g.naming c.loop-statement.here
      c.place_statement.new.here c.args.self.now c.args.self.now.provided.now c.args.body.now
      c.loop-statement.statement-index c.statement-item.result c.loop-statement-test.true c.statement-item.is
      c.in_ok-place_statement.ensures.gives c.loop-statement.invariant.alongside;
}
