use Rattle.gather.proofs.Common.{arith, sym, ◌∙◌}
use Rattle.gather.proofs.Knowing.{passed_here, taken_here}
use Rattle.gather.proofs.word.first_taker.Goals as goal

pub returns-then-takes-clause-taker : goal.returns-then-takes-clause-taker
returns-then-takes-clause-taker c =
    sym (taken_here c.args.file.now c.args.section.now c.args.words.now c.loop-place.place c.index-words-place.result
    c.takes.result (omega arith) c.index-words-place.is c.takes.ensures.taken c.if-takes.true)
    ∙ c.loop-place.invariant.taker

pub loop-place-preserved : goal.loop-place-preserved
loop-place-preserved c = record {
  taker = sym (passed_here c.args.file.now c.args.section.now c.args.words.now c.loop-place.place
      c.index-words-place.result c.takes.result (omega arith) c.index-words-place.is c.takes.ensures.taken
      c.if-takes.false)
      ∙ c.loop-place.invariant.taker;
  known = c.takes.ensures.known;
}
