use Rattle.gather.proofs.Common.{arith, untaken}
use Rattle.gather.proofs.GatheredLists.{found_all, found_step, orphans_are}
use Rattle.gather.proofs.live_sections.orphans.Goals as goal

pub loop-place-preserved : goal.loop-place-preserved
loop-place-preserved c =
    found_step untaken c.loop-place.found.items c.add_untaken.new.found.items _ c.args.marks.now c.args.sections.now
    c.loop-place.place _ c.is_marked.result
    c.loop-place-test.true c.is_marked.ensures c.in_ok-add_untaken.ensures c.loop-place.invariant

pub returns : goal.returns
returns c = λ p a l.
    let all = found_all untaken c.loop-place.found.items _ c.args.marks.now c.args.sections.now c.loop-place.place
    (omega (arith, c.loop-place-test.false)) c.loop-place.invariant in
    orphans_are p c.args.marks.now c.args.sections.now c.loop-place.found.items all a l
