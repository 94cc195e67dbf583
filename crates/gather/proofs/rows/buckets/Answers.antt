-- Section by section.
use Rattle.gather.proofs.Common.{AreBuckets, [], arith, length, own_piece, refl, subst}
use Rattle.gather.proofs.GatheredLists.{found_all, found_step}
use Rattle.gather.proofs.rows.buckets.Goals as goal

pub loop-place-init : goal.loop-place-init
loop-place-init c =
    let none = c.in_ok-buckets.ensures in
    record { done = []; are = record { long = none.long; bucket = none.each }; rest = refl }

pub loop-place-preserved : goal.loop-place-preserved
loop-place-preserved c =
    let h = c.loop-place.invariant in
    record {
      done = _;
      are = c.in_ok-add_taken.ensures h.done (length c.args.statements.now) h.are;
      rest = found_step own_piece h.done _ _ c.args.marks.now c.args.sections.now c.loop-place.place _
          c.is_marked.result c.loop-place-test.true c.is_marked.ensures refl h.rest;
    }

pub returns : goal.returns
returns c =
    let h = c.loop-place.invariant in
    subst (λ xs. AreBuckets xs (length c.args.statements.now) c.loop-place.buckets.items)
    (found_all own_piece h.done _ c.args.marks.now c.args.sections.now c.loop-place.place
    (omega (arith, c.loop-place-test.false)) h.rest) h.are
