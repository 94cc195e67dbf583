use Rattle.gather.proofs.Common.{InputStatementAt, [], ap, arith, drop, drop_all, drop_more, enumerate_from, flat_map}
use Rattle.gather.proofs.Common.{get_or, get_or-set_other, length, length-set, shown_row, sym, ◌+◌, ◌<◌, ◌∙◌, ◌∷◌, ◌≡◌}
use Rattle.gather.proofs.Common.{◌≢◌}
use Rattle.ldscript.specs.statements.Numbered.{shown_inputs}
use Rattle.gather.specs.RowPieces.{pieces_at}
use Rattle.gather.proofs.RowSteps.{rows_step, rows_end, rows_are}
use Rattle.gather.proofs.rows.join_buckets.Goals as goal

pub loop-number-preserved : goal.loop-number-preserved
loop-number-preserved c =
    let i = c.loop-number.number in
    let inv = c.loop-number.invariant in
    let items = c.args.statements.now in
    let within : i < length items = c.loop-number-test.true in
    let st : InputStatementAt =
    record {
      line = c.index-statements-number.result.line;
      place = c.index-statements-number.result.place;
      input =
          c.index-statements-number.result.input.now;
    } in
    let cut : shown_inputs (drop i items) ≡ st ∷ shown_inputs (drop (i + 1) items) =
    ap shown_inputs (drop_more items i c.index-statements-number.result within
    ∙ ap (λ x. x ∷ drop (i + 1) items) (sym c.index-statements-number.is)) in
    let same = ap (λ v. v.items) (c.index_mut.ensures.value
    ∙ inv.left i c.index_mut.result.now (omega arith) within) in
    let added = c.in_ok-add_statement.ensures in
    record {
      long = added.long ∙ inv.long;
      buckets = length-set c.loop-number.buckets.items i c.add_statement.new.pieces ∙ inv.buckets;
      left = λ k d h l. let ne : k ≢ i = omega (arith, h) in
          get_or-set_other c.loop-number.buckets.items i k c.add_statement.new.pieces d ne
          ∙ inv.left k d (omega (arith, h)) l;
      rows = λ xs are k d h.
          (let before : k < length c.loop-number.found.items = omega (arith, h, added.long) in
          rows_step c.args.project.now xs c.index_mut.result.now.items k i
          (shown_inputs (drop i items)) (shown_inputs (drop (i + 1) items)) st
          (shown_row c.args.project.now (get_or c.loop-number.found.items k d))
          (shown_row c.args.project.now (get_or c.add_statement.new.rows.items k d)) _
          (same ∙ are.bucket i c.index_mut.result.now within) (added.row k d before) cut (inv.rows xs are k d before));
    }

pub returns : goal.returns
returns c = λ xs are taken.
    let p = c.args.project.now in
    let i = c.loop-number.number in
    let inv = c.loop-number.invariant in
    let items = c.args.statements.now in
    let none : drop i items ≡ [] = drop_all i items (omega (arith, c.loop-number-test.false)) in
    rows_are p xs c.loop-number.found.items taken inv.long
    (λ k d l. rows_end p xs k i (shown_inputs (drop i items)) _ _ (ap shown_inputs none) (inv.rows xs are k d l)
    ∙ ap (λ s. flat_map (pieces_at p xs k) (enumerate_from 0 s)) c.requires.statements)
