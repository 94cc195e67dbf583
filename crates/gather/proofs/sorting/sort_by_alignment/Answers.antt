use Rattle.gather.proofs.Common.{ByAlignment, Some, answers_always, max, piece_in, rules}
use Rattle.std.proofs.lemmas.List.MinMax.{IsStrictWeakOrder-flip, IsStrictWeakOrder-by_number}
use Rattle.ldmodel.specs.Rows.{Piece}
use Rattle.gather.proofs.Sorts.{ordered_if}
use Rattle.gather.proofs.sorting.sort_by_alignment.Goals as goal

pub returns : goal.returns
returns c = λ p.
    ordered_if (piece_in p) c.row_by_order.ensures (Some ByAlignment)
    (IsStrictWeakOrder-flip _ (IsStrictWeakOrder-by_number (λ (x : Piece). max 1 x.alignment))) c.sort_by.result _ _
    (answers_always _ _ _ (λ f a r f' k. search rules)) c.sort_by.ensures.permutation c.sort_by.ensures.sorted
    c.sort_by.ensures.stable
