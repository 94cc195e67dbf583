use Rattle.place.proofs.Common.{AddsEntries, [], drop, entry_of, length, length-append, row_entries, rules, subst, sym}
use Rattle.place.proofs.Common.{◌++◌, ◌∙◌, ◌∷◌, ◌≡◌}
use Rattle.std.proofs.lemmas.Slice.Zip.{zip_end, zip_turn}
use Rattle.std.specs.Iterator.Adapters.{zip_first, zip_second}
use Rattle.std.specs.Slice.Iter.{iter_rest}
use Rattle.place.proofs.Collecting.{row_more, row_whole}
use Rattle.place.proofs.Column.{added_both}
use Rattle.place.proofs.address_column.add_row.Goals as goal

pub loop-piece-preserved : goal.loop-piece-preserved
loop-piece-preserved c =
    let inv = c.loop-piece.invariant in
    let row = c.args.row.now in
    let starts = c.args.starts.now in
    let n = c.args.section.0 in
    let ys = c.loop-piece.yielded in
    let e = entry_of n (c.in-Some.piece.now, c.in-Some.start.now) in
    let first : iter_rest (zip_first c.into_iter-piece-iterator.result) ≡ row = search rules in
    let second : iter_rest (zip_second c.into_iter-piece-iterator.result) ≡ starts = search rules in
    let turn =
    zip_turn row starts ys c.into_iter-piece-iterator.result c.loop-piece.piece-iterator c.next.new.self c.next.result
    first second c.loop-piece.yielded_by (c.in-Some.piece, c.in-Some.start) c.in-Some.is c.next.ensures.steps in
    record {
      long = c.add_entry.ensures.long ∙ inv.long;
      are = record {
        done = inv.are.done ++ e ∷ [];
        added = added_both c.args.table.now c.args.column.now.items c.loop-piece.column.items
            c.add_entry.new.column.items inv.are.done (e ∷ []) inv.are.added c.add_entry.ensures.added;
        rest = subst (λ k. (inv.are.done ++ e ∷ []) ++ row_entries n (drop k row) (drop k starts)
            ≡ row_entries n row starts)
            (sym (length-append ys ((c.in-Some.piece, c.in-Some.start) ∷ [])))
            (row_more n (length ys) row starts inv.are.done (row_entries n row starts) c.in-Some.piece.now
            c.in-Some.start.now turn.0 turn.1 (turn.2 c.in-Some.piece.now) (turn.3 c.in-Some.start.now)
            inv.are.rest);
      };
    }

pub returns-clause-added : goal.returns-clause-added
returns-clause-added c =
    let inv = c.loop-piece.invariant in
    let row = c.args.row.now in
    let starts = c.args.starts.now in
    let n = c.args.section.0 in
    let first : iter_rest (zip_first c.into_iter-piece-iterator.result) ≡ row = search rules in
    let second : iter_rest (zip_second c.into_iter-piece-iterator.result) ≡ starts = search rules in
    let all : inv.are.done ≡ row_entries n row starts =
    row_whole n _ row starts inv.are.done _
    (zip_end row starts c.loop-piece.yielded c.into_iter-piece-iterator.result
    c.loop-piece.piece-iterator c.next.new.self c.next.result first second c.loop-piece.yielded_by c.in-None.is
    c.next.ensures.steps) inv.are.rest in
    subst (AddsEntries c.args.table.now c.args.column.now.items c.loop-piece.column.items) all inv.are.added
