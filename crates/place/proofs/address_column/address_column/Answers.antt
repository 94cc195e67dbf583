use Rattle.place.proofs.Common.{IsColumn, all_entries, ap, drop, length, min, row_entries, rules, subst, sym, ◌++◌, ◌+◌}
use Rattle.place.proofs.Common.{◌∙◌, ◌≡◌}
use Rattle.place.proofs.Collecting.{rows_more}
use Rattle.place.proofs.address_column.address_column.Goals as goal

pub loop-number-preserved : goal.loop-number-preserved
loop-number-preserved c =
    let inv = c.loop-number.invariant in
    let i = c.loop-number.number in
    let row = c.index-rows-number.result in
    let left = c.loop-number.left.now in
    let rows = c.args.rows.now in
    let es : row_entries c.in_ok-section.section.0 c.deref.result.now left ≡ row_entries i row.items left =
    ap (λ n. row_entries n c.deref.result.now left) c.in_ok-section.ensures.is
    ∙ ap (λ r. row_entries i r left) c.deref.ensures.value in
    record {
      done = inv.done ++ row_entries i row.items left;
      column = subst (λ es. IsColumn c.args.table.now (inv.done ++ es) c.add_row.new.column.items) es
          (c.add_row.ensures.added inv.done inv.column);
      rest = subst (λ l. (inv.done ++ row_entries i row.items left) ++ all_entries (i + 1) (drop (i + 1) rows) l
          ≡ all_entries 0 rows c.args.starts.now) (sym c.after-left.ensures)
          (subst (λ n. (inv.done ++ row_entries i row.items left)
          ++ all_entries (i + 1) (drop (i + 1) rows) (drop (min n (length left)) left)
          ≡ all_entries 0 rows c.args.starts.now) (search rules)
          (rows_more i rows left inv.done (all_entries 0 rows c.args.starts.now) row c.loop-number-test.true
          c.index-rows-number.is inv.rest));
    }
