use Rattle.emit_relocate.proofs.Common.{IsLinkView, KnownLink, [], ap, arith, ◌++◌, ◌∙◌, ◌∷◌}
use Rattle.emit_relocate.specs.declared.value.SymbolValue.{SymbolValue}
use Rattle.emit_relocate.specs.NameRows.{IsCaseUnder, IsRowUnder}
use Rattle.emit_relocate.proofs.Rows.{row_named, rows_more, values_more}
use Rattle.emit_relocate.proofs.name_rows.name_rows.Goals as goal

pub loop-key-preserved : goal.loop-key-preserved
loop-key-preserved c =
    let link = c.args.link.now in
    let key = c.loop-key.key in
    let case = c.case_under-case.result in
    let stands : (l : KnownLink) → IsLinkView l link → IsCaseUnder l key case = c.case_under-case.ensures in
    let row : (l : KnownLink) → IsLinkView l link → IsRowUnder l key c.in_ok-row.row =
    λ l v name named.
    row_named l link v case name c.in_ok-row.row (stands l v name named) (c.in_ok-row.ensures.row l name v named) in
    let x = c.in_ok-row.row in
    record {
      rows_long = omega (arith, c.push_reserved-in-loop-key.ensures.len, c.loop-key.invariant.rows_long);
      rows_room = omega (arith, c.push_reserved-in-loop-key.ensures.capacity, c.loop-key.invariant.rows_room);
      values_long = omega (arith, c.push_reserved.ensures.len, c.loop-key.invariant.values_long);
      values_room = omega (arith, c.push_reserved.ensures.capacity, c.loop-key.invariant.values_room);
      rows = λ l v.
          rows_more l link v key case x (stands l v) c.in_ok-row.ensures.definer (row l v) c.loop-key.rows.items
          c.push_reserved-in-loop-key.new.self.items
          (omega (arith, c.loop-key.invariant.rows_long, c.loop-key.rows.ok.0))
          c.push_reserved-in-loop-key.ensures.items (c.loop-key.invariant.rows l v);
      values = λ l v.
          values_more l link v key case x (stands l v) c.in_ok-row.ensures.definer (row l v) c.loop-key.values.items
          c.push_reserved.new.self.items (omega (arith, c.loop-key.invariant.values_long, c.loop-key.values.ok.0))
          (c.push_reserved.ensures.items
          ∙ ap (λ (w : SymbolValue). c.loop-key.values.items ++ w ∷ []) c.value.ensures)
          (c.loop-key.invariant.values l v);
    }
