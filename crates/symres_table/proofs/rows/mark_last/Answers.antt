use Rattle.symres_table.proofs.Common.{Declared, [], ap, others, refl, ◌++◌, ◌∙◌, ◌∷◌}
use Rattle.symres_table.proofs.Cleared.{marked, unmarked}
use Rattle.symres_table.proofs.rows.mark_last.Goals as goal

pub returns-then-len-count : goal.returns-then-len-count
returns-then-len-count c =
    let v = c.args.row.now in
    marked c.args.key.0 c.args.symbol v.items v c.push_reserved.new.self refl
    (c.push_reserved.ensures.items ∙ ap (λ l. l ++ c.declaration.result ∷ []) c.drop_key.ensures.items
    ∙ ap (λ (d : Declared). others c.args.key.0 v.items ++ d ∷ []) c.declaration.ensures)
    (c.push_reserved.ensures.capacity ∙ c.drop_key.ensures.capacity)

pub returns-else-len-count : goal.returns-else-len-count
returns-else-len-count c =
    unmarked c.args.key.0 c.args.row.now c.drop_key.new.row c.drop_key.ensures.items c.drop_key.ensures.capacity
