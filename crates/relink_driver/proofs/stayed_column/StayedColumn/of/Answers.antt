use Rattle.relink_driver.proofs.Common.{ap, arith, flag_of, get_or_past, is_some, length, no_flags, previous_of}
use Rattle.relink_driver.proofs.Common.{stayed_range, sym, table_key, ◌∙◌}
use Rattle.relink_driver.proofs.Columns.{empty_column}
use Rattle.relink_driver.proofs.WhollyStayed.{no_row_is_still}
use Rattle.relink_driver.proofs.stayed_column.StayedColumn.of.Goals as goal

pub returns-in-None-clause-flags : goal.returns-in-None-clause-flags
returns-in-None-clause-flags c = λ object number.
    let t = c.args.indexed_layout.now in
    let key = table_key object number in
    let flags = c.new-in-None.result.items in
    ap (λ r. flag_of flags r number.0) (get_or_past c.new.result.items object.0 no_flags
    (omega (arith, ap length c.new.ensures.items)))
    ∙ empty_column t key flags number.0
    ∙ ap (λ m. is_some (stayed_range m t key)) (sym (ap previous_of c.in-None.is))

pub returns-in-None-clause-all_stayed : goal.returns-in-None-clause-all_stayed
returns-in-None-clause-all_stayed c = λ object so number.
    absurd (no_row_is_still c.new-in-None-2.result.items object.0 c.new-in-None-2.ensures.items so)
