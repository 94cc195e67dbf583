use Rattle.relink_driver.proofs.Common.{sym, ◌∙◌}
use Rattle.relink_driver.proofs.ValuesBySource.{by_entry, by_name}
use Rattle.relink_driver.proofs.symbol_values.symbol_value.Goals as goal

pub returns-then-is_local : goal.returns-then-is_local
returns-then-is_local c = λ l o x of at h.
    by_entry l c.args.sources of c.args.place c.args.index c.args.symbol.now o x h _
    (sym c.is_local.ensures ∙ c.if-is_local.true) (c.own_value.ensures l c.args.place at)

pub returns : goal.returns
returns c = λ l o x of at h.
    by_name l c.args.sources of c.args.place c.args.index c.args.symbol.now o x h c.key_of-key.result _
    (sym c.is_local.ensures ∙ c.if-is_local.false) c.key_of-key.ensures.name
    (rw (← c.is_weak.ensures, ← c.value_under.ensures) c.or_weak.ensures)
