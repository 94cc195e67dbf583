use Rattle.relink_driver.proofs.Common.{None, ap, object_name, own_value, slice_index_or, sym, ◌∙◌}
use Rattle.emit.specs.relocate.Values.{address_from}
use Rattle.relink_driver.proofs.ValuesBySource.{address_is}
use Rattle.relink_driver.proofs.symbol_values.own_value.Goals as goal

pub returns-in-Section : goal.returns-in-Section
returns-in-Section c = λ l key at.
    let value = c.args.symbol.now.value in
    let n = c.in-Section.section in
    c.address_from.ensures ∙ ap (λ a. address_from a value) c.start_at.ensures
    ∙ address_is l.layout l.project key n (slice_index_or c.args.addresses.now n.0 None) value (at n)
    ∙ ap (λ p. own_value l.layout (object_name l.project key.0) p value) (sym c.in-Section.is)
