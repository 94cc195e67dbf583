use Rattle.emit_relocate.proofs.Common.{IsPut, Option, ap, arith, shown_directives, subst, ℕ, ◌∙◌}
use Rattle.emit_relocate.proofs.Giving.{all_noted, called_here, next_noted, none_noted}
use Rattle.emit_relocate.proofs.given_table.given_table.Goals as goal

pub loop-at-init : goal.loop-at-init
loop-at-init c =
    none_noted c.args.symbol_table.now c.args.values.now c.limit.result c.in_ok-table.table.items
    c.keys_decided.ensures.cases c.limit.ensures c.in_ok-table.ensures

pub put_given-requires : goal.put_given-requires
put_given-requires c = c.loop-at.invariant.places

pub loop-at-preserved : goal.loop-at-preserved
loop-at-preserved c =
    let values = c.args.values.now in
    let called = c.given_name-name.result.now in
    next_noted c.args.symbol_table.now values c.loop-at.at-index called c.loop-at.table.items
    c.put_given.new.table.items
    (c.given_name-name.ensures
    ∙ called_here values.script.now c.deref-at-items.result.now c.loop-at.at-index c.at-item.result
    (omega (arith, c.loop-at-test.true)) c.at-item.is
    (ap shown_directives c.deref-at-items.ensures.value ∙ c.in_ok-commands.ensures))
    (subst (λ (v : Option ℕ). IsPut c.args.symbol_table.now called v c.loop-at.table.items c.put_given.new.table.items)
    c.value.ensures c.put_given.ensures)
    c.loop-at.invariant

pub returns : goal.returns
returns c =
    all_noted c.args.symbol_table.now c.args.values.now c.deref-at-items.result.now c.loop-at.at-index
    c.loop-at.table.items c.keys_decided.ensures.cases
    (ap shown_directives c.deref-at-items.ensures.value ∙ c.in_ok-commands.ensures)
    (omega (arith, c.loop-at-test.false)) c.loop-at.invariant
