use Rattle.symres.proofs.Common.{ap, arith, shown_directives, sym, ◌∙◌}
use Rattle.symres.proofs.Providing.{end_given, one_given}
use Rattle.symres.proofs.symbol_table.SymbolTable.provided.Goals as goal

pub loop-number-preserved : goal.loop-number-preserved
loop-number-preserved c =
    λ p symbol_table same.
    one_given p c.args.script.now c.deref-at-items.result.now c.loop-number.number c.at-item.result
    c.loop-number.list.items c.add_if_in_force.new.list.items same
    (ap shown_directives c.deref-at-items.ensures.value ∙ c.in_ok-commands.ensures)
    (omega (arith, c.loop-number-test.true)) (sym c.at-item.is)
    (c.in_ok-add_if_in_force.ensures p symbol_table same) (c.loop-number.invariant p symbol_table same)

pub returns : goal.returns
returns c =
    λ p symbol_table same.
    end_given p c.args.script.now c.deref-at-items.result.now c.loop-number.number c.loop-number.list.items same
    (ap shown_directives c.deref-at-items.ensures.value ∙ c.in_ok-commands.ensures)
    (omega (arith, c.loop-number-test.false)) (c.loop-number.invariant p symbol_table same)
