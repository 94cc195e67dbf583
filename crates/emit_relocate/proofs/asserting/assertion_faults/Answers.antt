use Rattle.emit_relocate.proofs.Common.{FinalScope, all_directives, ap, arith, asserted_in, faults_in, map, meaning_of}
use Rattle.emit_relocate.proofs.Common.{provided, refl, shown_assertions, shown_directives, shown_symbol, sym, ◌∙◌}
use Rattle.ldmodel.specs.Assertions.{final_scope}
use Rattle.ldmodel.specs.Rows.{rows}
use Rattle.emit_relocate.proofs.Failing.{all_done, one_more}
use Rattle.emit_relocate.proofs.Looking.{scope_is}
use Rattle.emit_relocate.proofs.Regions.{regions_are}
use Rattle.emit_relocate.proofs.asserting.assertion_faults.Goals as goal

pub loop-number-preserved : goal.loop-number-preserved
loop-number-preserved c =
    let scope : FinalScope =
    record { script = c.script-script.result; placement = c.view.result; symbols = c.of.result } in
    one_more c.args.project.now (meaning_of scope) c.deref-at-items.result.now c.loop-number.number c.at-item.result
    c.loop-number.faults.items c.add_unless_holds.new.faults.items
    (ap shown_assertions c.deref-at-items.ensures.value
    ∙ (c.in_ok-assertions.ensures
    ∙ ap asserted_in (ap shown_directives c.deref.ensures.value
    ∙ (c.in_ok-commands.ensures ∙ ap all_directives c.script-script.ensures))))
    (omega (arith, c.loop-number-test.true)) (sym c.at-item.is) c.in_ok-add_unless_holds.ensures c.loop-number.invariant

pub returns-then-is_empty : goal.returns-then-is_empty
returns-then-is_empty c =
    λ s a link_layout values.
    all_done c.args.project.now s (final_scope c.args.project.now s) c.in_ok-assertions.assertions.items 0
    c.new.result.items
    (c.in_ok-assertions.ensures
    ∙ ap asserted_in (ap shown_directives c.deref.ensures.value
    ∙ (c.in_ok-commands.ensures ∙ ap all_directives c.script-script.ensures)))
    (grind (arith, c.is_empty.ensures, c.if-is_empty.true)) refl (ap (faults_in c.args.project.now) c.new.ensures.items)

pub returns : goal.returns
returns c =
    λ s a link_layout values.
    let scope : FinalScope =
    record { script = c.script-script.result; placement = c.view.result; symbols = c.of.result } in
    all_done c.args.project.now s (meaning_of scope) c.deref-at-items.result.now c.loop-number.number
    c.loop-number.faults.items
    (ap shown_assertions c.deref-at-items.ensures.value
    ∙ (c.in_ok-assertions.ensures
    ∙ ap asserted_in (ap shown_directives c.deref.ensures.value
    ∙ (c.in_ok-commands.ensures ∙ ap all_directives c.script-script.ensures))))
    (omega (arith, c.loop-number-test.false))
    (scope_is c.args.project.now s scope c.script-script.ensures
    (c.view.ensures.placement c.args.project.now.script s link_layout.places)
    (ap (map (shown_symbol c.args.project.now)) (c.of.ensures ∙ c.deref-2.ensures.value) ∙ values.symbols)
    (c.outputs_are_of_script.ensures c.args.project.now (rows c.args.project.now) (provided c.args.project.now) s
    link_layout.placed)
    (regions_are c.args.project.now.script s
    (c.layout_by_effects.ensures c.args.project.now.script (rows c.args.project.now) (provided c.args.project.now) s
    link_layout.placed)))
    c.loop-number.invariant
