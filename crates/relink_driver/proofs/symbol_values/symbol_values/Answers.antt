use Rattle.relink_driver.proofs.Common.{List, Some, [], ap, length, option_map, refl, rules, shown_input, shown_inputs}
use Rattle.relink_driver.proofs.Common.{slice_get, slice_get-map, slice_get_read, subst, sym, ℕ, ◌++◌, ◌∙◌, ◌∷◌, ◌≡◌}
use Rattle.emit.specs.relocate.declared.value.SymbolValue.{SymbolValue}
use Rattle.relink_driver.proofs.ValuesBySource.{are_seen}
use Rattle.relink_driver.proofs.Symbols.{TableSoFar, empty_table, one_object_more, whole_table}
use Rattle.relink_driver.proofs.symbol_values.symbol_values.Goals as goal

pub loop-place-init : goal.loop-place-init
loop-place-init c =
    let p = c.args.project.now in
    let inputs = c.inputs-inputs.result.now in
    subst (λ (l : List ℕ). TableSoFar p c.args.sources (shown_inputs inputs) 0 l
    c.in_ok-values.values.items) (sym c.in_ok-starts.ensures.items)
    (subst (λ (l : List SymbolValue). TableSoFar p c.args.sources (shown_inputs inputs) 0 [] l)
    (sym c.in_ok-values.ensures.items) (empty_table p c.args.sources inputs))

pub add_object-requires : goal.add_object-requires
add_object-requires c =
    let p = c.args.project.now in
    let inputs = c.inputs-inputs.result.now in
    let n = c.loop-place.place in
    let input = c.index-inputs-place.result in
    let at : slice_get (shown_inputs inputs) n ≡ Some (shown_input input) =
    slice_get-map shown_input inputs n
    ∙ ap (option_map shown_input)
    (slice_get_read inputs (length inputs) n input refl c.loop-place-test.true c.index-inputs-place.is) in
    record {
      seen = are_seen p c.args.sources.symbol_table.now c.requires (record { 0 = n }) (shown_input input)
          (sym (ap (λ l. slice_get l n) c.inputs-inputs.ensures.same) ∙ at);
    }

pub loop-place-preserved : goal.loop-place-preserved
loop-place-preserved c =
    let begins : c.len.result ≡ length c.loop-place.values.items = search rules in
    one_object_more c.args.project.now c.args.sources c.inputs-inputs.result.now c.loop-place.place
    c.loop-place.starts.items c.push.new.list.items c.loop-place.values.items c.add_object.new.values.items
    c.index-inputs-place.result c.loop-place-test.true c.index-inputs-place.is
    (c.in_ok-push.ensures.items ∙ ap (λ n. c.loop-place.starts.items ++ n ∷ []) begins)
    c.in_ok-add_object.ensures.long c.in_ok-add_object.ensures.values c.loop-place.invariant

pub returns : goal.returns
returns c =
    whole_table c.args.project.now c.args.sources c.inputs-inputs.result.now c.loop-place.place
    (record { starts = c.loop-place.starts; values = c.loop-place.values }) c.loop-place-test.false
    c.inputs-inputs.ensures.same c.loop-place.invariant
