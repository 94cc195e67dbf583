use Rattle.gather.proofs.Common.{IsMatched, List, Some, Statement, arith, shown_input, slice_get, subst, sym, ◌∙◌, ◌≡◌}
use Rattle.gather.proofs.Preparing.{more_matched, object_here}
use Rattle.gather.proofs.matches.match_all.Goals as goal

pub loop-input-preserved : goal.loop-input-preserved
loop-input-preserved c =
    let x = c.input-item.result in
    let at : slice_get c.args.project.now.objects c.loop-input.input-index ≡ Some (shown_input x) =
    object_here c.args.project.now c.inputs-inputs.result.now c.loop-input.input-index x c.inputs-inputs.ensures.same
    (omega (arith, c.loop-input-test.true)) (sym c.input-item.is) in
    let own : IsMatched c.args.project.now.script (shown_input x) c.in_ok-match_object.field-0 =
    subst (λ (s : List Statement). IsMatched s (shown_input x) c.in_ok-match_object.field-0)
    (c.in_ok-matcher.ensures ∙ c.script.ensures) c.in_ok-match_object.ensures in
    more_matched c.args.project.now c.loop-input.input-index (shown_input x) c.loop-input.all.items
    c.push.new.list.items c.in_ok-match_object.field-0 at own c.in_ok-push.ensures.items c.loop-input.invariant
