-- The run of the section.
use Rattle.emit.proofs.Common.{ap, arith, drop, length, same_Some, slice_get, sym, take, ⊎_elim, ◌+◌, ◌-◌, ◌∙◌, ◌∷◌}
use Rattle.emit.proofs.Common.{◌≡◌}
use Rattle.emit.proofs.Numbering.{run_found}
use Rattle.emit.proofs.Present.{if_none, is_counted, not_some, run_stands}
use Rattle.emit.proofs.section_fields.fields_of.Goals as goal

pub returns-clause-some : goal.returns-clause-some
returns-clause-some c l stays o x are runs there own =
    let ends = c.args.relocated.now.ends.items in
    let number = c.in_ok-number.number in
    let lent = sym c.as_slice-ends.ensures.value in
    run_found l stays o x ends c.args.relocated.now.patches.items _ c.args.place.0 c.args.section.0
    c.in_ok-first.first number c.in_ok-begin.begin c.in_ok-end.end
    (c.in_ok-first.ensures.linked l.project l.layout are) runs there own
    (omega (arith, c.in_ok-number.ensures.1))
    (ap (λ es. slice_get (0 ∷ es) number) lent ∙ sym c.in_ok-begin.ensures)
    (ap (λ es. slice_get (0 ∷ es) (number + 1)) lent
    ∙ ap (slice_get (0 ∷ c.as_slice-ends.result.now)) (omega (arith, c.in_ok-checked_add.ensures.1))
    ∙ sym c.in_ok-end.ensures)
    (ap (λ ps. take (c.in_ok-end.end - c.in_ok-begin.begin) (drop c.in_ok-begin.begin ps))
    c.as_slice-patches.ensures.value)

pub returns-in_err-first-clause-none : goal.returns-in_err-first-clause-none
returns-in_err-first-clause-none c =
    if_none c.from_residual.result
    (λ l stays o x are runs there own.
    is_counted l.project c.args.indexed_layout.now.table c.args.place.0 o c.args.section.0 x are.table there own
    (sym c.linked_before.ensures.is ∙ c.in_err-first.was))

pub returns-in_err-number-clause-none : goal.returns-in_err-number-clause-none
returns-in_err-number-clause-none c =
    if_none c.from_residual-in_err-number.result
    (λ l stays o x are runs there own.
    let stand = run_stands l stays o x c.args.relocated.now.ends.items c.args.relocated.now.patches.items c.args.place.0
    c.args.section.0 (c.in_ok-first.first + c.args.section.0) runs there own
    (ap (λ n. n + c.args.section.0) (c.in_ok-first.ensures.linked l.project l.layout are)) in
    omega (arith, stand.long, c.in_err-number.ensures, c.args.relocated.now.ends.ok))

pub returns-in_err-begin-clause-none : goal.returns-in_err-begin-clause-none
returns-in_err-begin-clause-none c =
    if_none c.from_residual-in_err-begin.result
    (λ l stays o x are runs there own.
    let number = c.in_ok-number.number in
    let stand = run_stands l stays o x c.args.relocated.now.ends.items c.args.relocated.now.patches.items c.args.place.0
    c.args.section.0 number runs there own
    (omega (arith, c.in_ok-number.ensures.1, c.in_ok-first.ensures.linked l.project l.layout are)) in
    not_some c.end_of.result stand.begin (c.in_err-begin.was)
    (c.end_of.ensures ∙ ap (λ es. slice_get (0 ∷ es) number) c.as_slice-ends.ensures.value ∙ stand.from))

pub returns-in_err-checked_add-clause-none : goal.returns-in_err-checked_add-clause-none
returns-in_err-checked_add-clause-none c =
    if_none c.from_residual-in_err-checked_add.result
    (λ l stays o x are runs there own.
    let number = c.in_ok-number.number in
    let stand = run_stands l stays o x c.args.relocated.now.ends.items c.args.relocated.now.patches.items c.args.place.0
    c.args.section.0 number runs there own
    (omega (arith, c.in_ok-number.ensures.1, c.in_ok-first.ensures.linked l.project l.layout are)) in
    absurd (c.in_err-checked_add.ensures (omega (arith, stand.long, c.args.relocated.now.ends.ok))))

pub returns-in_err-end-clause-none : goal.returns-in_err-end-clause-none
returns-in_err-end-clause-none c =
    if_none c.from_residual-in_err-end.result
    (λ l stays o x are runs there own.
    let number = c.in_ok-number.number in
    let stand = run_stands l stays o x c.args.relocated.now.ends.items c.args.relocated.now.patches.items c.args.place.0
    c.args.section.0 number runs there own
    (omega (arith, c.in_ok-number.ensures.1, c.in_ok-first.ensures.linked l.project l.layout are)) in
    not_some c.end_of-2.result stand.end (c.in_err-end.was)
    (c.end_of-2.ensures ∙ ap (slice_get (0 ∷ c.as_slice-ends.result.now)) (omega (arith, c.in_ok-checked_add.ensures.1))
    ∙ ap (λ es. slice_get (0 ∷ es) (number + 1)) c.as_slice-ends.ensures.value ∙ stand.to))

pub returns-then-begin-end-clause-none : goal.returns-then-begin-end-clause-none
returns-then-begin-end-clause-none c l stays o x are runs there own =
    let number = c.in_ok-number.number in
    let ends = c.args.relocated.now.ends.items in
    let lent = c.as_slice-ends.ensures.value in
    let stand = run_stands l stays o x ends c.args.relocated.now.patches.items c.args.place.0
    c.args.section.0 number runs there own
    (omega (arith, c.in_ok-number.ensures.1, c.in_ok-first.ensures.linked l.project l.layout are)) in
    let begin : c.in_ok-begin.begin ≡ stand.begin =
    same_Some _ _ (c.in_ok-begin.ensures ∙ ap (λ es. slice_get (0 ∷ es) number) lent ∙ stand.from) in
    let end : c.in_ok-end.end ≡ stand.end =
    same_Some _ _
    (c.in_ok-end.ensures
    ∙ ap (slice_get (0 ∷ c.as_slice-ends.result.now)) (omega (arith, c.in_ok-checked_add.ensures.1))
    ∙ ap (λ es. slice_get (0 ∷ es) (number + 1)) lent ∙ stand.to) in
    let long = ap length c.as_slice-patches.ensures.value in
    ⊎_elim (λ a. omega (arith, a, begin, end, stand.order))
    (λ a. omega (arith, a, begin, end, stand.order, stand.within, long)) c.then-begin-end.either
