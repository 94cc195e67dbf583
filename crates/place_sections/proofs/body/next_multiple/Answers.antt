use Rattle.place_sections.proofs.Common.{SomeIff, arith, subst, sym, ℕ, ◌<◌, ◌^◌}
use Rattle.place_sections.proofs.Multiples.{next_is}
use Rattle.place_sections.proofs.body.next_multiple.Goals as goal

pub returns : goal.returns
returns c =
    subst (λ (m : ℕ). SomeIff c.checked_add.result (m < 2 ^ 64) m)
    (sym (next_is c.args.address c.args.alignment c.past_multiple-past.result c.past_multiple-past.ensures.value
    (λ e. absurd (omega (arith, e, c.if-past-eq0.false))) c.past_multiple-past.ensures.less))
    c.checked_add.ensures
