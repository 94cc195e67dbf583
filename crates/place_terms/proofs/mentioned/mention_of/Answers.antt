-- The first of these names.
use Rattle.place_terms.proofs.Common.{ap, arith, cases_lt, inl, inr, shown_names, slice_get, sym, ◌^◌, ◌∙◌}
use Rattle.place_terms.proofs.NamesInList.{found_at, none_more, stands_past, stands_nowhere}
use Rattle.place_terms.proofs.mentioned.mention_of.Goals as goal

pub returns-in-Ok-clause-found : goal.returns-in-Ok-clause-found
returns-in-Ok-clause-found c =
    ap (λ k. slice_get (shown_names c.args.names.now) k) (c.in-Ok.ensures).1
    ∙ found_at c.args.names.now c.loop-k.k _ c.args.name.now c.loop-k-test.true (sym c.eq.ensures ∙ c.if-eq.true)

pub loop-k-preserved : goal.loop-k-preserved
loop-k-preserved c =
    none_more c.args.names.now c.loop-k.k _ c.args.name.now c.loop-k-test.true (sym c.eq.ensures ∙ c.if-eq.false)
    c.loop-k.invariant

pub returns-clause-missing : goal.returns-clause-missing
returns-clause-missing c k here =
    stands_nowhere c.args.names.now c.args.name.now c.loop-k.k k _ c.loop-k.invariant c.loop-k-test.false here

pub returns-in-Err-clause-missing : goal.returns-in-Err-clause-missing
returns-in-Err-clause-missing c k here = elim (cases_lt c.loop-k.k (2 ^ 32)) [
  | inl fits ↦ absurd (c.in-Err.ensures fits)
  | inr past ↦
      let there = stands_past c.args.names.now c.args.name.now c.loop-k.k k c.loop-k.invariant here in
      omega (arith, there, past)
]
