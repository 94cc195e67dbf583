use Rattle.symres_decisions.proofs.Common.{IsTextOf, subst, sym}
use Rattle.symres_decisions.proofs.MakingRoom.{used_forgotten}
use Rattle.symres_decisions.proofs.Used.{left_used, none_forgotten}
use Rattle.symres_decisions.proofs.decisions.Decisions.forget.Goals as goal

pub invariant_of-self : goal.invariant_of-self
invariant_of-self c = (
  c.drop_unused.ensures.whole,
  c.all_or_none-self-inside.ensures,
  c.without_forgotten.ensures c.self.inside.names c.known-known.ensures.listing c.drop_unused.ensures.forgets
      (subst (IsTextOf c.self.inside.names) (sym c.take.ensures.value) c.self.invariant.2),
)

pub returns-clause-used : goal.returns-clause-used
returns-clause-used c =
    rw (← c.self.view_is)
    (used_forgotten c.self.inside.names c.drop_unused.new.names c.drop_unused.ensures.forgets)

pub returns-clause-kept : goal.returns-clause-kept
returns-clause-kept c = λ script kept.
    c.drop_unused.ensures.sound script (rw (← c.self.view_is) at kept)

pub returns-then-are_all_used-clause-forgets : goal.returns-then-are_all_used-clause-forgets
returns-then-are_all_used-clause-forgets c =
    rw (← c.self.view_is)
    (none_forgotten c.self.inside.names c.known-known.ensures.listing
    (c.are_all_used.ensures c.if-are_all_used.true))

pub all_or_none-self-inside-requires : goal.all_or_none-self-inside-requires
all_or_none-self-inside-requires c = λ sure.
    left_used c.self.inside.names c.drop_unused.new.names c.drop_unused.ensures.forgets
