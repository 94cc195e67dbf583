use Rattle.relink.proofs.Common.{IsMatched, List, Statement, subst}
use Rattle.relink.proofs.match_table.matches_if_other.Goals as goal

pub returns-then-branch : goal.returns-then-branch
returns-then-branch c object x matched =
    subst (λ (script : List Statement). IsMatched script object x) c.script.ensures
    (c.in_ok-have_same_inputs.ensures c.if-branch.true object x matched)
