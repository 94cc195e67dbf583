use Rattle.ldscript.proofs.Common.{CloseParenthesis, arith, false, mark, subst}
use Rattle.ldscript.proofs.Inputs.{selected_unsorted, selected_sorted, closed_words_single}
use Rattle.ldscript.proofs.read_input.selection.Goals as goal

pub returns-in_default-2 : goal.returns-in_default-2
returns-in_default-2 c = selected_unsorted _ (rw c.copy.ensures at c.in_default.ensures)
    (rw c.in_default-2.is at c.in_ok-sections.ensures)

pub returns-in_default-3 : goal.returns-in_default-3
returns-in_default-3 c =
    let n = (rw c.in_default-3.is at c.in_ok-sections-2.ensures) in
    selected_sorted _ _ _ (rw c.copy.ensures at c.in-Some.ensures.spells) (λ ws vs r x y. n ws vs x)

pub returns-in-Some-after : goal.returns-in-Some-after
returns-in-Some-after c =
    let h = rw c.copy.ensures at c.in-Some.ensures in
    let p = (rw c.in-Some-3.is at c.in_ok-sections-2.ensures) in
    record {
      spells = (_, (h.spells.0, h.spells.1, (_, h.spells.2, p.spells)), c.in-Some-after.ensures.0);
      shorter = omega (arith, h.shorter, p.shorter, c.in-Some-after.ensures.1);
    }

pub returns-in-None : goal.returns-in-None
returns-in-None c = selected_sorted _ _ _ (rw c.copy.ensures at c.in-Some.ensures.spells) (λ ws vs r x y.
    let s = closed_words_single false _ _ _ _ _ x (rw c.in-Some-3.is at c.in_ok-sections-2.ensures).spells in
    c.in-None.ensures r (subst (λ l. mark CloseParenthesis l r) s.1 y))
