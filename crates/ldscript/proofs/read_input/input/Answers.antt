use Rattle.ldscript.proofs.Common.{CloseParenthesis, arith, mark, subst, true}
use Rattle.ldscript.proofs.Inputs.{input_plain, kept_as, kept_open_none, kept_plain_none, plain_same}
use Rattle.ldscript.proofs.read_input.input.Goals as goal

pub returns-in_default-after : goal.returns-in_default-after
returns-in_default-after c = kept_open_none _ _ (rw c.copy.ensures at c.in-Some.ensures.0) c.in_default-after.ensures

pub returns-in_default-2 : goal.returns-in_default-2
returns-in_default-2 c =
    let n = (rw c.in_default-2.is at c.in_ok-input.ensures.read) in
    kept_plain_none _ _ _ (rw c.copy.ensures at c.in-Some.ensures.0) c.in-Some-after.ensures.0 (λ y ws r x z. n y ws x)

pub returns-in-None : goal.returns-in-None
returns-in-None c = kept_plain_none _ _ _ (rw c.copy.ensures at c.in-Some.ensures.0) c.in-Some-after.ensures.0
    (λ y ws r x z.
    let s = plain_same y c.in-Some-2.input _ ws _ x (rw c.in-Some-2.is at c.in_ok-input.ensures.read).spells in
    c.in-None.ensures r (subst (λ l. mark CloseParenthesis l r) s.same_rest z))

pub returns-in_default : goal.returns-in_default
returns-in_default c = input_plain _ (rw c.copy.ensures at c.in_default.ensures) (λ x. x.0)
    (λ x. x.1) _ c.plain.ensures.read c.plain.ensures.keep

pub returns-in-Some-after-2 : goal.returns-in-Some-after-2
returns-in-Some-after-2 c =
    let h = rw c.copy.ensures at c.in-Some.ensures in
    record {
      spells = kept_as true _ _ _ (rw c.in-Some-2.is at c.in_ok-input.ensures.keep) (
        _,
        h.0,
        (
          _,
          c.in-Some-after.ensures.0,
          (_, (rw c.in-Some-2.is at c.in_ok-input.ensures.read).spells, c.in-Some-after-2.ensures.0),
        ),
      );
      shorter = omega (
        arith,
        h.1,
        c.in-Some-after.ensures.1,
        (rw c.in-Some-2.is at c.in_ok-input.ensures.read).shorter,
        c.in-Some-after-2.ensures.1,
      );
    }
