-- What one name stands for.
use Rattle.symres_decisions.proofs.Common.{Bool, Case, Counts, HasCase, HasName, IsCase, IsNameAt, IsNamed, IsSome}
use Rattle.symres_decisions.proofs.Common.{List, NamedSymbol, ObjectKey, Option, Some, State, Statement, [], ap, arith}
use Rattle.symres_decisions.proofs.Common.{case_at, decided, decision_in, entries_of, false, get_or, is_assigned}
use Rattle.symres_decisions.proofs.Common.{is_provided, min, null_symbol, raised, refl, subst, sym, true, ℕ, ◌+◌, ◌-◌}
use Rattle.symres_decisions.proofs.Common.{◌<◌, ◌^◌, ◌∙◌, ◌≡◌, ◌≤◌}
use Rattle.elfobj.specs.declared.meter.Count.TheVariants as counts
use Rattle.ldmodel.specs.CodeValues.{decision_under_keys}
use Rattle.ldmodel.specs.Names.{Script, Undefined}

-- ---- by the script alone

pub assigned_only : (b p : Bool) → b ≡ true → Script ≡ decided b p []
unfolding decided
assigned_only true p e = refl
assigned_only false p e = absurd (cc)

pub other_only : (b p : Bool) → b ≡ false → Undefined ≡ decided b p []
unfolding decided
other_only true p e = absurd (cc)
other_only false true e = refl
other_only false false e = refl

-- ---- by entries

some_same : (x y : List ℕ) → Some x ≡ Some y → x ≡ y
some_same x y h = cc

-- a key has one name
pub one_name : (names : List (Option (List ℕ))) (k : ℕ) (x y : List ℕ) → IsNamed names k x → IsNamed names k y → x ≡ y
one_name names k x y a b = some_same x y (sym a ∙ b)

-- a name without entries is what the script alone makes of it
pub case_unused : (script : List Statement) (s : State) (k : ℕ) (c : Case ObjectKey) (name : List ℕ)
    → IsNamed s.names k name
    → entries_of name s.objects ≡ []
    → decision_under_keys c ≡ decided (is_assigned script name) (is_provided script name) [] → IsCase script s k c
case_unused script s k c name n e h = record {
  named = (name, n);
  case = λ other o.
      let same : name ≡ other = one_name s.names k name other n o in
      subst (λ (x : List ℕ). decision_under_keys c ≡ decision_in script s x) same
      (h ∙ ap (decided (is_assigned script name) (is_provided script name)) (sym e));
}

-- ---- the count

min_twice : (x a b m : ℕ) → min (min (x + a) m + b) m ≡ min (x + (a + b)) m
min_twice x a b m = omega arith

min_none : (x m : ℕ) → x ≤ m → x ≡ min (x + 0) m
min_none x m h = omega (arith, h)

pub raised_twice : (m : Counts) (a b : ℕ) → raised (raised m counts.Names a) counts.Names b
    ≡ raised m counts.Names (a + b)
raised_twice m a b = ap (λ (n : ℕ). let x : Counts = record m { names = n } in x) (min_twice m.names a b (2 ^ 64 - 1))

pub raised_none : (m : Counts) → m.names < 2 ^ 64 → m ≡ raised m counts.Names 0
raised_none m h =
    ap (λ (n : ℕ). let x : Counts = record m { names = n } in x) (min_none m.names (2 ^ 64 - 1) (omega (arith, h)))

-- ---- a key that has a case

pub some_case : (cases : List (Option (Case ObjectKey))) (k : ℕ) (r : Option (Case ObjectKey)) → r ≡ case_at cases k
    → HasCase cases k
    → IsSome r
some_case cases k r e h = subst IsSome (sym (e ∙ h.1)) refl

pub named_there : (names : List (Option (List ℕ))) (tables : List (ℕ × List NamedSymbol)) (place number k : ℕ)
    → IsNameAt names tables place number k → HasName names k
named_there names tables place number k h =
    ((get_or (get_or tables place (0, [])).1 number null_symbol).name, h (0, []) null_symbol)
