-- All known names are decided, one after the other.
use Rattle.symres_decisions.proofs.Common.{AreCases, Bool, Case, Counts, HasCase, HasName, IsCase, IsListing, List}
use Rattle.symres_decisions.proofs.Common.{NamedSymbol, None, ObjectKey, Option, Some, State, Statement, [], all_uses}
use Rattle.symres_decisions.proofs.Common.{ap, arith, case_at, cases_eq, cases_lt, cond, count_by_more_no}
use Rattle.symres_decisions.proofs.Common.{count_by_more_yes, false, get_or, get_or-set_other, get_or-set_same, is_used}
use Rattle.symres_decisions.proofs.Common.{length, length-set, raised, refl, set, subst, sym, take, take_all, true}
use Rattle.symres_decisions.proofs.Common.{uses, ℕ, ⊎_elim, ◌+◌, ◌<◌, ◌^◌, ◌∙◌, ◌≡◌, ◌≤◌}
use Rattle.elfobj.specs.declared.meter.Count.TheVariants as counts
use Rattle.symres_decisions.proofs.Listed.{Listed, StandsIn, stands_in}
use Rattle.symres_decisions.proofs.OneName.{raised_none, raised_twice}

-- the key has a case, and it is right
pub record IsDone (script : List Statement) (s : State) (cases : List (Option (Case ObjectKey))) (k : ℕ) : Type 0 where
  pub which : Case ObjectKey
  pub at : case_at cases k ≡ Some which
  pub is : IsCase script s k which

-- the names before a number in the list are decided, and those that have entries are counted
pub record DecidedTo (script : List Statement) (s : State) (start cases : List (Option (Case ObjectKey)))
    (before after : Counts)
    (number : ℕ) : Type 0 where
  pub long : length cases ≡ length start
  pub done : (i : ℕ) (e : Listed) → i < number → IsDone script s cases (get_or s.order i e).1
  pub only : (k : ℕ) → HasCase cases k → HasName s.names k
  pub counted : after ≡ raised before counts.Names (all_uses s.objects (take number s.order))

pub none_decided : (script : List Statement) (s : State) (cases : List (Option (Case ObjectKey))) (m : Counts)
    → m.names < 2 ^ 64 → ((k : ℕ) → HasCase cases k → HasName s.names k) → DecidedTo script s cases cases m m 0
none_decided script s cases m small only = record {
  long = refl;
  done = λ i e l. absurd (omega (arith, l));
  only = only;
  counted = raised_none m small;
}

one_more : (objects : List (ℕ × List NamedSymbol)) (order : List Listed) (i : ℕ) (e : Listed) → i < length order
    → all_uses objects (take i order) + uses objects (get_or order i e).0 ≡ all_uses objects (take (i + 1) order)
one_more objects order i e l = go (is_used objects (get_or order i e).0) refl
  where
    go : (b : Bool) → is_used objects (get_or order i e).0 ≡ b
        → all_uses objects (take i order) + uses objects (get_or order i e).0 ≡ all_uses objects (take (i + 1) order)
    go true q =
        ap (λ (b : Bool). all_uses objects (take i order) + cond b 1 0) q
        ∙ sym (count_by_more_yes (λ (x : Listed). is_used objects x.0) order i e l q)
    go false q =
        ap (λ (b : Bool). all_uses objects (take i order) + cond b 1 0) q
        ∙ (let none : all_uses objects (take i order) + 0 ≡ all_uses objects (take i order) = omega arith in none)
        ∙ sym (count_by_more_no (λ (x : Listed). is_used objects x.0) order i e l q)

pub set_done : (script : List Statement) (s : State) (cases : List (Option (Case ObjectKey))) (n k : ℕ)
    (c : Case ObjectKey)
    → n < length cases → IsCase script s n c → (k ≡ n → ⊥) → IsDone script s cases k
    → IsDone script s (set cases n (Some c)) k
set_done script s cases n k c l is ne d = record {
  which = d.which;
  at = get_or-set_other cases n k (Some c) None ne ∙ d.at;
  is = d.is;
}

pub done_set : (script : List Statement) (s : State) (cases : List (Option (Case ObjectKey))) (n k : ℕ)
    (c : Case ObjectKey)
    → n < length cases → IsCase script s n c → k ≡ n → IsDone script s (set cases n (Some c)) k
done_set script s cases n k c l is e = record {
  which = c;
  at = ap (case_at (set cases n (Some c))) e ∙ get_or-set_same cases n (Some c) None l;
  is = subst (λ (m : ℕ). IsCase script s m c) (sym e) is;
}

only_set : (s : State) (cases : List (Option (Case ObjectKey))) (n : ℕ) (c : Case ObjectKey) → HasName s.names n
    → ((k : ℕ) → HasCase cases k → HasName s.names k) → (k : ℕ) → HasCase (set cases n (Some c)) k → HasName s.names k
only_set s cases n c h only k has =
    ⊎_elim (λ e. subst (HasName s.names) (sym e) h)
    (λ ne. only k (has.0, sym (get_or-set_other cases n k (Some c) None ne) ∙ has.1))
    (cases_eq k n)

pub one_decided : (script : List Statement) (s : State) (start cases : List (Option (Case ObjectKey)))
    (m m1 m2 : Counts)
    (number n : ℕ) (c : Case ObjectKey) → number < length s.order → n < length cases → IsCase script s n c
    → ((e : Listed) → (get_or s.order number e).1 ≡ n)
    → ((e : Listed) → m2 ≡ raised m1 counts.Names (uses s.objects (get_or s.order number e).0))
    → DecidedTo script s start cases m m1 number
    → DecidedTo script s start (set cases n (Some c)) m m2 (number + 1)
one_decided script s start cases m m1 m2 number n c l w is key up d = record {
  long = length-set cases n (Some c) ∙ d.long;
  done = λ i e h.
      ⊎_elim
      (λ same. done_set script s cases n (get_or s.order i e).1 c w is same)
      (λ ne.
      ⊎_elim (λ lt. set_done script s cases n (get_or s.order i e).1 c w is ne (d.done i e lt))
      (λ ge.
      let at : i ≡ number = omega (arith, ge, h) in
      absurd (ne (ap (λ (j : ℕ). (get_or s.order j e).1) at ∙ key e)))
      (cases_lt i number))
      (cases_eq (get_or s.order i e).1 n);
  only = only_set s cases n c is.named d.only;
  counted =
      let e : Listed = ([], 0) in
      up e
      ∙ ap (λ (x : Counts). raised x counts.Names (uses s.objects (get_or s.order number e).0)) d.counted
      ∙ raised_twice m (all_uses s.objects (take number s.order)) (uses s.objects (get_or s.order number e).0)
      ∙ ap (raised m counts.Names) (one_more s.objects s.order number e l);
}

some_same : (c d : Case ObjectKey) → Some c ≡ Some d → c ≡ d
some_same c d h = cc

-- the known key is done
pub one_done : (script : List Statement) (s : State) (start cases : List (Option (Case ObjectKey))) (m m' : Counts)
    (number k : ℕ)
    → length s.order ≤ number → IsListing s.names s.order → DecidedTo script s start cases m m' number
    → HasName s.names k → IsDone script s cases k
one_done script s start cases m m' number k past l d h =
    let at : StandsIn s.order k = stands_in s.names s.order k l h in
    subst (IsDone script s cases) (at.is ([], 0)) (d.done at.at ([], 0) (omega (arith, at.within, past)))

pub all_sound : (script : List Statement) (s : State) (start cases : List (Option (Case ObjectKey))) (m m' : Counts)
    (number : ℕ)
    → length s.order ≤ number → IsListing s.names s.order → DecidedTo script s start cases m m' number
    → AreCases script s cases
all_sound script s start cases m m' number past l d k c h =
    let done : IsDone script s cases k =
    one_done script s start cases m m' number k past l d (d.only k (c, h)) in
    subst (IsCase script s k) (some_same done.which c (sym done.at ∙ h)) done.is

pub all_complete : (script : List Statement) (s : State) (start cases : List (Option (Case ObjectKey))) (m m' : Counts)
    (number : ℕ) → length s.order ≤ number → IsListing s.names s.order
    → DecidedTo script s start cases m m' number → (k : ℕ) → HasName s.names k → HasCase cases k
all_complete script s start cases m m' number past l d k h =
    let done : IsDone script s cases k = one_done script s start cases m m' number k past l d h in (done.which, done.at)

pub all_counted : (script : List Statement) (s : State) (start cases : List (Option (Case ObjectKey))) (m m' : Counts)
    (number : ℕ) → length s.order ≤ number → DecidedTo script s start cases m m' number
    → m' ≡ raised m counts.Names (all_uses s.objects s.order)
all_counted script s start cases m m' number past d =
    d.counted
    ∙ ap (λ (es : List Listed). raised m counts.Names (all_uses s.objects es)) (take_all number s.order past)
