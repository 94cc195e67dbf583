-- No edit is without an outcome, and none comes to 'out of memory'.
use Rattle.ldmodel_laws.proofs.Common.{Bool, Change, Err, HasClash, IsCut, IsRefusal, IsScript, IsTree, Lexeme, List}
use Rattle.ldmodel_laws.proofs.Common.{None, Ok, Option, Project, ScriptRefusal, Some, Statement, ap, arith, cases_lt}
use Rattle.ldmodel_laws.proofs.Common.{cond, false, has_misplaced_dot, inl, inr, length, nat_le, nat_lt, not, refl}
use Rattle.ldmodel_laws.proofs.Common.{subst, sym, true, true≢false, ℕ, ⊎_elim, ◌<◌, ◌^◌, ◌||◌, ◌∙◌, ◌≡◌, ◌≢◌, ◌≤◌}
use Rattle.elfobj.specs.Refusal.{object_refusal, holds, refusals}
use Rattle.elfobj.specs.RefusalNumber as object
use Rattle.elfobj.specs.declared.refusal.ObjectRefusal.{ObjectRefusal}
use Rattle.elfobj.specs.declared.refusal.ObjectRefusal.TheVariants as why
use Rattle.ldscript.specs.tokens.Limits.{IsTokens}
use Rattle.ldscript.specs.RefusalNumber.{script_refusal_number}
use Rattle.ldscript.specs.declared.refusal.ScriptRefusal.TheVariants as reader
use Rattle.ldmodel.specs.Edits.{Add, Replace, Move, Remove, SetScript, Refusal, InUse, Unknown, PastEnd, NotAnObject}
use Rattle.ldmodel.specs.Edits.{NotAScript, Limit, NoMemory, early_refusal, Accepts, Refuses, RefusesObject, After}
use Rattle.ldmodel.specs.Edits.{edit_refusal_number, is_in_use, is_object_name, is_too_long, is_full}
use Rattle.ldmodel_laws.specs.Outcomes.{HasOutcome, IsNoScript}
use Rattle.ldmodel_laws.proofs.Finding.{found_passes}
use Rattle.growth.specs.Memory.{no_memory}

outcome_early : (p : Project) (c : Change) (r : Refusal) → early_refusal p c ≡ Some r → HasOutcome p c
outcome_early p c r e = (Err r, inl e)

accepted : (p : Project) (c : Change) (q : Project) → early_refusal p c ≡ None → Accepts p c q → HasOutcome p c
accepted p c q e h = (Ok q, (e, h))

refused : (p : Project) (c : Change) (r : Refusal) → early_refusal p c ≡ None → Refuses p c r → HasOutcome p c
refused p c r e h = (Err r, inr (e, h))

-- ---- edits that bring no script

of_object : (p : Project) (c : Change) (bytes : List ℕ) (q : Project) → early_refusal p c ≡ None
    → (object_refusal bytes ≡ None → Accepts p c q) → ((r : Refusal) → RefusesObject bytes r → Refuses p c r)
    → HasOutcome p c
of_object p c bytes q e read other = go (object_refusal bytes) refl
  where
    go : (o : Option ObjectRefusal) → object_refusal bytes ≡ o → HasOutcome p c
    go None k = accepted p c q e (read k)
    go (Some w) k = refused p c (NotAnObject w) e (other (NotAnObject w) (w, k, refl))

on_time : (p : Project) (c : Change) → IsNoScript c → early_refusal p c ≡ None → HasOutcome p c
on_time p (Add name at bytes) n e = of_object p (Add name at bytes) bytes _ e (λ k. (k, refl)) (λ r h. h)
on_time p (Replace name bytes) n e = of_object p (Replace name bytes) bytes _ e (λ k. (k, refl)) (λ r h. h)
on_time p (Move name to) n e = accepted p (Move name to) _ e refl
on_time p (Remove name) n e = accepted p (Remove name) _ e refl
on_time p (SetScript text) n e = absurd n

pub outcome : (p : Project) (c : Change) → IsNoScript c → HasOutcome p c
outcome p c n = go (early_refusal p c) refl
  where
    go : (o : Option Refusal) → early_refusal p c ≡ o → HasOutcome p c
    go (Some r) e = outcome_early p c r e
    go None e = on_time p c n e

-- ---- a script

module _ (text : List ℕ) (no_script : (s : List Statement) → IsScript text s → ⊥) (no_refusal : (w : ScriptRefusal)
    → w ≢ reader.NoMemory no_memory → IsRefusal text w → ⊥) where
  no_tree : (s : List Statement) → IsTree text s → ⊥
  no_tree s t = go (has_misplaced_dot s) refl
    where
      no_clash : HasClash s → ⊥
      no_clash k = no_refusal reader.Repeated (λ e. let none : ⊥ = cc in
          none) (record { statements = s; tree = t; clash = k })

      go : (b : Bool) → has_misplaced_dot s ≡ b → ⊥
      go true e = no_refusal reader.MisplacedDot (λ e. let none : ⊥ = cc in
          none) (record { statements = s; tree = t; no_clash = no_clash; misplaced = e })
      go false e = no_script s (record { tree = t; no_clash = no_clash; no_misplaced_dot = e })

  no_tokens : (ls : List Lexeme) → IsTokens text ls → ⊥
  no_tokens ls t =
      no_refusal reader.NotAScript (λ e. let none : ⊥ = cc in
      none) (record {
        lexemes = ls;
        tokens = t;
        none = λ s spelled.
            no_tree s (record { lexemes = ls; tokens = t; spelled = spelled });
      })

  no_cut : length text ≤ 2 ^ 20 → (ls : List Lexeme) → IsCut text ls → ⊥
  no_cut short ls cut =
      no_refusal reader.Limit (λ e. let none : ⊥ = cc in
      none) (inr (record {
        lexemes = ls;
        cut = cut;
        past = λ within.
            no_tokens ls (record { short = short; cut = cut; limits = within });
      }))

  none_of_these : ⊥
  none_of_these =
      ⊎_elim (λ (long : 2 ^ 20 < length text). no_refusal reader.Limit (λ e. let none : ⊥ = cc in none) (inl long))
      (λ (short : length text ≤ 2 ^ 20).
      no_refusal reader.NotTokens (λ e. let none : ⊥ = cc in none) (short, no_cut short))
      (cases_lt (2 ^ 20) (length text))

pub some_outcome : (p : Project) (c : Change) → (HasOutcome p c → ⊥) → ⊥
some_outcome p (SetScript text) n = go (early_refusal p (SetScript text)) refl
  where
    go : (o : Option Refusal) → early_refusal p (SetScript text) ≡ o → ⊥
    go (Some r) e = n (outcome_early p (SetScript text) r e)
    go None e = none_of_these text (λ s h. n (accepted p (SetScript text) (record p { script = s }) e (s, h, refl)))
        (λ w k h. n (refused p (SetScript text) (NotAScript w) e (w, k, h, refl)))
some_outcome p (Add name at bytes) n = n (outcome p (Add name at bytes) tt)
some_outcome p (Replace name bytes) n = n (outcome p (Replace name bytes) tt)
some_outcome p (Move name to) n = n (outcome p (Move name to) tt)
some_outcome p (Remove name) n = n (outcome p (Remove name) tt)

-- ---- numbers of refusals

-- a refusal for which neither the object nor the script is looked at
abbrev IsEarly : Option Refusal → Type 0
IsEarly None = Unit {0}
IsEarly (Some InUse) = Unit {0}
IsEarly (Some Unknown) = Unit {0}
IsEarly (Some PastEnd) = Unit {0}
IsEarly (Some Limit) = Unit {0}
IsEarly (Some (NotAnObject w)) = ⊥
IsEarly (Some (NotAScript w)) = ⊥
IsEarly (Some NoMemory) = ⊥

one_of : (b : Bool) (x y : Option Refusal) → IsEarly x → IsEarly y → IsEarly (cond b x y)
one_of true x y h k = h
one_of false x y h k = k

is_early : (p : Project) (c : Change) → IsEarly (early_refusal p c)
unfolding early_refusal
is_early p (Add name at bytes) = let late : Option Refusal =
    cond (not (is_object_name name) || is_too_long bytes || is_full p.objects) (Some Limit) None in
    let later : Option Refusal = cond (nat_lt (length p.objects) at) (Some PastEnd) late in
    one_of (is_in_use p.objects name) (Some InUse) later tt
    (one_of (nat_lt (length p.objects) at) (Some PastEnd) late tt
    (one_of (not (is_object_name name) || is_too_long bytes || is_full p.objects) (Some Limit) None tt tt))
is_early p (Replace name bytes) =
    one_of (not (is_in_use p.objects name)) (Some Unknown) (cond (is_too_long bytes) (Some Limit) None) tt
    (one_of (is_too_long bytes) (Some Limit) None tt tt)
is_early p (Move name to) =
    one_of (not (is_in_use p.objects name)) (Some Unknown) (cond (nat_le (length p.objects) to) (Some PastEnd) None) tt
    (one_of (nat_le (length p.objects) to) (Some PastEnd) None tt tt)
is_early p (Remove name) = one_of (not (is_in_use p.objects name)) (Some Unknown) None tt tt
is_early p (SetScript text) = one_of (is_too_long text) (Some Limit) None tt tt

early_number : (r : Refusal) → IsEarly (Some r) → edit_refusal_number r ≤ 6
early_number InUse h = omega arith
early_number Unknown h = omega arith
early_number PastEnd h = omega arith
early_number Limit h = omega arith
early_number (NotAnObject w) h = absurd h
early_number (NotAScript w) h = absurd h
early_number NoMemory h = absurd h

object_number : (bytes : List ℕ) (r : Refusal) → RefusesObject bytes r → edit_refusal_number r ≤ 6
object_number bytes r h = subst (λ x. edit_refusal_number x ≤ 6) (sym h.2) (omega arith)

late_number : (p : Project) (c : Change) (r : Refusal) → Refuses p c r → edit_refusal_number r ≤ 6
late_number p (Add name at bytes) r h = object_number bytes r h
late_number p (Replace name bytes) r h = object_number bytes r h
late_number p (Move name to) r h = absurd h
late_number p (Remove name) r h = absurd h
late_number p (SetScript text) r h = subst (λ x. edit_refusal_number x ≤ 6) (sym h.3) (omega arith)

pub outer_number : (p : Project) (c : Change) (r : Refusal) → After p c (Err r) → edit_refusal_number r ≤ 6
outer_number p c r (inl e) = early_number r (subst IsEarly e (is_early p c))
outer_number p c r (inr h) = late_number p c r h.1

never_memory : (bytes : List ℕ) → object_refusal bytes ≡ Some (why.NoMemory no_memory) → ⊥
unfolding object_refusal holds
never_memory bytes e = true≢false (sym (found_passes (holds bytes) refusals (why.NoMemory no_memory) e))

small_object : (bytes : List ℕ) (w : ObjectRefusal) → object_refusal bytes ≡ Some w → object.refusal_number w ≤ 13
small_object bytes why.Short e = omega arith
small_object bytes why.NotElf e = omega arith
small_object bytes why.Machine e = omega arith
small_object bytes why.SectionTable e = omega arith
small_object bytes why.SectionCount e = omega arith
small_object bytes why.SectionBounds e = omega arith
small_object bytes why.SectionProfile e = omega arith
small_object bytes why.SymbolTable e = omega arith
small_object bytes why.Symbol e = omega arith
small_object bytes why.RelocationSection e = omega arith
small_object bytes why.RelocationType e = omega arith
small_object bytes why.FieldBounds e = omega arith
small_object bytes why.FieldOverlap e = omega arith
small_object bytes (why.NoMemory _) e = absurd (never_memory bytes e)

small_script : (w : ScriptRefusal) → w ≢ reader.NoMemory no_memory → script_refusal_number w ≤ 5
small_script reader.NotTokens n = omega arith
small_script reader.NotAScript n = omega arith
small_script reader.Repeated n = omega arith
small_script reader.MisplacedDot n = omega arith
small_script reader.Limit n = omega arith
small_script (reader.NoMemory _) n = absurd (n refl)

of_refused_object : (bytes : List ℕ) (w : ObjectRefusal) → RefusesObject bytes (NotAnObject w)
    → object.refusal_number w ≤ 13
of_refused_object bytes w h = let same : w ≡ h.0 = (let e = h.2 in cc) in
    small_object bytes w (h.1 ∙ ap Some (sym same))

late_object : (p : Project) (c : Change) (w : ObjectRefusal) → Refuses p c (NotAnObject w)
    → object.refusal_number w ≤ 13
late_object p (Add name at bytes) w h = of_refused_object bytes w h
late_object p (Replace name bytes) w h = of_refused_object bytes w h
late_object p (Move name to) w h = absurd h
late_object p (Remove name) w h = absurd h
late_object p (SetScript text) w h = absurd (let e = h.3 in let none : ⊥ = cc in none)

pub inner_of_object : (p : Project) (c : Change) (w : ObjectRefusal) → After p c (Err (NotAnObject w))
    → object.refusal_number w ≤ 13
inner_of_object p c w (inl e) = absurd (subst IsEarly e (is_early p c))
inner_of_object p c w (inr h) = late_object p c w h.1

late_script : (p : Project) (c : Change) (w : ScriptRefusal) → Refuses p c (NotAScript w)
    → script_refusal_number w ≤ 5
late_script p (Add name at bytes) w h = absurd (let e = h.2 in let none : ⊥ = cc in none)
late_script p (Replace name bytes) w h = absurd (let e = h.2 in let none : ⊥ = cc in none)
late_script p (Move name to) w h = absurd h
late_script p (Remove name) w h = absurd h
late_script p (SetScript text) w h = let same : w ≡ h.0 = (let e = h.3 in cc) in
    small_script w (λ e. h.1 (sym same ∙ e))

pub inner_of_script : (p : Project) (c : Change) (w : ScriptRefusal) → After p c (Err (NotAScript w))
    → script_refusal_number w ≤ 5
inner_of_script p c w (inl e) = absurd (subst IsEarly e (is_early p c))
inner_of_script p c w (inr h) = late_script p c w h.1
