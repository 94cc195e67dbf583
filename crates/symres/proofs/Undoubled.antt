-- Projects in which no name is defined twice.
use Rattle.symres.proofs.Common.{Bool, Case, DecisionsState, Declaration, Duplicate, HasCase, HasName, IsNamed}
use Rattle.symres.proofs.Common.{IsSymbolTable, List, Option, Project, Some, [], ap, append_assoc, arith, case_at, cond}
use Rattle.symres.proofs.Common.{count_by, decided, decision, declarations, entries_of, false, filter, is_assigned}
use Rattle.symres.proofs.Common.{is_doubled, is_provided, keys_of, map, place_case, place_or_0, refl, state_of, suc}
use Rattle.symres.proofs.Common.{sum_by-cons, sym, true, zero, ℕ, ◌++◌, ◌∙◌, ◌∷◌, ◌≡◌}
use Rattle.ldmodel_laws.specs.Renumbering.{renumbered_decision}
use Rattle.ldmodel.specs.NameFaults.{duplicate, duplicates, is_duplicate}
use Rattle.ldmodel.specs.declared.names.Case.TheVariants as case
use Rattle.ldmodel.specs.declared.names.ObjectKey.{ObjectKey}
use Rattle.symres.proofs.Doubling.{case_duplicate, not_duplicate}
use Rattle.symres.proofs.Placing.{ByKeys, same_tables, some_placed}

-- 1 where the test passes
abbrev one_if : Bool → ℕ
one_if b = cond b 1 0

-- where none is counted, none is there
none_counted : (cases : List (Option (Case ObjectKey))) (k : ℕ) → count_by is_doubled cases ≡ 0
    → is_doubled (case_at cases k) ≡ true → ⊥
none_counted [] zero h t = absurd (cc)
none_counted [] (suc k) h t = absurd (cc)
none_counted (c ∷ cs) zero h t =
    let split = sum_by-cons (λ (y : Option (Case ObjectKey)). one_if (is_doubled y)) c cs in
    let here : one_if (is_doubled c) ≡ 1 = ap one_if t in
    omega (arith, h, split, here)
none_counted (c ∷ cs) (suc k) h t =
    let split = sum_by-cons (λ (y : Option (Case ObjectKey)). one_if (is_doubled y)) c cs in
    none_counted cs k (omega (arith, h, split)) t

placed_doubled : (keys : List ℕ) (c : Case ObjectKey) → is_doubled (Some (place_case keys c)) ≡ is_doubled (Some c)
placed_doubled keys (case.Strong e) = refl
placed_doubled keys case.Script = refl
placed_doubled keys (case.Common owner size align) = refl
placed_doubled keys (case.Weak e) = refl
placed_doubled keys case.Provided = refl
placed_doubled keys case.Undefined = refl
placed_doubled keys case.Duplicate = refl

-- a name without entries is not defined twice
once : (f : ℕ → ℕ) (a v : Bool) → renumbered_decision f (decided a v []) ≡ Duplicate → ⊥
unfolding decided
once f true v h = absurd (cc)
once f false true h = absurd (cc)
once f false false h = absurd (cc)

-- no name is
pub none_twice : (p : Project) (d : DecisionsState) (order : List ℕ)
    → ((name : List ℕ) → ByKeys p d name) → ((k : ℕ) → HasName d.names.names k → HasCase d.cases k)
    → ((name : List ℕ) → ((k : ℕ) → IsNamed d.names.names k name → ⊥) → entries_of name d.names.objects ≡ [])
    → count_by is_doubled d.cases ≡ 0 → IsSymbolTable p (state_of d order) → (name : List ℕ) → decision p name
    ≡ Duplicate
    → ⊥
none_twice p d order by complete unknown none symbol_table name twice =
    let unnamed : (k : ℕ) → IsNamed d.names.names k name → ⊥ = λ k n.
    let has = complete k (name, n) in
    let there = some_placed (place_case order) d.cases k has.0 has.1 in
    let is = (symbol_table.sound k (place_case order has.0) there).case name n in
    none_counted d.cases k none
    (ap is_doubled has.1 ∙ sym (placed_doubled order has.0) ∙ case_duplicate (place_case order has.0) (is ∙ twice)) in
    once (place_or_0 (keys_of d.names.objects)) (is_assigned p.script name) (is_provided p.script name)
    (ap (λ (ds : List Declaration).
    renumbered_decision (place_or_0 (keys_of d.names.objects))
    (decided (is_assigned p.script name) (is_provided p.script name) ds)) (sym (unknown name unnamed))
    ∙ sym (by name (sym (same_tables p d order symbol_table))) ∙ twice)

-- so no declaration is a fault
none_among : (p : Project) (ds rest : List Declaration) → declarations p.objects ≡ ds ++ rest
    → ((name : List ℕ) → decision p name ≡ Duplicate → ⊥) → filter (is_duplicate p) rest ≡ []
none_among p ds [] all h = refl
none_among p ds (d ∷ rest) all h =
    ap (λ (b : Bool). cond b (d ∷ filter (is_duplicate p) rest) (filter (is_duplicate p) rest))
    (not_duplicate p ds d (rest, all ∙ sym (append_assoc ds (d ∷ []) rest)) (λ strong. h d.name))
    ∙ none_among p (ds ++ d ∷ []) rest (all ∙ sym (append_assoc ds (d ∷ []) rest)) h

pub no_duplicates : (p : Project) → ((name : List ℕ) → decision p name ≡ Duplicate → ⊥) → duplicates p ≡ []
unfolding duplicates
no_duplicates p h = ap (map (duplicate p)) (none_among p [] (declarations p.objects) refl h)
