-- The ASSERTs of a script, one after another.
use Rattle.emit_relocate.proofs.Common.{AssertionAt, Bool, Fault, Layout, List, Option, Project, Scope, Some, [], ap}
use Rattle.emit_relocate.proofs.Common.{arith, asserts, cond, failures, false, fault_of, fault_unless, faults_in}
use Rattle.emit_relocate.proofs.Common.{filter, filter-append, get_or, get_or-map, holds_in, length, length-map, map}
use Rattle.emit_relocate.proofs.Common.{map-append, not, refl, shown_assertions, slice_get, slice_get-get_or, suc, sym}
use Rattle.emit_relocate.proofs.Common.{take, take-suc, take_all, true, ℕ, ◌++◌, ◌+◌, ◌<◌, ◌∙◌, ◌∷◌, ◌≡◌, ◌≤◌}
use Rattle.ldmodel.specs.Assertions.{assertion_faults, final_scope}
use Rattle.ldmodel.specs.FaultCode.{assertion_of}
use Rattle.ldmodel.specs.declared.fault.Fault as code
use Rattle.emit_text.specs.declared.assertion.AssertionAt as shown

one_fault : (p : Project) (scope : Scope) (n : ℕ) (x : AssertionAt) (b : Bool)
    → slice_get (asserts p.script) n ≡ Some x → holds_in scope x.assertion.condition ≡ b
    → faults_in p (fault_unless b n) ≡ failures scope (x ∷ [])
unfolding fault_of
one_fault p scope n x true at is =
    sym (ap (λ (b : Bool). map (λ (a : AssertionAt). assertion_of (Some a)) (cond (not b) (x ∷ []) [])) is)
one_fault p scope n x false at is =
    ap (λ (o : Option AssertionAt). assertion_of o ∷ []) at
    ∙ sym (ap (λ (b : Bool). map (λ (a : AssertionAt). assertion_of (Some a)) (cond (not b) (x ∷ []) [])) is)

failures-append : (scope : Scope) (xs ys : List AssertionAt) → failures scope (xs ++ ys) ≡ failures scope xs
    ++ failures scope ys
failures-append scope xs ys =
    ap (map (λ (a : AssertionAt). assertion_of (Some a)))
    (filter-append (λ (a : AssertionAt). not (holds_in scope a.assertion.condition)) xs ys)
    ∙ map-append (λ (a : AssertionAt). assertion_of (Some a))
    (filter (λ (a : AssertionAt). not (holds_in scope a.assertion.condition)) xs)
    (filter (λ (a : AssertionAt). not (holds_in scope a.assertion.condition)) ys)

abbrev shown_one : shown.AssertionAt → AssertionAt
shown_one a = record { line = a.line; assertion = a.assertion.now }

-- an ASSERT more
pub one_more : (p : Project) (scope : Scope) (items : List shown.AssertionAt) (n : ℕ) (x : shown.AssertionAt)
    (old new : List code.Fault) → shown_assertions items ≡ asserts p.script → n < length items → get_or items n x ≡ x
    → new ≡ old ++ fault_unless (holds_in scope x.assertion.now.condition) n
    → faults_in p old ≡ failures scope (take n (asserts p.script))
    → faults_in p new ≡ failures scope (take (n + 1) (asserts p.script))
one_more p scope items n x old new are within here adds h =
    let all : List AssertionAt = asserts p.script in
    let y : AssertionAt = shown_one x in
    let long : length all ≡ length items = ap length (sym are) ∙ length-map items shown_one in
    let inside : n < length all = omega (arith, long, within) in
    let there : get_or all n y ≡ y =
    ap (λ (xs : List AssertionAt). get_or xs n y) (sym are)
    ∙ (get_or-map shown_one items n x y within ∙ ap shown_one here) in
    let at : slice_get all n ≡ Some y = slice_get-get_or all n y inside ∙ ap (λ (a : AssertionAt). Some a) there in
    let suc_is : suc n ≡ n + 1 = omega arith in
    let more : take (n + 1) all ≡ take n all ++ y ∷ [] =
    ap (λ (k : ℕ). take k all) (sym suc_is)
    ∙ (take-suc all n y inside ∙ ap (λ (a : AssertionAt). take n all ++ a ∷ []) there) in
    let added : List code.Fault = fault_unless (holds_in scope y.assertion.condition) n in
    ap (faults_in p) adds
    ∙ (map-append (fault_of p (λ key. key)) old added
    ∙ (ap (λ (fs : List Fault). fs ++ faults_in p added) h
    ∙ (ap (λ (fs : List Fault). failures scope (take n all) ++ fs)
    (one_fault p scope n y (holds_in scope y.assertion.condition) at refl)
    ∙ (sym (failures-append scope (take n all) (y ∷ [])) ∙ ap (failures scope) (sym more)))))

failures_are : (p : Project) (s : Layout) → failures (final_scope p s) (asserts p.script) ≡ assertion_faults p s
unfolding assertion_faults
failures_are p s = refl

pub all_done : (p : Project) (s : Layout) (scope : Scope) (items : List shown.AssertionAt) (n : ℕ)
    (faults : List code.Fault) → shown_assertions items ≡ asserts p.script → length items ≤ n
    → scope ≡ final_scope p s → faults_in p faults ≡ failures scope (take n (asserts p.script))
    → faults_in p faults ≡ assertion_faults p s
all_done p s scope items n faults are past is h =
    let all : List AssertionAt = asserts p.script in
    let long : length all ≡ length items = ap length (sym are) ∙ length-map items shown_one in
    h
    ∙ (ap (failures scope) (take_all n all (omega (arith, long, past)))
    ∙ (ap (λ (m : Scope). failures m all) is ∙ failures_are p s))
