-- The fault of an entry symbol that nothing defines.
use Rattle.symres.proofs.Common.{Bool, Case, Decision, List, None, ObjectPlace, Option, Project, Some, Statement, []}
use Rattle.symres.proofs.Common.{ap, decision, decision_of, duplicate_fault, false, faults_in, is_some, map, map-append}
use Rattle.symres.proofs.Common.{option_or, option_to_list, refl, sym, true, unwrap_or, ℕ, ◌++◌, ◌∙◌, ◌∷◌, ◌≡◌}
use Rattle.ldmodel.specs.Fault.{Fault, UndefinedEntry}
use Rattle.ldmodel.specs.FaultCode.{fault_of}
use Rattle.ldmodel.specs.Link.{name_faults}
use Rattle.ldmodel.specs.NameFaults.{duplicates, if_undefined, undefined_among, undefined_entry}
use Rattle.ldmodel.specs.Names.{Undefined, entry_symbol}
use Rattle.ldmodel.specs.Names as names
use Rattle.ldmodel.specs.Options.{LinkOptions}
use Rattle.ldscript.specs.statements.Numbering.{entry_of}
use Rattle.ldmodel.specs.declared.fault.Fault as code
use Rattle.ldmodel.specs.declared.fault.Fault.TheVariants as variant
use Rattle.ldmodel.specs.declared.names.Case.TheVariants as case
use Rattle.symres.specs.Undefined.{faults_if, is_undefined}

if_case : (c : Case ObjectPlace) (name : List ℕ) → is_some (if_undefined name (decision_of (λ key. key) c))
    ≡ is_undefined c
if_case (case.Strong e) name = refl
if_case case.Script name = refl
if_case (case.Common e size align) name = refl
if_case (case.Weak e) name = refl
if_case case.Provided name = refl
if_case case.Undefined name = refl
if_case case.Duplicate name = refl

-- an entry symbol of this case
pub entry_of_case : (p : Project) (name : List ℕ) (c : Case ObjectPlace) (b : Bool) → Some name ≡ entry_symbol p
    → decision_of (λ key. key) c ≡ decision p name → is_undefined c ≡ b → b ≡ is_some (undefined_entry p)
unfolding undefined_entry
entry_of_case p name c b entry is same =
    sym same
    ∙ (sym (if_case c name)
    ∙ (ap (λ (d : Decision). is_some (if_undefined name d)) is
    ∙ ap (λ (o : Option (List ℕ)). is_some (undefined_among p o)) entry))

pub no_entry : (p : Project) → None ≡ entry_symbol p → false ≡ is_some (undefined_entry p)
unfolding undefined_entry
no_entry p none = ap (λ (o : Option (List ℕ)). is_some (undefined_among p o)) none

one_fault : (p : Project) (name : List ℕ) (d : Decision) (b : Bool) → entry_symbol p ≡ Some name
    → b ≡ is_some (if_undefined name d)
    → faults_in p (faults_if b) ≡ map UndefinedEntry (option_to_list (if_undefined name d))
unfolding fault_of
one_fault p name Undefined true same is =
    ap (λ (o : Option (List ℕ)). UndefinedEntry (unwrap_or o []) ∷ []) same
one_fault p name Undefined false same is = absurd (cc)
one_fault p name (names.Strong e) b same is = ap (λ (x : Bool). faults_in p (faults_if x)) is
one_fault p name names.Script b same is = ap (λ (x : Bool). faults_in p (faults_if x)) is
one_fault p name (names.Common e size align) b same is = ap (λ (x : Bool). faults_in p (faults_if x)) is
one_fault p name (names.Weak e) b same is = ap (λ (x : Bool). faults_in p (faults_if x)) is
one_fault p name names.Provided b same is = ap (λ (x : Bool). faults_in p (faults_if x)) is
one_fault p name names.Duplicate b same is = ap (λ (x : Bool). faults_in p (faults_if x)) is

entry_fault : (p : Project) (o : Option (List ℕ)) (b : Bool) → entry_symbol p ≡ o
    → b ≡ is_some (undefined_among p o)
    → faults_in p (faults_if b) ≡ map UndefinedEntry (option_to_list (undefined_among p o))
entry_fault p None b same is = ap (λ (x : Bool). faults_in p (faults_if x)) is
entry_fault p (Some name) b same is = one_fault p name (decision p name) b same is

pub all_faults : (p : Project) (old new : List code.Fault)
    → faults_in p old ≡ map duplicate_fault (duplicates p)
    → new ≡ old ++ faults_if (is_some (undefined_entry p)) → faults_in p new ≡ name_faults p
unfolding undefined_entry name_faults
all_faults p old new first is =
    ap (faults_in p) is
    ∙ (map-append (fault_of p (λ key. key)) old (faults_if (is_some (undefined_entry p)))
    ∙ (ap (λ (fs : List Fault). fs ++ faults_in p (faults_if (is_some (undefined_entry p)))) first
    ∙ ap (λ (fs : List Fault). map duplicate_fault (duplicates p) ++ fs)
    (entry_fault p (entry_symbol p) (is_some (undefined_entry p)) refl refl)))

-- projects of the same script and options have the same entry symbol
same_entry : (p q : Project) → p.script ≡ q.script → p.options ≡ q.options → entry_symbol p ≡ entry_symbol q
unfolding entry_symbol
same_entry p q script options =
    ap (λ (o : LinkOptions). option_or o.entry (entry_of p.script)) options
    ∙ ap (λ (s : List Statement). option_or q.options.entry (entry_of s)) script

-- where no name is defined twice, the fault of the entry symbol is the only one
pub entry_alone : (p view : Project) (name : List ℕ) (c : Case ObjectPlace) → p.script ≡ view.script
    → p.options ≡ view.options
    → Some name ≡ entry_symbol view → decision_of (λ key. key) c ≡ decision p name → is_undefined c ≡ true
    → duplicates p ≡ [] → faults_in p (variant.UndefinedEntry ∷ []) ≡ name_faults p
entry_alone p view name c script options entry is undefined none =
    all_faults p [] (variant.UndefinedEntry ∷ []) (ap (map duplicate_fault) (sym none))
    (ap faults_if (entry_of_case p name c true (entry ∙ sym (same_entry p view script options)) is undefined))
