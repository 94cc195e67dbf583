-- The faults of relocation.
use Rattle.emit.proofs.Common.{KnownLink, Layout, List, None, Option, Project, Some, ap, entry_fault, entry_point}
use Rattle.emit.proofs.Common.{fault_of, faults_in, filter_map, nothing_placed, option_map, option_to_list}
use Rattle.emit.proofs.Common.{relocation_faults, result_err, site_field, sites, ◌++◌, ◌∙◌, ◌≡◌}
use Rattle.ldmodel.specs.Fault.{Fault}
use Rattle.ldmodel.specs.SymbolValues.{SymbolValue}
use Rattle.ldmodel.specs.declared.fault.Fault as code

-- some fault of the entry symbol, or none, in front of others
pub faults_in_front : (p : Project) (v : SymbolValue) (f : Option code.Fault) (fs : List code.Fault)
    → ((l : KnownLink) → option_to_list (option_map (fault_of l.project l.number) f) ≡ entry_fault v)
    → faults_in p (option_to_list f ++ fs) ≡ entry_fault v ++ faults_in p fs
faults_in_front p v None fs h =
    ap (λ (xs : List Fault). xs ++ faults_in p fs)
    (h (record { project = p; layout = nothing_placed; number = λ key. key; name = λ k. None }))
faults_in_front p v (Some f) fs h =
    ap (λ (xs : List Fault). xs ++ faults_in p fs)
    (h (record { project = p; layout = nothing_placed; number = λ key. key; name = λ k. None }))

pub all_faults : (p : Project) (s : Layout) (v : SymbolValue) (all fs : List Fault) → v ≡ entry_point p s
    → all ≡ entry_fault v ++ fs → fs ≡ filter_map (λ t. result_err (site_field p s t)) (sites p s)
    → all ≡ relocation_faults p s
unfolding relocation_faults
all_faults p s v all fs e f g =
    f ∙ ap (λ x. entry_fault x ++ fs) e ∙ ap (λ xs. entry_fault (entry_point p s) ++ xs) g
