-- The PROVIDEs in force, command by command.
use Rattle.symres.proofs.Common.{Bool, List, Project, Some, Statement, [], ap, append_assoc, arith, cond, decision}
use Rattle.symres.proofs.Common.{false, filter, filter-append, get_or, get_or-map, length, length-map, map, map-append}
use Rattle.symres.proofs.Common.{option_map_or, refl, shown_directives, slice_get, slice_get-get_or, suc, sym, take}
use Rattle.symres.proofs.Common.{take-suc, take_all, true, ℕ, ◌++◌, ◌+◌, ◌<◌, ◌∙◌, ◌∷◌, ◌≡◌, ◌≤◌}
use Rattle.ldscript.specs.statements.Numbering.{AssignmentAt, DirectiveAt, all_directives, provided_by, provided_in}
use Rattle.ldscript.specs.statements.declared.directive.Directive.{Directive}
use Rattle.ldscript.specs.statements.declared.directive.Directive.TheVariants as directive
use Rattle.ldscript.specs.statements.declared.numbering.DirectiveAt as code
use Rattle.ldmodel.specs.PlacementView.{given_name, name_given_by}
use Rattle.ldmodel.specs.Names.{is_provided_case, provided}
use Rattle.ldmodel.specs.ScriptNames.{provided_names}
use Rattle.ldmodel.specs.declared.script_symbol.DirectiveIndex.{DirectiveIndex}
use Rattle.symres.specs.Provided.{AddsIfInForce, in_force, names_in_force}

-- the names of the commands of these numbers
abbrev pub given : Project → List DirectiveIndex → List (List ℕ)
given p list = map (λ (k : DirectiveIndex). name_given_by p.script k.0) list

provided_in-append : (xs ys : List DirectiveAt) → provided_in (xs ++ ys) ≡ provided_in xs ++ provided_in ys
provided_in-append [] ys = refl
provided_in-append (x ∷ xs) ys =
    ap (λ (zs : List AssignmentAt). provided_by x.line x.command ++ zs) (provided_in-append xs ys)
    ∙ sym (append_assoc (provided_by x.line x.command) (provided_in xs) (provided_in ys))

in_force-append : (p : Project) (xs ys : List DirectiveAt) → names_in_force p (xs ++ ys) ≡ names_in_force p xs
    ++ names_in_force p ys
in_force-append p xs ys =
    let name : AssignmentAt → List ℕ = λ (a : AssignmentAt). a.assignment.name in
    let test : List ℕ → Bool = λ (n : List ℕ). is_provided_case (decision p n) in
    ap (λ (zs : List AssignmentAt).
    filter (λ n. is_provided_case (decision p n)) (map (λ (a : AssignmentAt). a.assignment.name) zs))
    (provided_in-append xs ys)
    ∙ (ap (filter (λ n. is_provided_case (decision p n)))
    (map-append (λ (a : AssignmentAt). a.assignment.name) (provided_in xs) (provided_in ys))
    ∙ filter-append (λ n. is_provided_case (decision p n))
    (map (λ (a : AssignmentAt). a.assignment.name) (provided_in xs))
    (map (λ (a : AssignmentAt). a.assignment.name) (provided_in ys)))

one_command : (p : Project) (line : ℕ) (c : Directive)
    → names_in_force p ((record { line = line; command = c }) ∷ []) ≡ cond (in_force p c) (given_name c ∷ []) []
one_command p line (directive.Assign a) = refl
one_command p line (directive.Provide a) = refl
one_command p line (directive.Assert a) = refl

map_cond : (p : Project) (b : Bool) (n : ℕ) (name : List ℕ) → name_given_by p.script n ≡ name
    → given p (cond b ((record { 0 = n }) ∷ []) []) ≡ cond b (name ∷ []) []
map_cond p true n name h = ap (λ (x : List ℕ). x ∷ []) h
map_cond p false n name h = refl

pub more_given : (p : Project) (commands : List DirectiveAt) (n : ℕ) (x : DirectiveAt) (old new : List DirectiveIndex)
    → all_directives p.script ≡ commands → n < length commands → get_or commands n x ≡ x
    → AddsIfInForce p n x.command old new → given p old ≡ names_in_force p (take n commands)
    → given p new ≡ names_in_force p (take (n + 1) commands)
more_given p commands n x old new are within here adds h =
    let at : slice_get (all_directives p.script) n ≡ Some x =
    ap (λ (cs : List DirectiveAt). slice_get cs n) are
    ∙ (slice_get-get_or commands n x within ∙ ap (λ (y : DirectiveAt). Some y) here) in
    let name : name_given_by p.script n ≡ given_name x.command =
    ap (λ o. option_map_or (λ (c : DirectiveAt). given_name c.command) o []) at in
    let suc_is : suc n ≡ n + 1 = omega arith in
    let more : take (n + 1) commands ≡ take n commands ++ x ∷ [] =
    ap (λ (k : ℕ). take k commands) (sym suc_is)
    ∙ (take-suc commands n x within ∙ ap (λ (y : DirectiveAt). take n commands ++ y ∷ []) here) in
    let number : DirectiveIndex = record { 0 = n } in
    let added : List DirectiveIndex = cond (in_force p x.command) (number ∷ []) [] in
    ap (given p) adds
    ∙ (map-append (λ (k : DirectiveIndex). name_given_by p.script k.0) old added
    ∙ (ap (λ (xs : List (List ℕ)). xs ++ given p added) h
    ∙ (ap (λ (xs : List (List ℕ)). names_in_force p (take n commands) ++ xs)
    (map_cond p (in_force p x.command) n (given_name x.command) name ∙ sym (one_command p x.line x.command))
    ∙ (sym (in_force-append p (take n commands) (x ∷ [])) ∙ ap (names_in_force p) (sym more)))))

provided_is : (p : Project) → names_in_force p (all_directives p.script) ≡ provided p
unfolding provided provided_names
provided_is p = refl

pub all_given : (p : Project) (commands : List DirectiveAt) (n : ℕ) (list : List DirectiveIndex)
    → all_directives p.script ≡ commands → length commands ≤ n → given p list ≡ names_in_force p (take n commands)
    → given p list ≡ provided p
all_given p commands n list are past h =
    h ∙ (ap (names_in_force p) (take_all n commands past ∙ sym are) ∙ provided_is p)

abbrev pub shown : code.DirectiveAt → DirectiveAt
shown at = record { line = at.line; command = at.command.now }

-- one command more of a script
pub one_given : (p : Project) (script : List Statement) (items : List code.DirectiveAt) (n : ℕ) (at : code.DirectiveAt)
    (old new : List DirectiveIndex) → p.script ≡ script → shown_directives items ≡ all_directives script
    → n < length items
    → get_or items n at ≡ at → AddsIfInForce p n at.command.now old new
    → given p old ≡ names_in_force p (take n (all_directives script))
    → given p new ≡ names_in_force p (take (n + 1) (all_directives script))
one_given p script items n at old new same are within here adds h =
    let long : length (all_directives script) ≡ length items = ap length (sym are) ∙ length-map items shown in
    let there : get_or (all_directives script) n (shown at) ≡ shown at =
    ap (λ (cs : List DirectiveAt). get_or cs n (shown at)) (sym are)
    ∙ (get_or-map shown items n at (shown at) within ∙ ap shown here) in
    more_given p (all_directives script) n (shown at) old new (ap all_directives same) (omega (arith, long, within))
    there
    adds h

pub end_given : (p : Project) (script : List Statement) (items : List code.DirectiveAt) (n : ℕ) (list : List
    DirectiveIndex)
    → p.script ≡ script → shown_directives items ≡ all_directives script → length items ≤ n
    → given p list ≡ names_in_force p (take n (all_directives script)) → given p list ≡ provided p
end_given p script items n list same are past h =
    let long : length (all_directives script) ≡ length items = ap length (sym are) ∙ length-map items shown in
    all_given p (all_directives script) n list (ap all_directives same) (omega (arith, long, past)) h
