-- A name that stands for something is declared.
use Rattle.emit_relocate.proofs.Common.{AssignmentAt, Bool, Decision, Declaration, Directive, DirectiveAt, Duplicate}
use Rattle.emit_relocate.proofs.Common.{Layout, List, Option, Project, Provided, Script, Some, Statement, Strong}
use Rattle.emit_relocate.proofs.Common.{Undefined, Weak, [], all_directives, ap, assigned_by, assigned_in, bytes_eq}
use Rattle.emit_relocate.proofs.Common.{bytes_eq-Decides, cond, decided, decided_value, decision, declarations}
use Rattle.emit_relocate.proofs.Common.{declared_names, entries, false, filter, inl, inr, is_defined, is_of_name, map}
use Rattle.emit_relocate.proofs.Common.{name_value, names_in_objects, refl, suc, true, true≢false, ℕ, ◌++◌, ◌∙◌, ◌∷◌}
use Rattle.emit_relocate.proofs.Common.{◌≡◌, ◌⊎◌}
use Rattle.std.specs.Prelude.{None}
use Rattle.ldscript.specs.statements.Given.{assigned_from, assigned_here, given_as, provided_from}
use Rattle.ldscript.specs.statements.declared.directive.Directive.TheVariants as directives
use Rattle.ldmodel.specs.Names.{Common as CommonCase}
use Rattle.ldmodel.specs.ScriptNames.{assigned_names, is_assigned, is_assignment, is_provided, provided_names}
use Rattle.ldmodel.specs.SymbolValues.{NotDefined}
use Rattle.emit_text.proofs.ByteOrder.{In, Name, append_in, distinct_in}

pub same_name : (x y : Name) → bytes_eq x y ≡ true → x ≡ y
same_name x y = (bytes_eq-Decides x y).0

decided_none : (v : Bool) → decided false v [] ≡ Undefined
unfolding decided
decided_none true = refl
decided_none false = refl

no_entries : (ds : List Declaration) (name : Name) → (In name (map (λ (d : Declaration). d.name) ds) → ⊥)
    → filter (is_of_name name) ds ≡ []
no_entries [] name n = refl
no_entries (d ∷ ds) name n = go (bytes_eq name d.name) refl (no_entries ds name (λ i. n (inr i)))
  where
    go : (b : Bool) → bytes_eq name d.name ≡ b → filter (is_of_name name) ds ≡ []
        → cond b (d ∷ filter (is_of_name name) ds) (filter (is_of_name name) ds) ≡ []
    go true e h = absurd (n (inl (same_name name d.name e)))
    go false e h = h

abbrev name_of : AssignmentAt → Name
name_of a = a.assignment.name

assigned_at : (n line : ℕ) (c : Directive) (name : Name) (later : Option ℕ) (rest : List AssignmentAt) (k : ℕ)
    → assigned_here n c name later ≡ Some k → (later ≡ Some k → In name (map name_of rest))
    → In name (map name_of (assigned_by line c ++ rest))
assigned_at n line (directives.Assign a) name later rest k h more = go (bytes_eq name a.name) refl h
  where
    go : (b : Bool) → bytes_eq name a.name ≡ b → cond b (Some n) later ≡ Some k
        → (name ≡ a.name) ⊎ In name (map name_of rest)
    go true e h = inl (same_name name a.name e)
    go false e h = inr (more h)
assigned_at n line (directives.Provide a) name later rest k h more = more h
assigned_at n line (directives.Assert a) name later rest k h more = more h

assigned_found : (cs : List DirectiveAt) (n : ℕ) (name : Name) (k : ℕ) → assigned_from n cs name ≡ Some k
    → In name (map name_of (assigned_in cs))
assigned_found [] n name k h = absurd (cc)
assigned_found (c ∷ cs) n name k h =
    assigned_at n c.line c.command name (assigned_from (suc n) cs name) (assigned_in cs) k h
    (assigned_found cs (suc n) name k)

not_assigned : (script : List Statement) (name : Name) → (In name (assigned_names script) → ⊥)
    → is_assigned script name ≡ false
unfolding assigned_names
not_assigned script name n =
    go (assigned_from 0 (all_directives script) name) (provided_from 0 (all_directives script) name) refl
  where
    go : (a b : Option ℕ) → assigned_from 0 (all_directives script) name ≡ a
        → is_assignment (given_as a b) ≡ false
    go (Some k) b e = absurd (n (assigned_found (all_directives script) 0 name k e))
    go None (Some k) e = refl
    go None None e = refl

not_declared : (p : Project) (name : Name) → (In name (declared_names p) → ⊥) → decision p name ≡ Undefined
unfolding decision declared_names
not_declared p name n =
    let all : List Name = names_in_objects p.objects ++ assigned_names p.script ++ provided_names p.script in
    let none : (In name all → ⊥) = λ i. n (distinct_in name all i) in
    let objects : entries p.objects name ≡ [] =
    no_entries (declarations p.objects) name
    (λ i. none (append_in name (names_in_objects p.objects ++ assigned_names p.script) (provided_names p.script)
    (inl (append_in name (names_in_objects p.objects) (assigned_names p.script) (inl i))))) in
    let script : is_assigned p.script name ≡ false =
    not_assigned p.script name
    (λ i. none (append_in name (names_in_objects p.objects ++ assigned_names p.script) (provided_names p.script)
    (inl (append_in name (names_in_objects p.objects) (assigned_names p.script) (inr i))))) in
    ap (λ (ds : List Declaration). decided (is_assigned p.script name) (is_provided p.script name) ds) objects
    ∙ (ap (λ (b : Bool). decided b (is_provided p.script name) []) script ∙ decided_none (is_provided p.script name))

undefined_value : (p : Project) (s : Layout) (name : Name) (d : Decision) → is_defined d ≡ false
    → decided_value p s name d ≡ NotDefined
undefined_value p s name (Strong e) h = absurd (true≢false h)
undefined_value p s name Script h = absurd (true≢false h)
undefined_value p s name (CommonCase e size align) h = absurd (true≢false h)
undefined_value p s name (Weak e) h = absurd (true≢false h)
undefined_value p s name Provided h = absurd (true≢false h)
undefined_value p s name Undefined h = refl
undefined_value p s name Duplicate h = refl

-- a name that is not among the declared ones that stand for something has no value
pub no_value : (p : Project) (s : Layout) (name : Name)
    → (In name (declared_names p) → is_defined (decision p name) ≡ true → ⊥)
    → name_value p s name ≡ NotDefined
unfolding name_value
no_value p s name n = go (is_defined (decision p name)) refl
  where
    go : (b : Bool) → is_defined (decision p name) ≡ b
        → decided_value p s name (decision p name) ≡ NotDefined
    go true e =
        undefined_value p s name (decision p name)
        (ap is_defined (not_declared p name (λ i. n i e)))
    go false e = undefined_value p s name (decision p name) e
