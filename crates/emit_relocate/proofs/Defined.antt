-- The names that stand for something are declared, and symbols of them in byte order are those of the output.
use Rattle.emit_relocate.proofs.Common.{AddsSymbols, AssignmentAt, Bool, Declaration, Directive, DirectiveAt, Layout}
use Rattle.emit_relocate.proofs.Common.{List, Option, OutputSymbol, Project, Some, Statement, [], all_directives, ap}
use Rattle.emit_relocate.proofs.Common.{append-nil, append_assoc, assigned_by, assigned_in, bytes_eq, bytes_eq-Decides}
use Rattle.emit_relocate.proofs.Common.{cond, decided, decision, declarations, declared_names, defined, defined_symbols}
use Rattle.emit_relocate.proofs.Common.{entries, false, filter, filter-append, in_byte_order, inl, inr, is_defined}
use Rattle.emit_relocate.proofs.Common.{is_of_name, map, map-append, names_in_objects, output_symbol, output_symbols}
use Rattle.emit_relocate.proofs.Common.{refl, shown, suc, sym, true, ℕ, ◌++◌, ◌∙◌, ◌∷◌, ◌≡◌, ◌⊎◌}
use Rattle.std.specs.Prelude.{None}
use Rattle.emit_text.proofs.ByteOrder.{Asc, In, Name, distinct_once, filtered_asc, filtered_in, in_filtered, in_sorted}
use Rattle.emit_text.proofs.ByteOrder.{same_list, sorted_asc, sorted_in}
use Rattle.ldscript.specs.statements.Given.{assigned_from, assigned_here, given_as, provided_from}
use Rattle.ldscript.specs.statements.declared.directive.Directive.TheVariants as directive
use Rattle.ldmodel.specs.OutputSymbols as model
use Rattle.ldmodel.specs.ScriptNames.{assigned_names, is_assigned, is_assignment, is_provided, provided_names}
use Rattle.emit_relocate.proofs.Listing.{declared_in}

-- ---- what stands for something is declared

in_entries : (z : Name) (ds : List Declaration) (e : Declaration) (es : List Declaration)
    → filter (is_of_name z) ds ≡ e ∷ es → In z (map (λ (d : Declaration). d.name) ds)
in_entries z [] e es h = absurd (cc)
in_entries z (d ∷ ds) e es h = go (bytes_eq z d.name) refl h (in_entries z ds e es)
  where
    go : (b : Bool) → bytes_eq z d.name ≡ b → cond b (d ∷ filter (is_of_name z) ds) (filter (is_of_name z) ds) ≡ e ∷ es
        → (filter (is_of_name z) ds ≡ e ∷ es → In z (map (λ (x : Declaration). x.name) ds))
        → (z ≡ d.name) ⊎ In z (map (λ (x : Declaration). x.name) ds)
    go true same k rest = inl ((bytes_eq-Decides z d.name).0 same)
    go false same k rest = inr (rest k)

assigned_there : (n : ℕ) (cs : List DirectiveAt) (z : Name) (k : ℕ) → assigned_from n cs z ≡ Some k
    → In z (map (λ (a : AssignmentAt). a.assignment.name) (assigned_in cs))
assigned_there n [] z k e = absurd (cc)
assigned_there n (c ∷ cs) z k e = go c.line c.command e (assigned_there (suc n) cs z k)
  where
    go : (line : ℕ) (d : Directive) → assigned_here n d z (assigned_from (suc n) cs z) ≡ Some k
        → (assigned_from (suc n) cs z ≡ Some k → In z (map (λ (a : AssignmentAt). a.assignment.name) (assigned_in cs)))
        → In z (map (λ (a : AssignmentAt). a.assignment.name) (assigned_by line d ++ assigned_in cs))
    go line (directive.Assign a) h rest = split (bytes_eq z a.name) refl h
      where
        split : (b : Bool) → bytes_eq z a.name ≡ b → cond b (Some n) (assigned_from (suc n) cs z) ≡ Some k
            → (z ≡ a.name) ⊎ In z (map (λ (x : AssignmentAt). x.assignment.name) (assigned_in cs))
        split true same i = inl ((bytes_eq-Decides z a.name).0 same)
        split false same i = inr (rest i)
    go line (directive.Provide a) h rest = rest h
    go line (directive.Assert a) h rest = rest h

in_assigned_names : (script : List Statement) (z : Name) → is_assigned script z ≡ true → In z (assigned_names script)
unfolding assigned_names
in_assigned_names script z h =
    go (assigned_from 0 (all_directives script) z) refl (provided_from 0 (all_directives script) z) h
  where
    go : (a : Option ℕ) → assigned_from 0 (all_directives script) z ≡ a → (q : Option ℕ)
        → is_assignment (given_as a q) ≡ true
        → In z (map (λ (x : AssignmentAt). x.assignment.name) (assigned_in (all_directives script)))
    go (Some k) e q i = assigned_there 0 (all_directives script) z k e
    go None e (Some k) i = absurd (cc)
    go None e None i = absurd (cc)

nothing : (b : Bool) → is_defined (decided false b []) ≡ true → ⊥
unfolding decided
nothing true h = absurd (cc)
nothing false h = absurd (cc)

pub defined_declared : (p : Project) (z : Name) → is_defined (decision p z) ≡ true → In z (declared_names p)
unfolding decision
defined_declared p z h = go (is_assigned p.script z) refl (entries p.objects z) refl h
  where
    go : (b : Bool) → is_assigned p.script z ≡ b → (es : List Declaration) → entries p.objects z ≡ es
        → is_defined (decided b (is_provided p.script z) es) ≡ true → In z (declared_names p)
    go true e es same d = declared_in p z (inr (inl (in_assigned_names p.script z e)))
    go false e [] same d = absurd (nothing (is_provided p.script z) d)
    go false e (x ∷ es) same d = declared_in p z (inl (in_entries z (declarations p.objects) x es same))

-- ---- symbols by their names

defined_by_name : (p : Project) (s : Layout) (ns : List Name)
    → defined_symbols p s ns ≡ map (output_symbol p s) (filter (λ (n : Name). is_defined (decision p n)) ns)
defined_by_name p s [] = refl
defined_by_name p s (n ∷ ns) = go (is_defined (decision p n)) (defined_by_name p s ns)
  where
    go : (b : Bool)
        → defined_symbols p s ns ≡ map (output_symbol p s) (filter (λ (m : Name). is_defined (decision p m)) ns)
        → cond b (output_symbol p s n ∷ defined_symbols p s ns) (defined_symbols p s ns)
        ≡ map (output_symbol p s)
        (cond b (n ∷ filter (λ (m : Name). is_defined (decision p m)) ns)
        (filter (λ (m : Name). is_defined (decision p m)) ns))
    go true h = ap (λ xs. output_symbol p s n ∷ xs) h
    go false h = h

declared_up : (p : Project) → Asc (in_byte_order (declared_names p))
unfolding declared_names
declared_up p =
    sorted_asc (declared_names p)
    (distinct_once (names_in_objects p.objects ++ assigned_names p.script ++ provided_names p.script))

-- the same names in byte order, the same symbols
same_symbols : (p : Project) (s : Layout) (ns : List Name) → Asc ns
    → ((z : Name) → In z (declared_names p) → In z ns) → defined_symbols p s ns ≡ output_symbols p s
unfolding output_symbols
same_symbols p s ns up all =
    let test : Name → Bool = λ (n : Name). is_defined (decision p n) in
    let sorted : List Name = in_byte_order (declared_names p) in
    let same : filter (λ (n : Name). is_defined (decision p n)) ns
    ≡ filter (λ (n : Name). is_defined (decision p n)) sorted =
    same_list (filter test ns) (filter test sorted) (filtered_asc test ns up)
    (filtered_asc test sorted (declared_up p))
    (λ z i.
    let f = in_filtered test z ns i in
    filtered_in test z sorted (sorted_in z (declared_names p) (defined_declared p z f.1)) f.1)
    (λ z i.
    let f = in_filtered test z sorted i in
    filtered_in test z ns (all z (in_sorted z (declared_names p) f.0)) f.1) in
    defined_by_name p s ns ∙ (ap (map (output_symbol p s)) same ∙ sym (defined_by_name p s sorted))

-- ---- names one after another

defined_append : (p : Project) (s : Layout) (ms ns : List Name)
    → defined_symbols p s (ms ++ ns) ≡ defined_symbols p s ms ++ defined_symbols p s ns
defined_append p s ms ns =
    ap defined (map-append (output_symbol p s) ms ns)
    ∙ filter-append (λ (x : model.OutputSymbol). is_defined x.decision) (map (output_symbol p s) ms)
    (map (output_symbol p s) ns)

pub symbols_join : (p : Project) (s : Layout) (ms ns : List Name) (xs ys zs : List OutputSymbol)
    → AddsSymbols p s ms xs ys → AddsSymbols p s ns ys zs → AddsSymbols p s (ms ++ ns) xs zs
symbols_join p s ms ns xs ys zs h k =
    k
    ∙ (ap (λ (l : List model.OutputSymbol). l ++ defined_symbols p s ns) h
    ∙ (append_assoc (shown p xs) (defined_symbols p s ms) (defined_symbols p s ns)
    ∙ ap (λ (l : List model.OutputSymbol). shown p xs ++ l) (sym (defined_append p s ms ns))))

pub symbols_none : (p : Project) (s : Layout) (xs : List OutputSymbol) → AddsSymbols p s [] xs xs
symbols_none p s xs = sym (append-nil (shown p xs))

-- the symbols of all names
pub symbols_are : (p : Project) (s : Layout) (names : List Name) (old new : List OutputSymbol) → Asc names
    → ((z : Name) → In z (declared_names p) → In z names) → old ≡ [] → AddsSymbols p s names old new
    → shown p new ≡ output_symbols p s
symbols_are p s names old new up all none added =
    added
    ∙ (ap (λ (xs : List OutputSymbol). shown p xs ++ defined_symbols p s names) none
    ∙ same_symbols p s names up all)
