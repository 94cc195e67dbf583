-- The names that are declared: those of objects, and those that the script gives values to.
use Rattle.emit_relocate.proofs.Common.{AssignmentAt, Bor, Contains, Contains-permutation, Directive, DirectiveAt}
use Rattle.emit_relocate.proofs.Common.{IsPermutation, IsPermutation-map, IsSortedBy, List, NamedKey, Project}
use Rattle.emit_relocate.proofs.Common.{Statement, [], all_directives, all_given, ap, append-nil, append_assoc, arith}
use Rattle.emit_relocate.proofs.Common.{assigned_by, assigned_in, declared_names, distinct_first, flat_map-append}
use Rattle.emit_relocate.proofs.Common.{get_or, get_or_default, inl, inr, is_before, keyed_names, length, length-map}
use Rattle.emit_relocate.proofs.Common.{map, map-append, names_in_objects, provided_by, provided_in, shown_directives}
use Rattle.emit_relocate.proofs.Common.{subst, sym, take, texts, ℕ, ⊎_elim, ◌++◌, ◌+◌, ◌<◌, ◌∙◌, ◌∷◌, ◌≡◌, ◌⊎◌}
use Rattle.emit_text.proofs.ByteOrder.{Asc, In, append_in, contained_in, distinct_in, in_append, in_contained}
use Rattle.emit_text.proofs.ByteOrder.{in_distinct}
use Rattle.ldscript.specs.statements.declared.numbering.DirectiveAt as code
use Rattle.ldscript.specs.statements.declared.directive.Directive.TheVariants as directive
use Rattle.ldmodel.specs.ScriptNames.{assigned_names, provided_names}
use Rattle.symres.specs.SymbolTable.{IsSymbolTable, SymbolTableState}
use Rattle.symres.specs.Sorted.{AreSorted}
use Rattle.emit_relocate.specs.ScriptNames.{AreScriptNames, names_given}
use Rattle.emit_relocate.proofs.Distinct.{first_asc, first_in, text_before, texts_up}
use Rattle.emit_relocate.proofs.Giving.{no_key, take_more}
use Rattle.emit_relocate.proofs.NamesAscending.{asc_pairs}

-- one more name with a key
pub names_more : (xs : List NamedKey) (i : ℕ) → i < length xs
    → keyed_names (take (i + 1) xs) ≡ keyed_names (take i xs) ++ (get_or xs i no_key).name.now ∷ []
names_more xs i within =
    let x : NamedKey = get_or xs i no_key in
    ap keyed_names (take_more xs i x within (sym (get_or_default xs i no_key x within)))
    ∙ map-append (λ (y : NamedKey). y.name.now) (take i xs) (x ∷ [])

-- one more command
pub more_given : (first : List (List ℕ)) (commands : List code.DirectiveAt) (i : ℕ) (x : code.DirectiveAt)
    (old new : List (List ℕ)) → i < length commands → x ≡ get_or commands i x → new ≡ old ++ names_given x.command.now
    → old ≡ first ++ all_given (shown_directives (take i commands))
    → new ≡ first ++ all_given (shown_directives (take (i + 1) commands))
more_given first commands i x old new within is added h =
    let shown : code.DirectiveAt → DirectiveAt =
    λ (c : code.DirectiveAt). record { line = c.line; command = c.command.now } in
    let these : List (List ℕ) = all_given (shown_directives (take i commands)) in
    let more : all_given (shown_directives (take (i + 1) commands)) ≡ these ++ names_given x.command.now =
    ap (λ (cs : List code.DirectiveAt). all_given (shown_directives cs)) (take_more commands i x within (sym is))
    ∙ (ap all_given (map-append shown (take i commands) (x ∷ []))
    ∙ (flat_map-append (λ (c : DirectiveAt). names_given c.command) (shown_directives (take i commands)) (shown x ∷ [])
    ∙ ap (λ (ns : List (List ℕ)). these ++ ns) (append-nil (names_given x.command.now)))) in
    added
    ∙ (ap (λ (ns : List (List ℕ)). ns ++ names_given x.command.now) h
    ∙ (append_assoc first these (names_given x.command.now) ∙ ap (λ (ns : List (List ℕ)). first ++ ns) (sym more)))

in_assigned : (z : List ℕ) (cs : List DirectiveAt) → In z (map (λ (a : AssignmentAt). a.assignment.name) (assigned_in
    cs))
    → In z (all_given cs)
in_assigned z [] i = i
in_assigned z (c ∷ cs) i =
    let f : AssignmentAt → List ℕ = λ (a : AssignmentAt). a.assignment.name in
    append_in z (names_given c.command) (all_given cs)
    (⊎_elim (λ j. inl (here c.line c.command j)) (λ j. inr (in_assigned z cs j))
    (in_append z (map f (assigned_by c.line c.command)) (map f (assigned_in cs))
    (subst (In z) (map-append f (assigned_by c.line c.command) (assigned_in cs)) i)))
  where
    here : (line : ℕ) (k : Directive) → In z (map (λ (a : AssignmentAt). a.assignment.name) (assigned_by line k))
        → In z (names_given k)
    here line (directive.Assign a) j = j
    here line (directive.Provide a) j = absurd j
    here line (directive.Assert a) j = absurd j

in_provided : (z : List ℕ) (cs : List DirectiveAt) → In z (map (λ (a : AssignmentAt). a.assignment.name) (provided_in
    cs))
    → In z (all_given cs)
in_provided z [] i = i
in_provided z (c ∷ cs) i =
    let f : AssignmentAt → List ℕ = λ (a : AssignmentAt). a.assignment.name in
    append_in z (names_given c.command) (all_given cs)
    (⊎_elim (λ j. inl (here c.line c.command j)) (λ j. inr (in_provided z cs j))
    (in_append z (map f (provided_by c.line c.command)) (map f (provided_in cs))
    (subst (In z) (map-append f (provided_by c.line c.command) (provided_in cs)) i)))
  where
    here : (line : ℕ) (k : Directive) → In z (map (λ (a : AssignmentAt). a.assignment.name) (provided_by line k))
        → In z (names_given k)
    here line (directive.Assign a) j = absurd j
    here line (directive.Provide a) j = j
    here line (directive.Assert a) j = absurd j

-- a declared name is one that objects declare or that the script assigns or provides
pub in_declared : (p : Project) (z : List ℕ) → In z (declared_names p)
    → In z (names_in_objects p.objects) ⊎ (In z (assigned_names p.script) ⊎ In z (provided_names p.script))
unfolding declared_names
in_declared p z i =
    let first : List (List ℕ) = names_in_objects p.objects ++ assigned_names p.script in
    ⊎_elim
    (λ j. ⊎_elim (λ k. inl k) (λ k. inr (inl k))
    (in_append z (names_in_objects p.objects) (assigned_names p.script) j))
    (λ j. inr (inr j))
    (in_append z first (provided_names p.script) (in_distinct z (first ++ provided_names p.script) i))

pub declared_in : (p : Project) (z : List ℕ)
    → In z (names_in_objects p.objects) ⊎ (In z (assigned_names p.script) ⊎ In z (provided_names p.script))
    → In z (declared_names p)
unfolding declared_names
declared_in p z i =
    let first : List (List ℕ) = names_in_objects p.objects ++ assigned_names p.script in
    distinct_in z (first ++ provided_names p.script)
    (append_in z first (provided_names p.script)
    (⊎_elim (λ j. inl (append_in z (names_in_objects p.objects) (assigned_names p.script) (inl j)))
    (λ j. ⊎_elim (λ k. inl (append_in z (names_in_objects p.objects) (assigned_names p.script) (inr k)))
    (λ k. inr k) j) i))

assigned_given : (script : List Statement) (z : List ℕ) → In z (assigned_names script)
    → In z (all_given (all_directives script))
unfolding assigned_names
assigned_given script z i = in_assigned z (all_directives script) i

provided_given : (script : List Statement) (z : List ℕ) → In z (provided_names script)
    → In z (all_given (all_directives script))
unfolding provided_names
provided_given script z i = in_provided z (all_directives script) i

-- the names that the commands give values to, sorted, each once
pub names_are : (script : List Statement) (cs : List DirectiveAt) (given by_name list : List (Bor (List ℕ)))
    → cs ≡ all_directives script → texts given ≡ all_given cs → IsPermutation given by_name
    → IsSortedBy text_before by_name → texts list ≡ distinct_first (texts by_name) (length by_name)
    → AreScriptNames script (texts list)
names_are script cs given by_name list commands names moved order first =
    let sorted : List (List ℕ) = texts by_name in
    let up : IsSortedBy is_before sorted = texts_up by_name order in
    let long : length sorted ≡ length by_name = length-map by_name (λ (x : Bor (List ℕ)). x.now) in
    let all : List (List ℕ) = distinct_first sorted (length by_name) in
    record {
      order = asc_pairs (texts list)
          (subst Asc (sym first) (first_asc sorted up (length by_name) (omega (arith, long))));
      complete = λ z c.
          let there : Contains sorted z =
          Contains-permutation (texts given) sorted z
          (IsPermutation-map (λ (x : Bor (List ℕ)). x.now) given by_name moved)
          (subst (λ (ns : List (List ℕ)). Contains ns z) (sym (names ∙ ap all_given commands)) c) in
          subst (λ (ns : List (List ℕ)). Contains ns z) (sym first)
          (contained_in z all
          (subst (λ (w : List ℕ). In w all) (get_or_default sorted there.0 [] z there.1 ∙ there.2)
          (first_in sorted up (length by_name) there.0 (omega (arith, there.1, long)))));
    }

-- a declared name has a key, or the script gives it a value
pub declared_of : (p : Project) (a : SymbolTableState) (xs : List NamedKey) (script : List Statement)
    (given : List (List ℕ)) → AreSorted a xs → AreScriptNames script given → IsSymbolTable p a → p.script ≡ script
    → (z : List ℕ) → In z (declared_names p) → In z (keyed_names xs) ⊎ In z given
declared_of p a xs script given sorted names symbol_table same z i =
    ⊎_elim
    (λ j.
    inl (in_contained z (keyed_names xs)
    (sorted.declared p symbol_table z (contained_in z (names_in_objects p.objects) j))))
    (λ j.
    inr (in_contained z given
    (names.complete z (contained_in z (all_given (all_directives script))
    (subst (λ (t : List Statement). In z (all_given (all_directives t))) same
    (⊎_elim (λ k. assigned_given p.script z k) (λ k. provided_given p.script z k) j))))))
    (in_declared p z i)
