-- Names that are defined twice, a symbol more.
use Rattle.symres.proofs.Common.{AreDistinct, AreFound, Begins, Bool, Case, Decision, Declaration, Duplicate, HasCase}
use Rattle.symres.proofs.Common.{InputObject, IsNameAt, IsNamed, IsSeenAt, IsSymbolTable, List, NamedObject}
use Rattle.symres.proofs.Common.{NamedSymbol, None, ObjectPlace, Option, Project, Some, SymbolTableState, []}
use Rattle.symres.proofs.Common.{all_entries, ap, append-nil, append_assoc, arith, bytes_eq, bytes_eq-Decides, case_at}
use Rattle.symres.proofs.Common.{cond, decided, decision, decision_of, declarations, declarations_in, declarations_of}
use Rattle.symres.proofs.Common.{definer_before, drop, duplicate_fault, enumerate_from, false, faults_in, faults_of}
use Rattle.symres.proofs.Common.{filter, filter-append, flat_map, get_or, get_or-enumerate_from, get_or-map}
use Rattle.symres.proofs.Common.{get_or-set_other, get_or-set_same, get_or_from_slice_get, is_assigned, is_doubled}
use Rattle.symres.proofs.Common.{is_local, is_provided, is_seen, length, length-append, length-enumerate_from}
use Rattle.symres.proofs.Common.{length-map, length-replicate, map, map-append, nat_lt, not, option_and_then}
use Rattle.symres.proofs.Common.{option_map, option_map_or, refl, replicate, set, shown_inputs, slice_get}
use Rattle.symres.proofs.Common.{slice_get-get_or, slot, subst, suc, sym, symbol_tables, take, take-suc, take_all, true}
use Rattle.symres.proofs.Common.{unwrap_or, zero, ℕ, ⊎_elim, ◌&&◌, ◌++◌, ◌+◌, ◌<◌, ◌==◌, ◌||◌, ◌∙◌, ◌∷◌, ◌≡◌, ◌≤◌}
use Rattle.std.proofs.lemmas.List.Concat.{flat_map-append}
use Rattle.std.proofs.lemmas.Bool.{cases_eq, cases_lt, eq-eqb, ltb-false, true≢false}
use Rattle.std.proofs.lemmas.List.{get_or_past, get_or-replicate, take-append-drop}
use Rattle.elfobj.specs.declared.symbol.Binding.{Binding}
use Rattle.elfobj.specs.declared.symbol.Binding.TheVariants as binding
use Rattle.elfobj.specs.declared.symbol.Symbol.{Symbol}
use Rattle.ldmodel.specs.Fault.{Fault}
use Rattle.ldmodel.specs.Fault as fault
use Rattle.ldmodel.specs.FaultCode.{definer_of, fault_of, name_of_symbol}
use Rattle.ldmodel.specs.InputSections.{is_same_entry}
use Rattle.ldmodel.specs.NameFaults.{ByObject, ByScript, Definer, duplicate, first_definer, first_among, duplicates}
use Rattle.ldmodel.specs.NameFaults.{is_duplicate, is_first_of, object_name, strong_definitions}
use Rattle.ldmodel.specs.Names.{Entry, declaration, entries, is_global, is_of_name, is_placed, is_strong}
use Rattle.ldmodel.specs.declared.fault.Definer as code_definer
use Rattle.ldmodel.specs.declared.fault.Definer.TheVariants as definer
use Rattle.ldmodel.specs.declared.fault.Fault as code
use Rattle.ldmodel.specs.declared.fault.Fault.TheVariants as variant
use Rattle.ldmodel.specs.declared.names.Case.TheVariants as case
use Rattle.ldmodel.specs.declared.names.Entry as code_names
use Rattle.ldmodel.specs.declared.names.NameKey.{NameKey}
use Rattle.symres.specs.Entered.{tables_of}
use Rattle.symres.specs.Duplicates.{IsDoubled, IsTableAt, by_place, declared_by, first_entry, strongs}
use Rattle.symres.proofs.Entering.{Table, length-tables, symbols_of, table_at}

-- ---- strong definitions

strongs-append : (name : List ℕ) (xs ys : List Declaration) → strongs name (xs ++ ys) ≡ strongs name xs
    ++ strongs name ys
strongs-append name xs ys =
    ap (filter is_strong) (filter-append (is_of_name name) xs ys)
    ∙ filter-append is_strong (filter (is_of_name name) xs) (filter (is_of_name name) ys)

-- of one declaration
strong_one : (name : List ℕ) (d : Declaration) → bytes_eq name d.name ≡ true → is_strong d ≡ true
    → strongs name (d ∷ []) ≡ d ∷ []
strong_one name d same strong =
    ap (λ (b : Bool). filter is_strong (cond b (d ∷ []) [])) same ∙ ap (λ (b : Bool). cond b (d ∷ []) []) strong

other_one : (name : List ℕ) (d : Declaration) → bytes_eq name d.name ≡ false → strongs name (d ∷ []) ≡ []
other_one name d other = ap (λ (b : Bool). filter is_strong (cond b (d ∷ []) [])) other

weak_one : (name : List ℕ) (d : Declaration) → is_strong d ≡ false → strongs name (d ∷ []) ≡ []
weak_one name d weak = go (bytes_eq name d.name) (ap (λ (b : Bool). cond b (d ∷ []) []) weak)
  where
    go : (b : Bool) → filter is_strong (d ∷ []) ≡ [] → filter is_strong (cond b (d ∷ []) []) ≡ []
    go true e = e
    go false e = refl

own_name : (d : Declaration) → bytes_eq d.name d.name ≡ true
own_name d = (bytes_eq-Decides d.name d.name).1 refl

-- where the declarations of a project begin with these, a strong one last
pub strongs_of : (p : Project) (ds : List Declaration) (d : Declaration) → (b : Begins p (ds ++ d ∷ []))
    → is_strong d ≡ true → strong_definitions p d.name ≡ strongs d.name ds ++ d ∷ strongs d.name b.0
strongs_of p ds d b strong =
    ap (strongs d.name) b.1
    ∙ (strongs-append d.name (ds ++ d ∷ []) b.0
    ∙ (ap (λ (xs : List Declaration). xs ++ strongs d.name b.0)
    (strongs-append d.name ds (d ∷ [])
    ∙ ap (λ (xs : List Declaration). strongs d.name ds ++ xs) (strong_one d.name d (own_name d) strong))
    ∙ append_assoc (strongs d.name ds) (d ∷ []) (strongs d.name b.0)))

-- ---- a name that isn't defined twice

is_false : (b : Bool) (x : Decision) → (cond b Duplicate x ≡ Duplicate → ⊥) → b ≡ false
is_false true x h = absurd (h refl)
is_false false x h = refl

not_many : (by_script by_provide : Bool) (ds : List Declaration) → (decided by_script by_provide ds ≡ Duplicate → ⊥)
    → nat_lt 1 (length (filter is_strong ds) + cond by_script 1 0) ≡ false
unfolding decided
not_many s v ds h = is_false (nat_lt 1 (length (filter is_strong ds) + cond s 1 0)) _ h

only_one : (xs ys : List Declaration) (d : Declaration) (s : Bool)
    → nat_lt 1 (length (xs ++ d ∷ ys) + cond s 1 0) ≡ false
    → (s ≡ false) × (is_first_of (xs ++ d ∷ ys) d ≡ is_same_entry d.entry d.entry)
only_one [] ys d true h = absurd (omega (arith, ltb-false 1 (length (d ∷ ys) + 1) h))
only_one [] ys d false h = (refl, refl)
only_one (x ∷ xs) ys d s h =
    absurd (omega (
      arith,
      ltb-false 1 (length (x ∷ (xs ++ d ∷ ys)) + cond s 1 0) h,
      length-append xs (d ∷ ys),
    ))

same_entry : (e : Entry) → is_same_entry e e ≡ true
same_entry e = ap (λ (b : Bool). b && (e.symbol == e.symbol)) (eq-eqb e.object e.object refl)
    ∙ eq-eqb e.symbol e.symbol refl

-- a definition that isn't of a name that is defined twice is no fault
pub not_duplicate : (p : Project) (ds : List Declaration) (d : Declaration) → Begins p (ds ++ d ∷ [])
    → (is_strong d ≡ true → decision p d.name ≡ Duplicate → ⊥) → is_duplicate p d ≡ false
unfolding decision
not_duplicate p ds d b h = go (is_strong d) refl
  where
    strong : is_strong d ≡ true → is_duplicate p d ≡ false
    strong e =
        let few : nat_lt 1 (length (strong_definitions p d.name) + cond (is_assigned p.script d.name) 1 0) ≡ false =
        not_many (is_assigned p.script d.name) (is_provided p.script d.name) (entries p.objects d.name) (h e) in
        let one = only_one (strongs d.name ds) (strongs d.name b.0) d (is_assigned p.script d.name)
        (subst (λ (xs : List Declaration). nat_lt 1 (length xs + cond (is_assigned p.script d.name) 1 0) ≡ false)
        (strongs_of p ds d b e) few) in
        let first : is_first_of (strong_definitions p d.name) d ≡ true =
        ap (λ (xs : List Declaration). is_first_of xs d) (strongs_of p ds d b e) ∙ (one.1 ∙ same_entry d.entry) in
        ap (λ (x : Bool).
        x && (is_assigned p.script d.name || not (is_first_of (strong_definitions p d.name) d))) e
        ∙ (ap (λ (x : Bool). x || not (is_first_of (strong_definitions p d.name) d)) one.0 ∙ ap not first)

    go : (x : Bool) → is_strong d ≡ x → is_duplicate p d ≡ false
    go true e = strong e
    go false e =
        ap (λ (x : Bool). x && (is_assigned p.script d.name || not (is_first_of (strong_definitions p d.name) d))) e

same_name : (x y : List ℕ) → bytes_eq x y ≡ true → x ≡ y
same_name x y = (bytes_eq-Decides x y).0

-- it is no definition of a name that is defined twice either
not_among : (p : Project) (d : Declaration) (name : List ℕ)
    → (is_strong d ≡ true → decision p d.name ≡ Duplicate → ⊥) → decision p name ≡ Duplicate
    → strongs name (d ∷ []) ≡ []
not_among p d name h twice = go (is_strong d) (bytes_eq name d.name) refl refl
  where
    go : (x y : Bool) → is_strong d ≡ x → bytes_eq name d.name ≡ y → strongs name (d ∷ []) ≡ []
    go false y e f = weak_one name d e
    go true false e f = other_one name d f
    go true true e f = absurd (h e (sym (ap (decision p) (same_name name d.name f)) ∙ twice))

abbrev shown : Project → List Declaration → List Fault
shown p ds = map duplicate_fault (map (duplicate p) ds)

told_more : (p : Project) (ds : List Declaration) (d : Declaration) → shown p (filter (is_duplicate p) (ds ++ d ∷ []))
    ≡ shown p (filter (is_duplicate p) ds) ++ shown p (filter (is_duplicate p) (d ∷ []))
told_more p ds d =
    ap (shown p) (filter-append (is_duplicate p) ds (d ∷ []))
    ∙ (ap (map duplicate_fault)
    (map-append (duplicate p) (filter (is_duplicate p) ds) (filter (is_duplicate p) (d ∷ [])))
    ∙ map-append duplicate_fault (map (duplicate p) (filter (is_duplicate p) ds))
    (map (duplicate p) (filter (is_duplicate p) (d ∷ []))))

keeps_found : (p : Project) (names : List (Option (List ℕ))) (ds : List Declaration) (d : Declaration)
    (firsts : List (Option (code_names.Entry ObjectPlace))) (faults : List code.Fault) → Begins p (ds ++ d ∷ [])
    → (is_strong d ≡ true → decision p d.name ≡ Duplicate → ⊥) → AreFound p names ds firsts faults
    → AreFound p names (ds ++ d ∷ []) firsts faults
keeps_found p names ds d firsts faults b not_it h = record {
  noted = λ k name n twice.
      h.noted k name n twice
      ∙ sym (ap first_entry (strongs-append name ds (d ∷ [])
      ∙ (ap (λ (xs : List Declaration). strongs name ds ++ xs) (not_among p d name not_it twice)
      ∙ append-nil (strongs name ds))));
  told = h.told
      ∙ sym (told_more p ds d
      ∙ (ap (λ (x : Bool). shown p (filter (is_duplicate p) ds) ++ shown p (cond x (d ∷ []) []))
      (not_duplicate p ds d b not_it)
      ∙ append-nil (shown p (filter (is_duplicate p) ds))));
}

-- ---- a definition of a name that is defined twice

first_of_all : (xs ys : List Declaration) (d : Declaration) → first_entry (xs ++ d ∷ ys)
    ≡ Some (unwrap_or (first_entry xs) d.entry)
first_of_all [] ys d = refl
first_of_all (x ∷ xs) ys d = refl

is_first : (xs : List Declaration) (d : Declaration) (x : Entry) → first_entry xs ≡ Some x → is_first_of xs d
    ≡ is_same_entry x d.entry
is_first [] d x h = absurd (cc)
is_first (y ∷ ys) d x h = let e : y.entry ≡ x = cc in ap (λ (z : Entry). is_same_entry z d.entry) e

object_of_first : (p : Project) (xs : List Declaration) (x : Entry) → first_entry xs ≡ Some x → first_among p xs
    ≡ ByObject (object_name p x.object)
object_of_first p [] x h = absurd (cc)
object_of_first p (y ∷ ys) x h = let e : y.entry ≡ x = cc in ap (λ (z : Entry). ByObject (object_name p z.object)) e

noted_or : (o : Option (code_names.Entry ObjectPlace)) (x : Option Entry) (e : code_names.Entry ObjectPlace)
    → option_map by_place o ≡ x
    → by_place (unwrap_or o e) ≡ unwrap_or x (by_place e)
noted_or None x e h = ap (λ (y : Option Entry). unwrap_or y (by_place e)) h
noted_or (Some o) x e h = ap (λ (y : Option Entry). unwrap_or y (by_place e)) h

-- what a symbol defines, and the first definition of its name
record Defines (p : Project) (ds : List Declaration) (d : Declaration)
    (e earliest : code_names.Entry ObjectPlace) : Type 0 where
  begins : Begins p (ds ++ d ∷ [])
  strong : is_strong d ≡ true
  name : name_of_symbol p e.object.0 e.symbol.0 ≡ d.name
  entry : by_place e ≡ d.entry
  first : (ys : List Declaration) → first_entry (strongs d.name ds ++ d ∷ ys) ≡ Some (by_place earliest)

first_defined : (p : Project) (ds : List Declaration) (d : Declaration) (e x : code_names.Entry ObjectPlace)
    → (h : Defines p ds d e x) → first_entry (strong_definitions p d.name) ≡ Some (by_place x)
first_defined p ds d e x h =
    ap first_entry (strongs_of p ds d h.begins h.strong) ∙ h.first (strongs d.name h.begins.0)

-- whether it is a fault
is_fault : (p : Project) (ds : List Declaration) (d : Declaration) (e x : code_names.Entry ObjectPlace)
    → (h : Defines p ds d e x)
    → is_duplicate p d ≡ (is_assigned p.script d.name || not (is_same_entry (by_place x) (by_place e)))
is_fault p ds d e x h =
    ap (λ (b : Bool). b && (is_assigned p.script d.name || not (is_first_of (strong_definitions p d.name) d))) h.strong
    ∙ ap (λ (b : Bool). is_assigned p.script d.name || not b)
    (is_first (strong_definitions p d.name) d (by_place x) (first_defined p ds d e x h)
    ∙ ap (is_same_entry (by_place x)) (sym h.entry))

-- the fault of a definition whose name another definer has
fault_is : (p : Project) (ds : List Declaration) (d : Declaration) (e x : code_names.Entry ObjectPlace)
    (by : code_definer.Definer) → Defines p ds d e x → definer_of p (λ key. key) by ≡ first_definer p d.name
    → faults_in p (variant.DuplicateDefinition e by ∷ []) ≡ duplicate_fault (duplicate p d) ∷ []
unfolding fault_of
fault_is p ds d e x by h same =
    let object : e.object.0 ≡ d.entry.object = ap (λ (y : Entry). y.object) h.entry in
    ap (λ (n : List ℕ).
    fault.DuplicateDefinition n (object_name p e.object.0) (definer_of p (λ key. key) by) ∷ []) h.name
    ∙ (ap (λ (k : ℕ). fault.DuplicateDefinition d.name (object_name p k) (definer_of p (λ key. key) by) ∷ []) object
    ∙ ap (λ (f : Definer). fault.DuplicateDefinition d.name (object_name p d.entry.object) f ∷ []) same)

-- the faults of a symbol
told_one : (p : Project) (ds : List Declaration) (d : Declaration) (e x : code_names.Entry ObjectPlace)
    → Defines p ds d e x
    → faults_in p (faults_of e (definer_before (is_assigned p.script d.name) x e))
    ≡ shown p (filter (is_duplicate p) (d ∷ []))
told_one p ds d e x h =
    go (is_assigned p.script d.name) (is_same_entry (by_place x) (by_place e)) refl refl
    ∙ sym (ap (λ (b : Bool). shown p (cond b (d ∷ []) [])) (is_fault p ds d e x h))
  where
    go : (a s : Bool) → is_assigned p.script d.name ≡ a → is_same_entry (by_place x) (by_place e) ≡ s
        → faults_in p (faults_of e (cond a (Some definer.Script) (cond s None
        (Some (definer.Object x.object)))))
        ≡ shown p (cond (a || not s) (d ∷ []) [])
    go true s is same =
        fault_is p ds d e x definer.Script h
        (sym (ap (λ (b : Bool). cond b ByScript (first_among p (strong_definitions p d.name))) is))
    go false true is same = refl
    go false false is same =
        fault_is p ds d e x (definer.Object x.object) h
        (sym (ap (λ (b : Bool). cond b ByScript (first_among p (strong_definitions p d.name))) is
        ∙ object_of_first p (strong_definitions p d.name) (by_place x) (first_defined p ds d e x h)))

-- the two conditions again
told_at : (p : Project) (ds : List Declaration) (d : Declaration) (e x : code_names.Entry ObjectPlace)
    (old new : List code.Fault)
    → Defines p ds d e x → new ≡ old ++ faults_of e (definer_before (is_assigned p.script d.name) x e)
    → faults_in p old ≡ shown p (filter (is_duplicate p) ds)
    → faults_in p new ≡ shown p (filter (is_duplicate p) (ds ++ d ∷ []))
told_at p ds d e x old new h is told =
    let f : code.Fault → Fault = λ (y : code.Fault). fault_of p (λ key. key) y in
    let more : List code.Fault = faults_of e (definer_before (is_assigned p.script d.name) x e) in
    ap (faults_in p) is
    ∙ (map-append (fault_of p (λ key. key)) old more
    ∙ (ap (λ (ys : List Fault). ys ++ faults_in p more) told
    ∙ (ap (λ (ys : List Fault). shown p (filter (is_duplicate p) ds) ++ ys) (told_one p ds d e x h)
    ∙ sym (told_more p ds d))))

some_name : (x y : List ℕ) → Some x ≡ Some y → x ≡ y
some_name x y h = cc

noted_at : (p : Project) (names : List (Option (List ℕ))) (ds : List Declaration) (d : Declaration)
    (e x : code_names.Entry ObjectPlace) (k : ℕ) (old : List (Option (code_names.Entry ObjectPlace))) (j : ℕ)
    (name : List ℕ)
    → Defines p ds d e x → IsNamed names k d.name → AreDistinct names → k < length old → IsNamed names j name
    → option_map by_place (get_or old j None) ≡ first_entry (strongs name ds)
    → option_map by_place (get_or (set old k (Some x)) j None) ≡ first_entry (strongs name (ds ++ d ∷ []))
noted_at p names ds d e x k old j name h named differ within is noted = ⊎_elim here there (cases_eq j k)
  where
    here : j ≡ k → option_map by_place (get_or (set old k (Some x)) j None) ≡ first_entry (strongs name (ds ++ d ∷ []))
    here same =
        let one : name ≡ d.name = some_name name d.name (sym is ∙ (ap (slot names) same ∙ named)) in
        ap (λ (i : ℕ). option_map by_place (get_or (set old k (Some x)) i None)) same
        ∙ (ap (option_map by_place) (get_or-set_same old k (Some x) None within)
        ∙ (sym (h.first [])
        ∙ (sym (ap first_entry (strongs-append d.name ds (d ∷ [])
        ∙ ap (λ (xs : List Declaration). strongs d.name ds ++ xs) (strong_one d.name d (own_name d) h.strong)))
        ∙ ap (λ (n : List ℕ). first_entry (strongs n (ds ++ d ∷ []))) (sym one))))

    apart : (j ≡ k → ⊥) → (b : Bool) → bytes_eq name d.name ≡ b → strongs name (d ∷ []) ≡ []
    apart ne true same = absurd (ne (differ j k name is
        (subst (IsNamed names k) (sym (same_name name d.name same)) named)))
    apart ne false other = other_one name d other

    there : (j ≡ k → ⊥) → option_map by_place (get_or (set old k (Some x)) j None)
        ≡ first_entry (strongs name (ds ++ d ∷ []))
    there ne =
        ap (option_map by_place) (get_or-set_other old k j (Some x) None ne)
        ∙ (noted
        ∙ sym (ap first_entry (strongs-append name ds (d ∷ [])
        ∙ (ap (λ (xs : List Declaration). strongs name ds ++ xs) (apart ne (bytes_eq name d.name) refl)
        ∙ append-nil (strongs name ds)))))

more_found : (p : Project) (names : List (Option (List ℕ))) (ds : List Declaration) (d : Declaration)
    (e x : code_names.Entry ObjectPlace) (k : ℕ) (old new : List (Option (code_names.Entry ObjectPlace)))
    (faults faults' : List code.Fault)
    → Defines p ds d e x → IsNamed names k d.name → AreDistinct names → k < length old → new ≡ set old k (Some x)
    → faults' ≡ faults ++ faults_of e (definer_before (is_assigned p.script d.name) x e)
    → AreFound p names ds old faults → AreFound p names (ds ++ d ∷ []) new faults'
more_found p names ds d e x k old new faults faults' h named differ within is more found = record {
  noted = λ j name n twice.
      ap (λ (xs : List (Option (code_names.Entry ObjectPlace))). option_map by_place (get_or xs j None)) is
      ∙ noted_at p names ds d e x k old j name h named differ within n (found.noted j name n twice);
  told = told_at p ds d e x faults faults' h more found.told;
}

-- ---- a symbol of an object

some_at : {A : Type 0} (xs : List A) (i : ℕ) → i < length xs → (x : A) × (slice_get xs i ≡ Some x)
some_at [] i h = absurd (omega (arith, h))
some_at (x ∷ xs) zero h = (x, refl)
some_at (x ∷ xs) (suc i) h = some_at xs i (omega (arith, h))

symbols_at : (p : Project) (a : SymbolTableState) (place : ℕ) (symbols : List NamedSymbol) → IsSymbolTable p a
    → IsTableAt a.objects place symbols
    → (o : NamedObject) × (slice_get p.objects place ≡ Some o) × (o.object.symbols ≡ symbols)
symbols_at p a place symbols symbol_table table =
    let many : length (enumerate_from 0 (symbol_tables p.objects)) ≡ length p.objects =
    length-enumerate_from 0 (symbol_tables p.objects) ∙ length-map p.objects (λ (o : NamedObject). o.object.symbols) in
    let within : place < length p.objects =
    subst (λ (n : ℕ). place < n) (ap length symbol_table.objects ∙ many) table.within in
    let object = some_at p.objects place within in
    let t : Table = (0, []) in
    let at : get_or (symbol_tables p.objects) place t.1 ≡ object.0.object.symbols =
    get_or-map (λ (o : NamedObject). o.object.symbols) p.objects place object.0 t.1 within
    ∙ ap (λ (o : NamedObject). o.object.symbols) (get_or_from_slice_get p.objects place object.0 object.0 object.1) in
    let inside : place < length (symbol_tables p.objects) =
    subst (λ (n : ℕ). place < n) (sym (length-map p.objects (λ (o : NamedObject). o.object.symbols))) within in
    let is : get_or a.objects place t ≡ (0 + place, get_or (symbol_tables p.objects) place t.1) =
    ap (λ (ts : List Table). get_or ts place t) symbol_table.objects
    ∙ get_or-enumerate_from 0 (symbol_tables p.objects) place t inside in
    (object.0, object.1, sym at ∙ (sym (ap (λ (u : Table). u.1) is) ∙ ap (λ (u : Table). u.1) (table.is t)))

name_is : (p : Project) (a : SymbolTableState) (place number : ℕ) (symbols : List NamedSymbol) (d : NamedSymbol)
    → IsSymbolTable p a → IsTableAt a.objects place symbols → number < length symbols
    → name_of_symbol p place number ≡ (get_or symbols number d).name
name_is p a place number symbols d symbol_table table within =
    let at = symbols_at p a place symbols symbol_table table in
    ap (λ (o : Option NamedObject).
    option_map_or (λ (s : NamedSymbol). s.name) (option_and_then (λ (x : NamedObject).
    slice_get x.object.symbols number) o) []) at.1
    ∙ (ap (λ (ss : List NamedSymbol). option_map_or (λ (s : NamedSymbol). s.name) (slice_get ss number) []) at.2
    ∙ ap (λ (o : Option NamedSymbol). option_map_or (λ (s : NamedSymbol). s.name) o [])
    (slice_get-get_or symbols number d within))

global_seen : (b : Binding) (x : Bool) → is_global b && x ≡ true → is_local b ≡ false
global_seen binding.Local x h = absurd (cc)
global_seen binding.Global x h = refl
global_seen binding.Weak x h = absurd (cc)

-- a strong definition declares its name
strong_seen : (place number : ℕ) (s : NamedSymbol) → is_strong (declaration place (number, s)) ≡ true
    → is_local s.symbol.binding ≡ false
strong_seen place number s h = global_seen s.symbol.binding (is_placed s.symbol.place) h

pub seen_at : (objects : List Table) (place number : ℕ) (symbols : List NamedSymbol) (x : NamedSymbol)
    → IsTableAt objects place symbols → number < length symbols
    → ((d : NamedSymbol) → is_strong (declaration place (number, get_or symbols number d)) ≡ true)
    → IsSeenAt objects place number
seen_at objects place number symbols x table within strong = record {
  within = table.within;
  symbol = λ t. subst (λ (u : Table). number < length u.1) (sym (table.is t)) within;
  seen = λ t d.
      subst (λ (u : Table). is_local (get_or u.1 number d).symbol.binding ≡ false) (sym (table.is t))
      (strong_seen place number (get_or symbols number d) (strong d));
}

-- ---- what is read of a symbol

abbrev Steps : Project → List (Option (List ℕ)) → List Declaration
    → (old new : List (Option (code_names.Entry ObjectPlace)))
    → (faults faults' : List code.Fault) → List Declaration → Type 0
Steps p names ds old new faults faults' more =
    Begins p (ds ++ more) → AreFound p names ds old faults → AreFound p names (ds ++ more) new faults'

declared_seen : (p : Project) (names : List (Option (List ℕ))) (ds : List Declaration) (place number : ℕ)
    (s : NamedSymbol) (old new : List (Option (code_names.Entry ObjectPlace))) (faults faults' : List code.Fault)
    → is_local s.symbol.binding ≡ false → Steps p names ds old new faults faults' (declaration place (number, s) ∷ [])
    → Steps p names ds old new faults faults' (declared_by place number s)
declared_seen p names ds place number s old new faults faults' seen h =
    subst (λ (b : Bool). Steps p names ds old new faults faults' (cond (not b) (declaration place (number, s) ∷ []) []))
    (sym seen) h

-- a symbol that is no definition of a name that is defined twice
pub no_more : (p : Project) (names : List (Option (List ℕ))) (ds : List Declaration) (place number : ℕ)
    (s : NamedSymbol) (firsts : List (Option (code_names.Entry ObjectPlace))) (faults : List code.Fault)
    → IsDoubled p names (declaration place (number, s)) None
    → Steps p names ds firsts firsts faults faults (declared_by place number s)
no_more p names ds place number s firsts faults none = go (is_local s.symbol.binding) refl
  where
    go : (b : Bool) → is_local s.symbol.binding ≡ b
        → Steps p names ds firsts firsts faults faults (declared_by place number s)
    go true local =
        subst (λ (b : Bool). Steps p names ds firsts firsts faults faults
        (cond (not b) (declaration place (number, s) ∷ []) [])) (sym local)
        (λ b h. subst (λ (xs : List Declaration). AreFound p names xs firsts faults) (sym (append-nil ds)) h)
    go false seen =
        declared_seen p names ds place number s firsts firsts faults faults seen
        (λ b h. keeps_found p names ds (declaration place (number, s)) firsts faults b none h)

-- a definition of a name that is defined twice
pub one_more : (p : Project) (a : SymbolTableState) (ds : List Declaration) (place number : ℕ) (symbols : List
    NamedSymbol)
    (d : NamedSymbol) (k : NameKey) (x : code_names.Entry ObjectPlace)
    (old new : List (Option (code_names.Entry ObjectPlace)))
    (faults faults' : List code.Fault) (name : List ℕ)
    → IsSymbolTable p a → IsTableAt a.objects place symbols → number < length symbols
    → IsDoubled p a.names (declaration place (number, get_or symbols number d)) (Some k) → AreDistinct a.names
    → k.0 < length old → x ≡ unwrap_or (get_or old k.0 None)
    (record { object = record { 0 = place }; symbol = record { 0 = number } })
    → new ≡ set old k.0 (Some x) → name ≡ (get_or symbols number d).name
    → faults' ≡ faults ++ faults_of (record { object = record { 0 = place }; symbol = record { 0 = number } })
    (definer_before (is_assigned p.script name) x
    (record { object = record { 0 = place }; symbol = record { 0 = number } }))
    → Steps p a.names ds old new faults faults' (declared_by place number (get_or symbols number d))
one_more p a ds place number symbols d k x old new faults faults' name symbol_table table within is differ inside first
    set'
    named more =
    let s : NamedSymbol = get_or symbols number d in
    let y : Declaration = declaration place (number, s) in
    let e : code_names.Entry ObjectPlace = record { object = record { 0 = place }; symbol = record { 0 = number } } in
    declared_seen p a.names ds place number s old new faults faults' (strong_seen place number s is.0)
    (λ b h.
    let noted : by_place x ≡ unwrap_or (first_entry (strongs y.name ds)) y.entry =
    ap by_place first
    ∙ noted_or (get_or old k.0 None) (first_entry (strongs y.name ds)) e (h.noted k.0 y.name is.1 is.2) in
    let defines : Defines p ds y e x = record {
      begins = b;
      strong = is.0;
      name = name_is p a place number symbols d symbol_table table within;
      entry = refl;
      first = λ ys.
          first_of_all (strongs y.name ds) ys y ∙ ap (λ (z : Entry). Some z) (sym noted);
    } in
    more_found p a.names ds y e x k.0 old new faults faults' defines is.1 differ inside set'
    (more ∙ ap (λ (n : List ℕ). faults ++ faults_of e (definer_before (is_assigned p.script n) x e)) named) h)

-- ---- keys of names that are defined twice

pub strong_at : (shown : List Symbol) (symbols : List NamedSymbol) (place n : ℕ) (x : Symbol) (b : Bool)
    → shown ≡ map (λ (s : NamedSymbol). s.symbol) symbols → n < length symbols
    → (is_global (get_or shown n x).binding && is_placed (get_or shown n x).place) ≡ b
    → (d : NamedSymbol) → is_strong (declaration place (n, get_or symbols n d)) ≡ b
strong_at shown symbols place n x b same within is d =
    let here : get_or shown n x ≡ (get_or symbols n d).symbol =
    ap (λ (ss : List Symbol). get_or ss n x) same
    ∙ get_or-map (λ (s : NamedSymbol). s.symbol) symbols n d x within in
    sym (ap (λ (s : Symbol). is_global s.binding && is_placed s.place) here) ∙ is

duplicate_case : (o : Option (Case ObjectPlace)) → is_doubled o ≡ true → o ≡ Some case.Duplicate
duplicate_case None h = absurd (cc)
duplicate_case (Some (case.Strong e)) h = absurd (cc)
duplicate_case (Some case.Script) h = absurd (cc)
duplicate_case (Some (case.Common e size align)) h = absurd (cc)
duplicate_case (Some (case.Weak e)) h = absurd (cc)
duplicate_case (Some case.Provided) h = absurd (cc)
duplicate_case (Some case.Undefined) h = absurd (cc)
duplicate_case (Some case.Duplicate) h = refl

pub case_duplicate : (c : Case ObjectPlace) → decision_of (λ key. key) c ≡ Duplicate → is_doubled (Some c) ≡ true
case_duplicate (case.Strong e) h = absurd (cc)
case_duplicate case.Script h = absurd (cc)
case_duplicate (case.Common e size align) h = absurd (cc)
case_duplicate (case.Weak e) h = absurd (cc)
case_duplicate case.Provided h = absurd (cc)
case_duplicate case.Undefined h = absurd (cc)
case_duplicate case.Duplicate h = refl

named_at : (a : SymbolTableState) (place number k : ℕ) (symbols : List NamedSymbol) (d : NamedSymbol)
    → IsTableAt a.objects place symbols → IsNameAt a place number k → IsNamed a.names k (get_or symbols number d).name
named_at a place number k symbols d table named =
    subst (λ (u : Table). IsNamed a.names k (get_or u.1 number d).name) (table.is (place, symbols))
    (named (place, symbols) d)

pub doubled : (p : Project) (a : SymbolTableState) (place number : ℕ) (k : NameKey) (symbols : List NamedSymbol)
    (d : NamedSymbol) → IsSymbolTable p a → IsTableAt a.objects place symbols
    → is_strong (declaration place (number, get_or symbols number d)) ≡ true → IsNameAt a place number k.0
    → is_doubled (case_at a.cases k.0) ≡ true
    → IsDoubled p a.names (declaration place (number, get_or symbols number d)) (Some k)
doubled p a place number k symbols d symbol_table table strong named twice =
    let name : IsNamed a.names k.0 (get_or symbols number d).name =
    named_at a place number k.0 symbols d table named in (
      strong,
      name,
      sym ((symbol_table.sound k.0 case.Duplicate (duplicate_case (case_at a.cases k.0) twice)).case
          (get_or symbols number d).name name),
    )

pub not_doubled : (p : Project) (a : SymbolTableState) (place number : ℕ) (k : ℕ) (symbols : List NamedSymbol)
    (d : NamedSymbol) → IsSymbolTable p a → IsTableAt a.objects place symbols → IsNameAt a place number k
    → HasCase a.cases k → is_doubled (case_at a.cases k) ≡ false
    → IsDoubled p a.names (declaration place (number, get_or symbols number d)) None
not_doubled p a place number k symbols d symbol_table table named has once strong twice =
    let name : IsNamed a.names k (get_or symbols number d).name = named_at a place number k symbols d table named in
    let is : is_doubled (Some has.0) ≡ true =
    case_duplicate has.0 ((symbol_table.sound k has.0 has.1).case (get_or symbols number d).name name ∙ twice) in
    true≢false (sym is ∙ (sym (ap is_doubled has.1) ∙ once))

-- ---- the symbols of an object

pub seen_more : (place n : ℕ) (symbols : List NamedSymbol) (d : NamedSymbol) → n < length symbols
    → filter is_seen (take (n + 1) (all_entries (place, symbols)))
    ≡ filter is_seen (take n (all_entries (place, symbols))) ++ declared_by place n (get_or symbols n d)
seen_more place n symbols d within =
    let xs : List Declaration = all_entries (place, symbols) in
    let numbered : List (ℕ × NamedSymbol) = enumerate_from 0 symbols in
    let x : ℕ × NamedSymbol = (n, d) in
    let long : length numbered ≡ length symbols = length-enumerate_from 0 symbols in
    let inside : n < length numbered = subst (λ (m : ℕ). n < m) (sym long) within in
    let here : get_or xs n (declaration place x) ≡ declaration place (n, get_or symbols n d) =
    get_or-map (declaration place) numbered n x (declaration place x) inside
    ∙ (ap (declaration place) (get_or-enumerate_from 0 symbols n x within)
    ∙ ap (λ (i : ℕ). declaration place (i, get_or symbols n d)) (from_0 n)) in
    let suc_is : suc n ≡ n + 1 = omega arith in
    let more : take (n + 1) xs ≡ take n xs ++ declaration place (n, get_or symbols n d) ∷ [] =
    ap (λ (m : ℕ). take m xs) (sym suc_is)
    ∙ (take-suc xs n (declaration place x)
    (subst (λ (m : ℕ). n < m) (sym (length-map numbered (declaration place))) inside)
    ∙ ap (λ (y : Declaration). take n xs ++ y ∷ []) here) in
    ap (filter is_seen) more
    ∙ filter-append is_seen (take n xs) (declaration place (n, get_or symbols n d) ∷ [])
  where
    from_0 : (m : ℕ) → 0 + m ≡ m
    from_0 m = omega arith

-- a beginning of the declarations of an object
pub begins_first : (p : Project) (ds : List Declaration) (place n : ℕ) (symbols : List NamedSymbol)
    → Begins p (ds ++ declarations_in (place, symbols))
    → Begins p (ds ++ filter is_seen (take n (all_entries (place, symbols))))
begins_first p ds place n symbols b =
    let xs : List Declaration = all_entries (place, symbols) in
    let all : filter is_seen xs ≡ filter is_seen (take n xs) ++ filter is_seen (drop n xs) =
    ap (filter is_seen) (sym (take-append-drop n xs)) ∙ filter-append is_seen (take n xs) (drop n xs) in (
      filter is_seen (drop n xs) ++ b.0,
      b.1
          ∙ (ap (λ (ys : List Declaration). (ds ++ ys) ++ b.0) all
          ∙ (ap (λ (ys : List Declaration). ys ++ b.0)
          (sym (append_assoc ds (filter is_seen (take n xs)) (filter is_seen (drop n xs))))
          ∙ append_assoc (ds ++ filter is_seen (take n xs)) (filter is_seen (drop n xs)) b.0)),
    )

-- a symbol more
pub symbol_more : (p : Project) (names : List (Option (List ℕ))) (ds : List Declaration) (place n : ℕ)
    (symbols : List NamedSymbol) (d : NamedSymbol) (start old new : List (Option (code_names.Entry ObjectPlace)))
    (faults faults' faults'' : List code.Fault) → n < length symbols
    → ((ds' : List Declaration) → Steps p names ds' old new faults' faults'' (declared_by place n (get_or symbols n d)))
    → (Begins p (ds ++ declarations_in (place, symbols)) → AreFound p names ds start faults
    → AreFound p names (ds ++ filter is_seen (take n (all_entries (place, symbols)))) old faults')
    → Begins p (ds ++ declarations_in (place, symbols)) → AreFound p names ds start faults
    → AreFound p names (ds ++ filter is_seen (take (n + 1) (all_entries (place, symbols)))) new faults''
symbol_more p names ds place n symbols d start old new faults faults' faults'' within step before b h =
    let first : List Declaration = ds ++ filter is_seen (take n (all_entries (place, symbols))) in
    let same : first ++ declared_by place n (get_or symbols n d)
    ≡ ds ++ filter is_seen (take (n + 1) (all_entries (place, symbols))) =
    append_assoc ds (filter is_seen (take n (all_entries (place, symbols)))) (declared_by place n (get_or symbols n d))
    ∙ ap (λ (ys : List Declaration). ds ++ ys) (sym (seen_more place n symbols d within)) in
    subst (λ (ys : List Declaration). AreFound p names ys new faults'') same
    (step first (subst (Begins p) (sym same) (begins_first p ds place (n + 1) symbols b)) (before b h))

pub symbols_all : (p : Project) (names : List (Option (List ℕ))) (ds : List Declaration) (place n : ℕ)
    (symbols : List NamedSymbol) (new : List (Option (code_names.Entry ObjectPlace))) (faults : List code.Fault)
    → length symbols ≤ n → AreFound p names (ds ++ filter is_seen (take n (all_entries (place, symbols)))) new faults
    → AreFound p names (ds ++ declarations_in (place, symbols)) new faults
symbols_all p names ds place n symbols new faults past h =
    let xs : List Declaration = all_entries (place, symbols) in
    let long : length xs ≡ length symbols =
    length-map (enumerate_from 0 symbols) (declaration place) ∙ length-enumerate_from 0 symbols in
    subst (λ (ys : List Declaration). AreFound p names (ds ++ filter is_seen ys) new faults)
    (take_all n xs (omega (arith, long, past))) h

-- ---- the objects

pub none_found : (p : Project) (names : List (Option (List ℕ))) (n : ℕ)
    (firsts : List (Option (code_names.Entry ObjectPlace)))
    → firsts ≡ replicate n None → AreFound p names (declarations_of []) firsts []
unfolding declarations_of
none_found p names n firsts is = record {
  noted = λ k name named twice.
      ap (option_map by_place) (ap (λ (xs : List (Option (code_names.Entry ObjectPlace))). get_or xs k None) is
      ∙ none_at n k);
  told = refl;
}
  where
    nothing : Option (code_names.Entry ObjectPlace)
    nothing = None

    none_at : (n k : ℕ) → get_or (replicate n nothing) k nothing ≡ nothing
    none_at n k = ⊎_elim
        (λ h. get_or-replicate n k nothing nothing h)
        (λ h. get_or_past (replicate n nothing) k nothing (omega (arith, length-replicate n nothing, h)))
        (cases_lt k n)

declarations-snoc : (ts : List Table) (t : Table) → declarations_of (ts ++ t ∷ []) ≡ declarations_of ts
    ++ declarations_in t
unfolding declarations_of
declarations-snoc ts t =
    flat_map-append declarations_in ts (t ∷ [])
    ∙ ap (λ (ds : List Declaration). flat_map declarations_in ts ++ ds) (append-nil (declarations_in t))

declarations-append : (ts us : List Table) → declarations_of (ts ++ us) ≡ declarations_of ts ++ declarations_of us
unfolding declarations_of
declarations-append ts us = flat_map-append declarations_in ts us

-- the table of an object of the project
pub is_table_at : (p : Project) (a : SymbolTableState) (inputs : List InputObject) (i : ℕ) (x : InputObject)
    → IsSymbolTable p a
    → shown_inputs inputs ≡ p.objects → i < length inputs → get_or inputs i x ≡ x
    → IsTableAt a.objects i x.object.now.symbols
is_table_at p a inputs i x symbol_table same within here =
    let tables : a.objects ≡ tables_of inputs =
    symbol_table.objects ∙ sym (ap (λ (os : List NamedObject). enumerate_from 0 (symbol_tables os)) same) in
    record {
      within = subst (λ (n : ℕ). i < n) (sym (ap length tables ∙ length-tables inputs)) within;
      is = λ t.
          ap (λ (ts : List Table). get_or ts i t) tables ∙ table_at inputs i x t within here;
    }

-- an object more
pub object_more : (p : Project) (names : List (Option (List ℕ))) (inputs : List InputObject) (i : ℕ) (x : InputObject)
    (old new : List (Option (code_names.Entry ObjectPlace))) (faults faults' : List code.Fault)
    → shown_inputs inputs ≡ p.objects → i < length inputs → get_or inputs i x ≡ x
    → ((ds : List Declaration) → Steps p names ds old new faults faults' (declarations_in (i, symbols_of x)))
    → AreFound p names (declarations_of (take i (enumerate_from 0 (symbol_tables p.objects)))) old faults
    → AreFound p names (declarations_of (take (i + 1) (enumerate_from 0 (symbol_tables p.objects)))) new faults'
object_more p names inputs i x old new faults faults' same within here step h =
    let tables : List Table = enumerate_from 0 (symbol_tables p.objects) in
    let are : tables ≡ tables_of inputs =
    sym (ap (λ (os : List NamedObject). enumerate_from 0 (symbol_tables os)) same) in
    let t : Table = (i, symbols_of x) in
    let inside : i < length tables = subst (λ (n : ℕ). i < n) (sym (ap length are ∙ length-tables inputs)) within in
    let at : get_or tables i t ≡ t = ap (λ (ts : List Table). get_or ts i t) are ∙ table_at inputs i x t within here in
    let suc_is : suc i ≡ i + 1 = omega arith in
    let more : take (i + 1) tables ≡ take i tables ++ t ∷ [] =
    ap (λ (n : ℕ). take n tables) (sym suc_is)
    ∙ (take-suc tables i t inside ∙ ap (λ (u : Table). take i tables ++ u ∷ []) at) in
    let first : declarations_of (take (i + 1) tables) ≡ declarations_of (take i tables) ++ declarations_in t =
    ap declarations_of more ∙ declarations-snoc (take i tables) t in
    let all : declarations p.objects
    ≡ (declarations_of (take i tables) ++ declarations_in t) ++ declarations_of (drop (i + 1) tables) =
    ap declarations_of (sym (take-append-drop (i + 1) tables))
    ∙ (declarations-append (take (i + 1) tables) (drop (i + 1) tables)
    ∙ ap (λ (ds : List Declaration). ds ++ declarations_of (drop (i + 1) tables)) first) in
    subst (λ (ds : List Declaration). AreFound p names ds new faults') (sym first)
    (step (declarations_of (take i tables)) (declarations_of (drop (i + 1) tables), all) h)

pub objects_all : (p : Project) (names : List (Option (List ℕ))) (inputs : List InputObject) (i : ℕ)
    (new : List (Option (code_names.Entry ObjectPlace))) (faults : List code.Fault)
    → shown_inputs inputs ≡ p.objects → length inputs ≤ i
    → AreFound p names (declarations_of (take i (enumerate_from 0 (symbol_tables p.objects)))) new faults
    → faults_in p faults ≡ map duplicate_fault (duplicates p)
unfolding duplicates
objects_all p names inputs i new faults same past h =
    let tables : List Table = enumerate_from 0 (symbol_tables p.objects) in
    let are : tables ≡ tables_of inputs =
    sym (ap (λ (os : List NamedObject). enumerate_from 0 (symbol_tables os)) same) in
    h.told
    ∙ ap (λ (ts : List Table). shown p (filter (is_duplicate p) (declarations_of ts)))
    (take_all i tables (omega (arith, ap length are, length-tables inputs, past)))

-- the name that was read
pub name_read : (symbols : List NamedSymbol) (n : ℕ) (d : NamedSymbol) (name : List ℕ) → n < length symbols
    → slice_get (map (λ (s : NamedSymbol). s.name) symbols) n ≡ Some name → name ≡ (get_or symbols n d).name
name_read symbols n d name within is =
    sym (get_or_from_slice_get (map (λ (s : NamedSymbol). s.name) symbols) n name d.name is)
    ∙ get_or-map (λ (s : NamedSymbol). s.name) symbols n d d.name within
