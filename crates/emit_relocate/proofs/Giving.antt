-- The values that a script gives names.
use Rattle.emit_relocate.proofs.Common.{AreOf, Bool, DirectiveAt, HasCase, HasPlaces, IsGivenTable, IsNamed, IsPut}
use Rattle.emit_relocate.proofs.Common.{Layout, List, NamedKey, Option, Places, Some, Statement, [], all_directives, ap}
use Rattle.emit_relocate.proofs.Common.{arith, bytes_eq, bytes_eq-Decides, cases_eq, cases_lt, false, get_or}
use Rattle.emit_relocate.proofs.Common.{get_or-set_other, get_or-set_same, given_name, inl, inr, is_some, length}
use Rattle.emit_relocate.proofs.Common.{length-map, length-replicate, length-set, map, map-append, name_given_by}
use Rattle.emit_relocate.proofs.Common.{option_map, option_map_or, refl, replicate, set, shown_directives, slice_get}
use Rattle.emit_relocate.proofs.Common.{slice_get-get_or, slice_get-map, subst, suc, sym, symbol_of, take, take-suc}
use Rattle.emit_relocate.proofs.Common.{take_all, true, true≢false, zero, ℕ, ⊎_elim, ◌++◌, ◌+◌, ◌<◌, ◌∙◌, ◌∷◌, ◌≡◌, ◌≤◌}
use Rattle.emit_relocate.proofs.Common.{◌⊎◌}
use Rattle.std.specs.Prelude.{None}
use Rattle.ldscript.specs.statements.declared.numbering.DirectiveAt as code_directive
use Rattle.ldmodel.specs.Layout.{ScriptSymbol}
use Rattle.ldmodel.specs.declared.script_symbol.ScriptSymbol as code
use Rattle.symres.specs.SymbolTable.{SymbolTableState}
use Rattle.place.proofs.TermNumbers.{symbol_at, symbol_named_by}
use Rattle.place.specs.terms.LayoutSymbols.{AreValuesOf, IsFound, value_of}
use Rattle.place.specs.terms.Tables.{entry_under, symbol_number}
use Rattle.symres.specs.table.State.{AreDistinct, slot}
use Rattle.emit_relocate.specs.ScriptValues.{AreScriptValues, value_in}
use Rattle.emit_relocate.specs.declared.script_values.ScriptValues.{ScriptValues}
use Rattle.emit_relocate.proofs.NumbersWithCases.{case_within}

pub take_more : {X : Type 0} (xs : List X) (i : ℕ) (x : X) → i < length xs → get_or xs i x ≡ x
    → take (i + 1) xs ≡ take i xs ++ x ∷ []
take_more xs i x within here =
    let suc_is : suc i ≡ i + 1 = omega arith in
    ap (λ n. take n xs) (sym suc_is) ∙ (take-suc xs i x within ∙ ap (λ y. take i xs ++ y ∷ []) here)

-- one more symbol of a layout
pub more_values : (script : List Statement) (symbols : List code.ScriptSymbol) (i : ℕ) (x : code.ScriptSymbol)
    (old new : List (Option ℕ)) → i < length symbols → get_or symbols i x ≡ x
    → ((xs : List ScriptSymbol) → AreValuesOf script old xs → AreValuesOf script new (xs ++ symbol_of script x ∷ []))
    → AreValuesOf script old (map (symbol_of script) (take i symbols))
    → AreValuesOf script new (map (symbol_of script) (take (i + 1) symbols))
more_values script symbols i x old new within here step h =
    let more : map (symbol_of script) (take (i + 1) symbols)
    ≡ map (symbol_of script) (take i symbols) ++ symbol_of script x ∷ [] =
    ap (map (symbol_of script)) (take_more symbols i x within here)
    ∙ map-append (symbol_of script) (take i symbols) (x ∷ []) in
    subst (λ (xs : List ScriptSymbol). AreValuesOf script new xs) (sym more)
    (step (map (symbol_of script) (take i symbols)) h)

-- the command that a symbol is found by is one of the script
pub found_inside : (script : List Statement) (x : code.ScriptSymbol) → IsFound script x
    → x.command.0 < length (all_directives script)
found_inside script x found =
    let f = symbol_at script (name_given_by script x.command.0) x.command.0 found in omega (arith, f.here, f.inside)

pub none_there : (o : Option ℕ) → is_some o ≡ false → o ≡ None
none_there None e = refl
none_there (Some v) e = absurd (true≢false e)

pub some_there : (o : Option ℕ) → is_some o ≡ true → (v : ℕ) × (o ≡ Some v)
some_there None e = absurd (true≢false (sym e))
some_there (Some v) e = (v, refl)

all_none : (n k : ℕ) → let none : Option ℕ = None in get_or (replicate n none) k none ≡ none
all_none zero k = refl
all_none (suc n) zero = refl
all_none (suc n) (suc k) = all_none n k

none_under : (n : ℕ) (r : Option ℕ) → entry_under {X = ℕ} (replicate n None) r ≡ None
none_under n None = refl
none_under n (Some k) = all_none n k

pub no_values : (script : List Statement) (n : ℕ) → AreValuesOf script (replicate n None) []
no_values script n = record { found = λ name. none_under n (symbol_number script name) }

-- those of a whole layout
pub all_values : (script : List Statement) (s : Layout) (p : Places) (v : ScriptValues) (i : ℕ)
    → v.script.now ≡ script → AreOf script s p → length p.symbols ≤ i
    → AreValuesOf script v.values.items (map (symbol_of script) (take i p.symbols)) → AreScriptValues s v
all_values script s p v i same are past h = record {
  found = λ name.
      ap (λ (t : List Statement). entry_under v.values.items (symbol_number t name)) same
      ∙ (h.found name
      ∙ ap (λ (xs : List ScriptSymbol). value_of xs name)
      (ap (map (symbol_of script)) (take_all i p.symbols past) ∙ are.symbols));
}

some_same : {X : Type 0} (x y : X) → Some x ≡ Some y → x ≡ y
some_same x y h = cc

-- a value is put under a key
pub put_under : (a : SymbolTableState) (key : ℕ) (name : List ℕ) (value : Option ℕ) (old new : List (Option ℕ))
    → AreDistinct a.names → IsNamed a.names key name → HasPlaces a old → new ≡ set old key value
    → IsPut a name value old new
put_under a key name value old new distinct named places is = record {
  long = ap length is ∙ length-set old key value;
  here = λ k h.
      let same : key ≡ k = distinct key k name named h in
      ap (λ (t : List (Option ℕ)). get_or t k None) is
      ∙ (ap (λ n. get_or (set old key value) n None) (sym same)
      ∙ get_or-set_same old key value None (places key name named));
  others = λ k other h ne.
      ap (λ (t : List (Option ℕ)). get_or t k None) is
      ∙ get_or-set_other old key k value None
      (λ same. ne (some_same other name (sym h ∙ (ap (slot a.names) same ∙ named))));
}

-- the name of a command, as the code has it
pub called_here : (script : List Statement) (commands : List code_directive.DirectiveAt) (i : ℕ) (x :
    code_directive.DirectiveAt)
    → i < length commands → x ≡ get_or commands i x → shown_directives commands ≡ all_directives script
    → given_name x.command.now ≡ name_given_by script i
called_here script commands i x within is shown =
    let f : code_directive.DirectiveAt → DirectiveAt =
    λ (c : code_directive.DirectiveAt). record { line = c.line; command = c.command.now } in
    let there : slice_get commands i ≡ Some x = slice_get-get_or commands i x within ∙ ap Some (sym is) in
    let at : slice_get (all_directives script) i ≡ Some (f x) =
    ap (λ (cs : List DirectiveAt). slice_get cs i) (sym shown)
    ∙ (slice_get-map f commands i ∙ ap (option_map f) there) in
    sym (ap (λ (o : Option DirectiveAt). option_map_or (λ (c : DirectiveAt). given_name c.command) o []) at)

-- under the key of each name stands its value; or nothing, where none of the first commands gives it one
pub record Noted (a : SymbolTableState) (v : ScriptValues) (i : ℕ) (table : List (Option ℕ)) : Type 0 where
  pub places : HasPlaces a table
  pub values : (k : ℕ) (name : List ℕ) → IsNamed a.names k name
      → (get_or table k None ≡ value_in v name)
      ⊎ ((get_or table k None ≡ None) × ((j : ℕ) → symbol_number v.script.now name ≡ Some j → i ≤ j))

pub none_noted : (a : SymbolTableState) (v : ScriptValues) (n : ℕ) (table : List (Option ℕ))
    → ((k : ℕ) (name : List ℕ) → IsNamed a.names k name → HasCase a.cases k) → n ≡ length a.cases
    → table ≡ replicate n None → Noted a v 0 table
none_noted a v n table cases long is = record {
  places = λ k name named.
      subst (λ (t : List (Option ℕ)). k < length t) (sym is)
      (subst (λ m. k < m) (sym (length-replicate n None)) (case_within a.cases k n long (cases k name named)));
  values = λ k name named. inr (
    ap (λ (t : List (Option ℕ)). get_or t k None) is ∙ all_none n k,
    λ j h. omega arith,
  );
}

beyond : (i j : ℕ) → i ≤ j → (j ≡ i → ⊥) → i + 1 ≤ j
beyond i j at_least other =
    ⊎_elim (λ (more : i < j). omega (arith, more)) (λ (le : j ≤ i). absurd (other (omega (arith, le, at_least))))
    (cases_lt i j)

-- one more command
pub next_noted : (a : SymbolTableState) (v : ScriptValues) (i : ℕ) (called : List ℕ) (old new : List (Option ℕ))
    → called ≡ name_given_by v.script.now i → IsPut a called (value_in v called) old new → Noted a v i old
    → Noted a v (i + 1) new
next_noted a v i called old new is put h = record {
  places = λ k name named. omega (arith, h.places k name named, put.long);
  values = λ k name named. go k name named (bytes_eq name called) refl (h.values k name named);
}
  where
    go : (k : ℕ) (name : List ℕ) → IsNamed a.names k name → (b : Bool) → bytes_eq name called ≡ b
        → (get_or old k None ≡ value_in v name)
        ⊎ ((get_or old k None ≡ None) × ((j : ℕ) → symbol_number v.script.now name ≡ Some j → i ≤ j))
        → (get_or new k None ≡ value_in v name)
        ⊎ ((get_or new k None ≡ None) × ((j : ℕ) → symbol_number v.script.now name ≡ Some j → i + 1 ≤ j))
    go k name named true e was =
        let same : name ≡ called = (bytes_eq-Decides name called).0 e in
        inl (put.here k (subst (IsNamed a.names k) same named) ∙ ap (value_in v) (sym same))
    go k name named false e (inl was) =
        let other : name ≡ called → ⊥ = λ same. true≢false (sym ((bytes_eq-Decides name called).1 same) ∙ e) in
        inl (put.others k name named other ∙ was)
    go k name named false e (inr was) =
        let other : name ≡ called → ⊥ = λ same. true≢false (sym ((bytes_eq-Decides name called).1 same) ∙ e) in
        inr (
          put.others k name named other ∙ was.0,
          λ j n. ⊎_elim
              (λ (j_is : j ≡ i).
              absurd (other (sym (is ∙ (ap (name_given_by v.script.now) (sym j_is)
              ∙ symbol_named_by v.script.now name j n)))))
              (λ (ne : j ≡ i → ⊥). beyond i j (was.1 j n) ne)
              (cases_eq j i),
        )

-- all commands
pub all_noted : (a : SymbolTableState) (v : ScriptValues) (commands : List code_directive.DirectiveAt) (i : ℕ)
    (table : List (Option ℕ)) → ((k : ℕ) (name : List ℕ) → IsNamed a.names k name → HasCase a.cases k)
    → shown_directives commands ≡ all_directives v.script.now → length commands ≤ i → Noted a v i table
    → IsGivenTable a (value_in v) table
all_noted a v commands i table cases shown past h = record {
  cases = cases;
  given = λ k name named. go k name (h.values k name named);
}
  where
    inside : (name : List ℕ) (j : ℕ) → symbol_number v.script.now name ≡ Some j → j < length commands
    inside name j n =
        let f = symbol_at v.script.now name j n in
        let long : length (shown_directives commands) ≡ length commands =
        length-map commands (λ (c : code_directive.DirectiveAt). record { line = c.line; command = c.command.now }) in
        omega (arith, f.here, f.inside, ap length shown, long)

    unknown : (name : List ℕ) (o : Option ℕ) → symbol_number v.script.now name ≡ o
        → ((j : ℕ) → symbol_number v.script.now name ≡ Some j → i ≤ j) → value_in v name ≡ None
    unknown name None n later = ap (entry_under v.values.items) n
    unknown name (Some j) n later = absurd (omega (arith, inside name j n, later j n, past))

    go : (k : ℕ) (name : List ℕ)
        → (get_or table k None ≡ value_in v name)
        ⊎ ((get_or table k None ≡ None) × ((j : ℕ) → symbol_number v.script.now name ≡ Some j → i ≤ j))
        → get_or table k None ≡ value_in v name
    go k name (inl is) = is
    go k name (inr none) = none.0 ∙ sym (unknown name (symbol_number v.script.now name) refl none.1)

-- what is read past the end of a list
abbrev pub no_key : NamedKey
no_key = record { name = record { ref_ptr = (0, 0); now = [] }; key = record { 0 = 0 } }
