-- Symbols of the output, one by one.
use Rattle.emit_relocate.proofs.Common.{AddsIf, AddsSymbols, All, All-push, AreSources, Bool, Bor, Case, HasFacts}
use Rattle.emit_relocate.proofs.Common.{IsNamed, KeepsFacts, Layout, List, ObjectPlace, Option, OutputSymbol, Project}
use Rattle.emit_relocate.proofs.Common.{Some, SymbolRow, [], ap, cond, decision, decision_of, defined, definer_of}
use Rattle.emit_relocate.proofs.Common.{defines, false, get_or, is_defined, length, map-append, name_value, option_map}
use Rattle.emit_relocate.proofs.Common.{output_symbol, refl, same_Some, script_value, shown, shown_symbol, slice_get}
use Rattle.emit_relocate.proofs.Common.{slice_get_read, subst, sym, symbol_with, true, ℕ, ◌++◌, ◌<◌, ◌∙◌, ◌∷◌, ◌≡◌}
use Rattle.std.specs.Prelude.{None}
use Rattle.ldmodel.specs.OutputSymbols as model
use Rattle.ldmodel.specs.SymbolValues.{SymbolValue}
use Rattle.emit_relocate.specs.Values.{value_of}
use Rattle.emit_text.proofs.Definers.{defines_as}
use Rattle.emit_relocate.specs.NameRows.{Resolved, decided_row, resolved, shown_in, shown_resolved}
use Rattle.emit_relocate.specs.NameRows as model_row
use Rattle.emit_relocate.specs.ScriptValues.{value_in}
use Rattle.emit_relocate.specs.SymbolRows as rows
use Rattle.emit_relocate.specs.declared.symbols.Sources.{Sources}

-- it is the symbol of a name
same_symbol : (p : Project) (s : Layout) (x : OutputSymbol) → value_of (rows.value_in x.row) ≡ name_value p s x.name.now
    → shown_symbol p x ≡ output_symbol p s x.name.now
same_symbol p s x v =
    ap (λ (w : SymbolValue). let y : model.OutputSymbol =
    record { name = x.name.now; decision = decision p x.name.now; value = w } in y) v

module _ (p : Project) (s : Layout) (src : Sources) (h : AreSources p s src) (name : Bor (List ℕ)) where
  -- of a name with a key
  module _ (k : ℕ) (named : IsNamed src.symbol_table.now.names k name.now) (x : SymbolRow)
      (within : k < length src.rows.now) (read : x ≡ get_or src.rows.now k x) where
    is : shown_resolved x ≡ resolved p s name.now
    is =
        same_Some _ _
        (ap (option_map shown_resolved) (sym (slice_get_read src.rows.now (length src.rows.now) k x refl within read))
        ∙ h.rows k name.now named)

    pub named_symbol : shown_symbol p (symbol_with name x) ≡ output_symbol p s name.now
    named_symbol = same_symbol p s (symbol_with name x) (ap (λ (r : Resolved). r.row.value) is)

    pub named_facts : HasFacts p s (symbol_with name x)
    named_facts = record {
      definer = ap (λ (r : Resolved). r.definer) is;
      facts = ap (λ (r : Resolved). r.row.facts) is;
    }

  -- of another name
  module _ (case : Case ObjectPlace) (row : SymbolRow) (given : Option ℕ)
      (is : given ≡ value_in src.given.now name.now)
      (row_is : given ≡ script_value s name.now
      → shown_in row ≡ decided_row p s name.now (decision_of (λ key. key) case))
      (definer_is : rows.definer_in row ≡ definer_of (decision_of (λ key. key) case))
      (decided : decision_of (λ key. key) case ≡ decision p name.now) where
    by_script : shown_in row ≡ decided_row p s name.now (decision p name.now)
    by_script = row_is (is ∙ h.given.found name.now) ∙ ap (decided_row p s name.now) decided

    pub unnamed_symbol : shown_symbol p (symbol_with name row) ≡ output_symbol p s name.now
    unfolding name_value
    unnamed_symbol =
        same_symbol p s (symbol_with name row) (ap (λ (r : model_row.NameRow). r.value) by_script)

    pub unnamed_facts : HasFacts p s (symbol_with name row)
    unnamed_facts = record {
      definer = definer_is ∙ ap definer_of decided;
      facts = ap (λ (r : model_row.NameRow). r.facts) by_script;
    }

-- each key of a name has a row
pub has_row : (p : Project) (s : Layout) (src : Sources) (h : AreSources p s src) (name : List ℕ) (k : ℕ)
    → IsNamed src.symbol_table.now.names k name → None ≡ slice_get src.rows.now k → ⊥
has_row p s src h name k named e =
    let none : None ≡ Some (resolved p s name) = ap (option_map shown_resolved) e ∙ h.rows k name named in
    cc

-- a symbol that was added if something defines its name is in the output if its name stands for something
pub adds_one : (p : Project) (s : Layout) (x : OutputSymbol) (old new : List OutputSymbol)
    → shown_symbol p x ≡ output_symbol p s x.name.now → HasFacts p s x
    → AddsIf (defines (rows.definer_in x.row)) x old new
    → AddsSymbols p s (x.name.now ∷ []) old new
adds_one p s x old new is facts added =
    ap (shown p) added ∙ map-append (shown_symbol p) old (cond (defines (rows.definer_in x.row)) (x ∷ []) [])
    ∙ ap (λ (ys : List model.OutputSymbol). shown p old ++ ys) (one (defines (rows.definer_in x.row))
    (ap defines facts.definer ∙ defines_as (decision p x.name.now)))
  where
    one : (b : Bool) → b ≡ is_defined (decision p x.name.now)
        → shown p (cond b (x ∷ []) []) ≡ defined (output_symbol p s x.name.now ∷ [])
    one true e =
        ap (λ (y : model.OutputSymbol). y ∷ []) is
        ∙ ap (λ (b : Bool). cond b (output_symbol p s x.name.now ∷ []) []) e
    one false e = ap (λ (b : Bool). cond b (output_symbol p s x.name.now ∷ []) []) e

-- one symbol more has what the symbol table says of it
pub keeps_one : (p : Project) (s : Layout) (x : OutputSymbol) (old new : List OutputSymbol) → new ≡ old ++ x ∷ []
    → HasFacts p s x → KeepsFacts p s old new
keeps_one p s x old new e one all =
    subst (λ (xs : List OutputSymbol). All (HasFacts p s) xs) (sym e)
    (All-push (HasFacts p s) old x all one)
