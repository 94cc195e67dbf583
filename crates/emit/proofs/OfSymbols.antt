-- The symbols of the symbol table.
use Rattle.emit.proofs.Common.{AllZip, AreTablesFor, AreTablesOf, HasFacts, IsTableSymbol, Layout, List, None, Project}
use Rattle.emit.proofs.Common.{Some, [], ap, append-nil, arith, binding_number, cons_option, definer_in, definer_of}
use Rattle.emit.proofs.Common.{filter_map-append, get_or, is_weak, length, refl, subst, suc, sym, take, take-suc}
use Rattle.emit.proofs.Common.{value_in, value_of, valued, valued_in, zip_more, ℕ, ◌++◌, ◌+◌, ◌<◌, ◌∙◌, ◌∷◌, ◌≡◌}
use Rattle.ldmodel.specs.Names.{Decision, Strong, Script, Common, Weak, Provided, Undefined, Duplicate, decision}
use Rattle.ldmodel.specs.OutputSymbols as model
use Rattle.ldmodel.specs.Tail.{ValuedSymbol, kind_number, st_binding, with_value}
use Rattle.emit_image.specs.declared.symbols.SymbolTables.{SymbolTables}
use Rattle.emit_image.specs.declared.symbols.TableSymbol.{TableSymbol}
use Rattle.emit_relocate.specs.declared.value.SymbolValue.{SymbolValue}
use Rattle.emit_relocate.specs.declared.value.SymbolValue.TheVariants as value
use Rattle.emit_relocate.specs.NameRows.{Facts}
use Rattle.emit_relocate.specs.declared.values.OutputSymbol.{OutputSymbol}

-- a symbol is weak if what defines its name is
weak_as : (d : Decision) → binding_number (is_weak (definer_of d)) ≡ st_binding d
weak_as (Strong entry) = refl
weak_as Script = refl
weak_as (Common owner size alignment) = refl
weak_as (Weak entry) = refl
weak_as Provided = refl
weak_as Undefined = refl
weak_as Duplicate = refl

-- one symbol more, if it has a value
pub one_symbol : (p : Project) (s : Layout) (xs : List ValuedSymbol) (x : OutputSymbol) (v : ℕ)
    (y : TableSymbol) (old new : SymbolTables) → value_in x.row ≡ value.Number v
    → ((ys : List TableSymbol) → AreTablesOf ys old → AreTablesOf (ys ++ y ∷ []) new) → HasFacts p s x
    → y.name.now ≡ x.name.now
    → y.weak ≡ is_weak (definer_in x.row) → y.kind ≡ x.row.kind
    → y.section ≡ x.row.section → y.value ≡ v → y.size ≡ x.row.size
    → AreTablesFor p s xs old → AreTablesFor p s (xs ++ cons_option (valued p x) []) new
one_symbol p s xs x v y old new e pushed facts name weak kind section val size h =
    let z : ValuedSymbol =
    record { name = x.name.now; decision = decision p x.name.now; value = v } in
    let is : valued p x ≡ Some z =
    ap (λ (w : SymbolValue). let y : model.OutputSymbol =
    record { name = x.name.now; decision = decision p x.name.now; value = value_of w } in with_value y (value_of w))
    e in
    record {
      symbols = h.symbols ++ y ∷ [];
      each = subst (λ o. AllZip (IsTableSymbol p s) (xs ++ cons_option o []) (h.symbols ++ y ∷ [])) (sym is)
          (zip_more (IsTableSymbol p s) xs h.symbols z y h.each (record {
            name = name;
            binding = ap binding_number (weak ∙ ap is_weak facts.definer) ∙ weak_as (decision p x.name.now);
            type = ap kind_number kind ∙ ap (λ (f : Facts). f.type) facts.facts;
            section = section ∙ ap (λ (f : Facts). f.section) facts.facts;
            value = val;
            size = size ∙ ap (λ (f : Facts). f.size) facts.facts;
          }));
      tables = pushed h.symbols h.tables;
    }

-- none, if it has no value
pub no_symbol : (p : Project) (s : Layout) (xs : List ValuedSymbol) (x : OutputSymbol) (t : SymbolTables)
    → valued p x ≡ None → AreTablesFor p s xs t → AreTablesFor p s (xs ++ cons_option (valued p x) []) t
no_symbol p s xs x t e h =
    subst (λ o. AreTablesFor p s (xs ++ cons_option o []) t) (sym e)
    (subst (λ l. AreTablesFor p s l t) (sym (append-nil xs)) h)

-- before the first
pub no_symbols : (p : Project) (s : Layout) (t : SymbolTables) → AreTablesOf [] t → AreTablesFor p s [] t
no_symbols p s t h = record { symbols = []; each = tt; tables = h }

pub symbols_more : (p : Project) (s : Layout) (xs : List OutputSymbol) (k : ℕ) (x : OutputSymbol) (t : SymbolTables)
    → k < length xs → get_or xs k x ≡ x
    → AreTablesFor p s (valued_in p (take k xs) ++ cons_option (valued p x) []) t
    → AreTablesFor p s (valued_in p (take (k + 1) xs)) t
symbols_more p s xs k x t l e h =
    let suc_is : k + 1 ≡ suc k = omega arith in
    let more : take (k + 1) xs ≡ take k xs ++ x ∷ [] =
    ap (λ n. take n xs) suc_is ∙ take-suc xs k x l ∙ ap (λ y. take k xs ++ y ∷ []) e in
    subst (λ zs. AreTablesFor p s zs t)
    (sym (ap (valued_in p) more ∙ filter_map-append (valued p) (take k xs) (x ∷ []))) h
