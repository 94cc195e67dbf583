-- A symbol of an object of a project, among the names of its link.
use Rattle.gather.proofs.Common.{Bool, Case, HasCase, IsCaseOf, IsObjectAt, List, NamedObject, NamedSymbol, None}
use Rattle.gather.proofs.Common.{ObjectData, ObjectPlace, Option, Project, Some, Symbol, ap, arith, case_at, false}
use Rattle.gather.proofs.Common.{get_or, get_or-enumerate_from, get_or-map, get_or_from_slice_get, is_local, length}
use Rattle.gather.proofs.Common.{length-enumerate_from, length-map, map, not, option_map, refl, same_Some, slice_get}
use Rattle.gather.proofs.Common.{slice_get_within, subst, sym, symbol_tables, true, ℕ, ◌+◌, ◌<◌, ◌∙◌, ◌≡◌}
use Rattle.symres.specs.SymbolTable.{IsNameAt, IsSymbolTable, IsSeenAt, SymbolTableState}
use Rattle.symres.specs.table.State.{IsNamed}

abbrev Table : Type 0
Table = ℕ × List NamedSymbol

pub object_at : (p : Project) (i : ℕ) (object : ObjectData) → IsObjectAt p i object
    → (o : NamedObject) × (slice_get p.objects i ≡ Some o) × (o.object ≡ object)
object_at p i object h = go (slice_get p.objects i) refl h
  where
    go : (m : Option NamedObject) → slice_get p.objects i ≡ m → option_map (λ (o : NamedObject). o.object) m
        ≡ Some object → (o : NamedObject) × (slice_get p.objects i ≡ Some o) × (o.object ≡ object)
    go None e h = absurd (cc)
    go (Some o) e h = (o, e, same_Some o.object object h)

-- the symbol table of an object
pub table_at : (p : Project) (a : SymbolTableState) (i : ℕ) (o : NamedObject) (t : Table) → IsSymbolTable p a
    → slice_get p.objects i ≡ Some o → get_or a.objects i t ≡ (i, o.object.symbols)
table_at p a i o t symbol_table e =
    let within : i < length p.objects = slice_get_within p.objects i o e in
    let tables : List (List NamedSymbol) = symbol_tables p.objects in
    let many : length (symbol_tables p.objects) ≡ length p.objects =
    length-map p.objects (λ (o : NamedObject). o.object.symbols) in
    let from_0 : 0 + i ≡ i = omega arith in
    let here : get_or (symbol_tables p.objects) i t.1 ≡ o.object.symbols =
    get_or-map (λ (o : NamedObject). o.object.symbols) p.objects i o t.1 within
    ∙ ap (λ (x : NamedObject). x.object.symbols) (get_or_from_slice_get p.objects i o o e) in
    ap (λ (ts : List Table). get_or ts i t) symbol_table.objects
    ∙ (get_or-enumerate_from 0 (symbol_tables p.objects) i t (omega (arith, many, within))
    ∙ (ap (λ (n : ℕ). let u : Table = (n, get_or (symbol_tables p.objects) i t.1) in u) from_0
    ∙ ap (λ (ss : List NamedSymbol). let u : Table = (i, ss) in u) here))

module _ (p : Project) (a : SymbolTableState) (i n : ℕ) (object : ObjectData) (symbol_table : IsSymbolTable p a)
    (at : IsObjectAt p i object) where
  symbols_at : (t : Table) → (get_or a.objects i t).1 ≡ object.symbols
  symbols_at t =
      let o = object_at p i object at in
      ap (λ (u : Table). u.1) (table_at p a i o.0 t symbol_table o.1) ∙ ap (λ (x : ObjectData). x.symbols) o.2

  pub is_seen : n < length object.symbols
      → ((d : NamedSymbol) → is_local (get_or object.symbols n d).symbol.binding ≡ false) → IsSeenAt a.objects i n
  is_seen low seen =
      let o = object_at p i object at in
      let within : i < length p.objects = slice_get_within p.objects i o.0 o.1 in
      let many : length a.objects ≡ length p.objects =
      ap length symbol_table.objects ∙ (length-enumerate_from 0 (symbol_tables p.objects)
      ∙ length-map p.objects (λ (o : NamedObject). o.object.symbols)) in
      record {
        within = omega (arith, within, many);
        symbol = λ t. subst (λ (ss : List NamedSymbol). n < length ss) (sym (symbols_at t)) low;
        seen = λ t d.
            subst (λ (ss : List NamedSymbol). is_local (get_or ss n d).symbol.binding ≡ false) (sym (symbols_at t))
            (seen d);
      }

  pub case_is : (key : ℕ) (found : Option (Case ObjectPlace)) (d : NamedSymbol) → IsNameAt a i n key
      → HasCase a.cases key
      → found ≡ case_at a.cases key → is_local (get_or object.symbols n d).symbol.binding ≡ false
      → IsCaseOf p (get_or object.symbols n d) found
  case_is key found d name has is seen =
      let s : NamedSymbol = get_or object.symbols n d in
      let t : Table = (i, object.symbols) in
      let named : IsNamed a.names key s.name =
      subst (λ (ss : List NamedSymbol). IsNamed a.names key (get_or ss n d).name) (symbols_at t) (name t d) in
      subst (IsCaseOf p s) (sym (is ∙ has.1)) (seen, (symbol_table.sound key has.0 has.1).case s.name named)

-- a symbol without its name
pub unnamed : (object : ObjectData) (shown : List Symbol) (n : ℕ) (x : Symbol) (d : NamedSymbol)
    → shown ≡ map (λ (s : NamedSymbol). s.symbol) object.symbols → n < length object.symbols
    → get_or shown n x ≡ (get_or object.symbols n d).symbol
unnamed object shown n x d same within =
    ap (λ (ss : List Symbol). get_or ss n x) same
    ∙ get_or-map (λ (s : NamedSymbol). s.symbol) object.symbols n d x within

-- whether a symbol is local
pub declared : (object : ObjectData) (shown : List Symbol) (n : ℕ) (x : Symbol) (b : Bool) (d : NamedSymbol)
    → shown ≡ map (λ (s : NamedSymbol). s.symbol) object.symbols → n < length object.symbols
    → not (is_local (get_or shown n x).binding) ≡ not b → is_local (get_or object.symbols n d).symbol.binding ≡ b
declared object shown n x b d same within seen =
    not_same (is_local (get_or object.symbols n d).symbol.binding) b
    (subst (λ (s : Symbol). not (is_local s.binding) ≡ not b) (unnamed object shown n x d same within) seen)
  where
    not_same : (e f : Bool) → not e ≡ not f → e ≡ f
    not_same true true h = refl
    not_same true false h = absurd (cc)
    not_same false true h = absurd (cc)
    not_same false false h = refl
