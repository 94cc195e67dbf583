-- The map that is made of the values of a link.
use Rattle.emit.proofs.Common.{All, AllPairs, AreValues, Bool, Contains, Each, Err, Global, HasFacts, IfOk}
use Rattle.emit.proofs.Common.{IsPlacementView, Layout, List, Ok, Project, Result, SymbolTableState, Values, Vec, []}
use Rattle.emit.proofs.Common.{all_of_each, ap, arith, cond, each_of_all, entries_in, false, filter, get_or, inl, inr}
use Rattle.emit.proofs.Common.{length, map, number_or_0, output_sections, refl, rows, rows_in, shown_sections}
use Rattle.emit.proofs.Common.{shown_symbol, subst, suc, sym, true, value_in, value_of, zero, ℕ, ◌<◌, ◌∙◌, ◌∷◌, ◌≡◌}
use Rattle.std.specs.Ordering.{is_lt}
use Rattle.ldmodel.specs.MapText.{map_text}
use Rattle.ldmodel.specs.Names.{declared_names, decision}
use Rattle.ldmodel.specs.OutputSymbols as model
use Rattle.ldmodel.specs.OutputSymbols.{in_byte_order, is_before, is_defined, output_symbol, output_symbols}
use Rattle.ldmodel.specs.SymbolValues.{SymbolValue}
use Rattle.place.specs.LinkLayout.{IsLinkLayout}
use Rattle.place.specs.declared.link_layout.LinkLayout.{LinkLayout}
use Rattle.place.specs.sections.OverlapFaults.{AreOutputs}
use Rattle.emit_relocate.specs.declared.value.SymbolValue as code
use Rattle.emit_relocate.specs.declared.value.SymbolValue.TheVariants as value
use Rattle.emit_text.specs.MapOf.{AreSymbolsOf, IsMapOf, IsSymbolOf, IsValue, symbol_names}
use Rattle.emit_text.specs.declared.maps.MapParts.{MapParts}
use Rattle.emit_text.specs.declared.symbols.MapSymbol.{MapSymbol}
use Rattle.emit_relocate.specs.declared.values.OutputSymbol.{OutputSymbol}
use Rattle.emit.specs.Listed.{map_symbol, number_of}
use Rattle.emit_text.proofs.ByteOrder.{Asc, Below, In, Lt, Name, contained_in, distinct_once, filtered_asc, filtered_in}
use Rattle.emit_text.proofs.ByteOrder.{in_contained, in_sorted, sorted_asc, sorted_in}

abbrev stands : Project → Name → Bool
stands p z = is_defined (decision p z)

abbrev defined : model.OutputSymbol → Bool
defined x = is_defined x.decision

abbrev name_of : model.OutputSymbol → Name
name_of x = x.name

-- the names of the symbols of the output
names_listed : (p : Project) (s : Layout) (xs : List Name)
    → map name_of (filter defined (map (output_symbol p s) xs)) ≡ filter (stands p) xs
names_listed p s [] = refl
names_listed p s (x ∷ xs) = go (stands p x) (names_listed p s xs)
  where
    rest : List model.OutputSymbol
    rest = filter defined (map (output_symbol p s) xs)

    go : (b : Bool) → map name_of rest ≡ filter (stands p) xs
        → map name_of (cond b (output_symbol p s x ∷ rest) rest) ≡ cond b (x ∷ filter (stands p) xs)
        (filter (stands p) xs)
    go true e = ap (λ (ys : List Name). x ∷ ys) e
    go false e = e

-- a symbol of the output is that of its name, which is declared
record IsListed (p : Project) (s : Layout) (y : model.OutputSymbol) : Type 0 where
  is : y ≡ output_symbol p s y.name
  declared : In y.name (declared_names p)

each_listed : (p : Project) (s : Layout) (xs : List Name) → ((z : Name) → In z xs → In z (declared_names p))
    → Each (IsListed p s) (filter defined (map (output_symbol p s) xs))
each_listed p s [] h = tt
each_listed p s (x ∷ xs) h = go (stands p x) (each_listed p s xs (λ z i. h z (inr i)))
  where
    rest : List model.OutputSymbol
    rest = filter defined (map (output_symbol p s) xs)

    go : (b : Bool) → Each (IsListed p s) rest → Each (IsListed p s) (cond b (output_symbol p s x ∷ rest) rest)
    go true e = (record { is = refl; declared = h x (inl refl) }, e)
    go false e = e

all_listed : (p : Project) (s : Layout) → Each (IsListed p s) (output_symbols p s)
unfolding output_symbols
all_listed p s = each_listed p s (in_byte_order (declared_names p)) (λ z i. in_sorted z (declared_names p) i)

all_names : (p : Project) (s : Layout) → map name_of (output_symbols p s)
    ≡ filter (stands p) (in_byte_order (declared_names p))
unfolding output_symbols
all_names p s = names_listed p s (in_byte_order (declared_names p))

names_once : (p : Project) → Asc (in_byte_order (declared_names p))
unfolding declared_names
names_once p = sorted_asc (declared_names p) (distinct_once _)

names_asc : (p : Project) (s : Layout) → Asc (map name_of (output_symbols p s))
names_asc p s =
    subst Asc (sym (all_names p s)) (filtered_asc (stands p) (in_byte_order (declared_names p)) (names_once p))

-- ---- those of the code

value_is : (v : code.SymbolValue) → IsValue (value_of v) (number_of v)
value_is (value.Number x) = refl
value_is value.NotDefined = refl
value_is value.NotInOutput = refl

symbol_is : (p : Project) (s : Layout) (x : OutputSymbol) → HasFacts p s x → IsListed p s (shown_symbol p x)
    → IsSymbolOf p s (map_symbol x)
symbol_is p s x facts h = record {
  definer = facts.definer;
  value = λ d.
      subst (λ (v : SymbolValue). IsValue v (number_of (value_in x.row)))
      (ap (λ (y : model.OutputSymbol). y.value) h.is)
      (value_is (value_in x.row));
  declared = λ d. contained_in x.name.now (declared_names p) h.declared;
}

symbols_are : (p : Project) (s : Layout) (xs : List OutputSymbol) → Each (HasFacts p s) xs
    → Each (IsListed p s) (map (shown_symbol p) xs) → Each (IsSymbolOf p s) (map map_symbol xs)
symbols_are p s [] facts h = tt
symbols_are p s (x ∷ xs) facts h = (symbol_is p s x facts.0 h.0, symbols_are p s xs facts.1 h.1)

before_from : (a b : Name) → Lt a b → is_before a b ≡ true
before_from a b h = ap is_lt h

below_at : (x : Name) (xs : List MapSymbol) (j : ℕ) (d : MapSymbol) → Below x (symbol_names xs) → j < length xs
    → is_before x (get_or xs j d).name.now ≡ true
below_at x [] j d b h = absurd (omega (arith, h))
below_at x (y ∷ ys) zero d b h = before_from x y.name.now b.0
below_at x (y ∷ ys) (suc j) d b h = below_at x ys j d b.1 (omega (arith, h))

pairs_from : (xs : List MapSymbol) → Asc (symbol_names xs)
    → AllPairs (λ (x y : MapSymbol). is_before x.name.now y.name.now ≡ true) xs
pairs_from xs a i j d l h = go xs a i j l h
  where
    go : (ys : List MapSymbol) → Asc (symbol_names ys) → (i j : ℕ) → i < j → j < length ys
        → is_before (get_or ys i d).name.now (get_or ys j d).name.now ≡ true
    go [] a i j l h = absurd (omega (arith, h))
    go (y ∷ ys) a i zero l h = absurd (omega (arith, l))
    go (y ∷ ys) a zero (suc j) l h = below_at y.name.now ys j d a.0 (omega (arith, h))
    go (y ∷ ys) a (suc i) (suc j) l h = go ys a.1 i j (omega (arith, l)) (omega (arith, h))

same_names : (p : Project) (xs : List OutputSymbol)
    → symbol_names (map map_symbol xs) ≡ map name_of (map (shown_symbol p) xs)
same_names p [] = refl
same_names p (x ∷ xs) = ap (λ (ys : List Name). x.name.now ∷ ys) (same_names p xs)

code_names : (p : Project) (s : Layout) (xs : List OutputSymbol) → map (shown_symbol p) xs ≡ output_symbols p s
    → symbol_names (map map_symbol xs) ≡ map name_of (output_symbols p s)
code_names p s xs same = same_names p xs ∙ ap (map name_of) same

are_symbols : (p : Project) (s : Layout) (xs : List OutputSymbol) → map (shown_symbol p) xs ≡ output_symbols p s
    → All (HasFacts p s) xs → AreSymbolsOf p s (map map_symbol xs)
are_symbols p s xs same facts = record {
  each = all_of_each (IsSymbolOf p s) (map map_symbol xs)
      (symbols_are p s xs (each_of_all (HasFacts p s) xs facts)
      (subst (Each (IsListed p s)) (sym same) (all_listed p s)));
  order = pairs_from (map map_symbol xs) (subst Asc (sym (code_names p s xs same)) (names_asc p s));
}

all_there : (p : Project) (s : Layout) (xs : List OutputSymbol) (name : Name)
    → map (shown_symbol p) xs ≡ output_symbols p s → Contains (declared_names p) name → stands p name ≡ true
    → Contains (symbol_names (map map_symbol xs)) name
all_there p s xs name same declared is =
    subst (λ (ys : List Name). Contains ys name) (sym (code_names p s xs same ∙ all_names p s))
    (contained_in name (filter (stands p) (in_byte_order (declared_names p)))
    (filtered_in (stands p) name (in_byte_order (declared_names p))
    (sorted_in name (declared_names p) (in_contained name (declared_names p) declared)) is))

-- what the map is made of
pub record Makes (p : Project) (l : LinkLayout) (v : Values) (m : MapParts) (xs : List MapSymbol) : Type 0 where
  pub entry : m.entry ≡ number_or_0 (value_of v.entry)
  pub sections : shown_sections m.sections.now ≡ output_sections p.script
  pub outputs : (s : Layout) → IsLinkLayout p s l → AreOutputs p s.sections
  pub placement : (s : Layout) → IsLinkLayout p s l → IsPlacementView p.script s m.placement
  pub lent : rows_in p m.rows.now ≡ rows p
  pub placed : (s : Layout) → IsLinkLayout p s l → map entries_in s.sections ≡ rows p
  pub symbols : xs ≡ map map_symbol v.symbols.items

is_map : (p : Project) (s : Layout) (a : SymbolTableState) (l : LinkLayout) (v : Values) (m : MapParts)
    (xs : List MapSymbol) → Makes p l v m xs
    → IsLinkLayout p s l → AreValues p s a v → IsMapOf p s m xs
is_map p s a l v m xs h link_layout values = record {
  entry = h.entry ∙ ap number_or_0 values.entry;
  sections = h.sections;
  names = h.outputs s link_layout;
  placement = h.placement s link_layout;
  rows = h.lent ∙ sym (h.placed s link_layout);
  listed = subst (AreSymbolsOf p s) (sym h.symbols) (are_symbols p s v.symbols.items values.symbols
      values.facts);
  complete = λ name declared is.
      subst (λ (ys : List MapSymbol). Contains (symbol_names ys) name) (sym h.symbols)
      (all_there p s v.symbols.items name values.symbols declared is);
}

pub text_is : {E : Type 0} (p : Project) (l : LinkLayout) (v : Values) (m : MapParts) (xs : List MapSymbol)
    (r : Result (Vec ℕ Global) E) → Makes p l v m xs
    → ((s : Layout) → IsMapOf p s m xs → IfOk r (λ text. text.items ≡ map_text p s))
    → IfOk r (λ text. (s : Layout) (a : SymbolTableState) → IsLinkLayout p s l → AreValues p s a v
    → text.items ≡ map_text p s)
text_is p l v m xs (Ok text) h is = λ s a link_layout values. is s (is_map p s a l v m xs h link_layout values)
text_is p l v m xs (Err e) h is = tt
