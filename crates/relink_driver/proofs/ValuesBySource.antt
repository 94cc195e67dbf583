-- The values of the symbols of an object, by what they are read from.
use Rattle.relink_driver.proofs.Common.{AreNameValues, AreSeenIn, AreValueSources, InTable, IsIndexedLayout, IsLinkView}
use Rattle.relink_driver.proofs.Common.{IsSectionAddress, IsSymbolOf, KnownLink, Layout, LinkView, List, NamedObject}
use Rattle.relink_driver.proofs.Common.{NamedSymbol, None, ObjectPlace, Option, PlacedPiece, Project, SectionAddress}
use Rattle.relink_driver.proofs.Common.{SectionIndex, Some, Symbol, SymbolIndex, SymbolTableState, ValueSources, [], ap}
use Rattle.relink_driver.proofs.Common.{arith, enumerate_from, false, get_or, get_or-map, get_or_from_slice_get}
use Rattle.relink_driver.proofs.Common.{is_local, is_weak_binding, known_link, length, length-map, object_name}
use Rattle.relink_driver.proofs.Common.{option_map, option_map_or, or_weak, own_value, placed_part, referenced_value}
use Rattle.relink_driver.proofs.Common.{same_Some, slice_get, slice_get_within, subst, sym, symbol_tables, table_key}
use Rattle.relink_driver.proofs.Common.{true, unwrap_or, value_of, value_under, ℕ, ◌<◌, ◌∙◌, ◌≡◌}
use Rattle.std.proofs.lemmas.List.FromFn.{length-enumerate_from, get_or-enumerate_from}
use Rattle.ldmodel.specs.Arithmetic.{plus_modulo}
use Rattle.ldmodel.specs.SymbolValues as model
use Rattle.ldmodel.specs.SymbolValues.{address_in, name_value}
use Rattle.ldmodel.specs.declared.names.NameKey.{NameKey}
use Rattle.symres.specs.SymbolTable.{IsNameAt, IsSeenAt, IsSymbolTable}
use Rattle.emit.specs.relocate.Values.{address_from}
use Rattle.emit.specs.relocate.declared.value.SymbolValue as code
use Rattle.emit.specs.relocate.declared.value.SymbolValue.TheVariants.{NotDefined}

-- ---- symbols with keys

table_at : (objects : List NamedObject) (i : ℕ) (o : NamedObject) (t : ℕ × List NamedSymbol)
    → slice_get objects i ≡ Some o → (get_or (enumerate_from 0 (symbol_tables objects)) i t).1 ≡ o.object.symbols
table_at objects i o t e =
    let within : i < length objects = slice_get_within objects i o e in
    let many : length (symbol_tables objects) ≡ length objects =
    length-map objects (λ (y : NamedObject). y.object.symbols) in
    ap (λ (u : ℕ × List NamedSymbol). u.1)
    (get_or-enumerate_from 0 (symbol_tables objects) i t (omega (arith, within, many)))
    ∙ (get_or-map (λ (y : NamedObject). y.object.symbols) objects i o t.1 within
    ∙ ap (λ (y : NamedObject). y.object.symbols) (get_or_from_slice_get objects i o o e))

-- the symbols of an object that aren't local have keys
pub are_seen : (p : Project) (a : SymbolTableState) → IsSymbolTable p a → (place : ObjectPlace) (o : NamedObject)
    → slice_get p.objects place.0 ≡ Some o → AreSeenIn a place o.object.symbols
are_seen p a h place o e k x at seen =
    let tables : List (ℕ × List NamedSymbol) = enumerate_from 0 (symbol_tables p.objects) in
    let is = table_at p.objects place.0 o in
    subst (λ (ts : List (ℕ × List NamedSymbol)). IsSeenAt ts place.0 k) (sym h.objects) (record {
      within = omega (
        arith,
        slice_get_within p.objects place.0 o e,
        length-enumerate_from 0 (symbol_tables p.objects),
        length-map p.objects (λ (y : NamedObject). y.object.symbols),
      );
      symbol = λ t.
          subst (λ (xs : List NamedSymbol). k < length xs) (sym (is t e)) (slice_get_within o.object.symbols k x at);
      seen = λ t d.
          subst (λ (xs : List NamedSymbol). is_local (get_or xs k d).symbol.binding ≡ false) (sym (is t e))
          (subst (λ (y : NamedSymbol). is_local y.symbol.binding ≡ false)
          (sym (get_or_from_slice_get o.object.symbols k x d at)) seen);
    })

-- ---- the value of a local symbol

-- the address at an offset from where a section starts
pub address_is : (layout : Layout) (p : Project) (key : ObjectPlace) (n : SectionIndex) (a : Option SectionAddress)
    (offset : ℕ) → IsSectionAddress p layout (table_key key n) a
    → address_from (option_map (λ (x : SectionAddress). x.start) a) offset
    ≡ address_in (placed_part layout (object_name p key.0) (InTable n)) offset
address_is layout p key n None offset h = sym (ap (λ q. address_in q offset) h)
address_is layout p key n (Some x) offset h = go (placed_part layout (object_name p key.0) (InTable n)) h.0
  where
    go : (q : Option PlacedPiece) → option_map (λ (y : PlacedPiece). y.start) q ≡ Some x.start
        → model.Number (plus_modulo x.start offset) ≡ address_in q offset
    go None e = absurd (let none : ⊥ = cc in none)
    go (Some y) e = ap (λ n. model.Number (plus_modulo n offset)) (sym (same_Some _ _ e))

module _ (l : KnownLink) (s : ValueSources) (of : AreValueSources l s) (place : ObjectPlace) (index : SymbolIndex)
    (symbol : Symbol) (o : NamedObject) (x : NamedSymbol) (h : IsSymbolOf l place index symbol o x) where
  number_is : l.number place.0 ≡ place.0
  number_is = ap (λ (m : KnownLink). m.number place.0) of.link

  at_place : slice_get l.project.objects place.0 ≡ Some o
  at_place = ap (slice_get l.project.objects) (sym number_is) ∙ h.object_is

  name_is : object_name l.project place.0 ≡ o.name
  name_is = ap (λ (a : Option NamedObject). option_map_or (λ (y : NamedObject). y.name) a []) at_place

  -- a local symbol has its own value
  pub by_entry : (v : model.SymbolValue) → is_local symbol.binding ≡ true
      → v ≡ own_value l.layout (object_name l.project place.0) symbol.place symbol.value
      → v ≡ referenced_value l.project l.layout o x
  unfolding referenced_value
  by_entry v b e = rw (h.symbol_is, b) (e ∙ ap (λ n. own_value l.layout n symbol.place symbol.value) name_is)

  -- ---- the value of another

  -- its key has its name
  key_named : (n : ℕ) → IsNameAt s.symbol_table.now place.0 index.0 n → l.name n ≡ Some x.name
  key_named n named =
      let a = s.symbol_table.now in
      let t : ℕ × List NamedSymbol = (0, []) in
      let names : l.name n ≡ get_or a.names n None = ap (λ (m : KnownLink). m.name n) of.link in
      let table : (get_or a.objects place.0 t).1 ≡ o.object.symbols =
      ap (λ (ts : List (ℕ × List NamedSymbol)). (get_or ts place.0 t).1) of.symbol_table.objects
      ∙ table_at l.project.objects place.0 o t at_place in
      let entry : get_or (get_or a.objects place.0 t).1 index.0 x ≡ x =
      ap (λ (xs : List NamedSymbol). get_or xs index.0 x) table
      ∙ get_or_from_slice_get o.object.symbols index.0 x x h.entry_is in
      names ∙ subst (λ (y : NamedSymbol). get_or a.names n None ≡ Some y.name) entry (named t x)

  found : (m : Option code.SymbolValue) (v : model.SymbolValue) → option_map value_of m ≡ Some v
      → value_of (unwrap_or m NotDefined) ≡ v
  found None v e = absurd (let none : ⊥ = cc in none)
  found (Some w) v e = same_Some _ _ e

  -- the value under its key is that of its name
  pub by_name : (k : NameKey) (v : model.SymbolValue) → is_local symbol.binding ≡ false
      → IsNameAt s.symbol_table.now place.0 index.0 k.0
      → v ≡ or_weak (is_weak_binding symbol.binding) (value_of (value_under s.names.now k))
      → v ≡ referenced_value l.project l.layout o x
  unfolding referenced_value
  by_name k v b named e =
      let value : value_of (value_under s.names.now k) ≡ name_value l.project l.layout x.name =
      found (slice_get s.names.now k.0) (name_value l.project l.layout x.name)
      (of.names k.0 x.name (key_named k.0 named)) in
      rw (h.symbol_is, b) (e ∙ ap (or_weak (is_weak_binding symbol.binding)) value)

-- ---- the sources of the values of a link

-- they are those of a link whose names are known by the same view
pub sources_of : (p : Project) (layout : Layout) (a : SymbolTableState) (v : LinkView) (s : ValueSources)
    → IsLinkView (known_link p layout a) v → IsLinkView (known_link p layout s.symbol_table.now) v
    → IsSymbolTable p s.symbol_table.now → IsIndexedLayout p layout s.indexed_layout.now
    → AreNameValues (known_link p layout a) s.names.now → AreValueSources (known_link p layout a) s
sources_of p layout a v s one other symbol_table indexed_layout names = record {
  link = one.link ∙ sym other.link;
  symbol_table = symbol_table;
  indexed_layout = indexed_layout;
  names = names;
}
