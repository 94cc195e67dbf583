-- Objects of the same outlines have the same names and the same symbols, place by place.
use Rattle.emit.proofs.Common.{DiffersInContents, List, NamedObject, NamedSymbol, None, ObjectOutline, Option, Project}
use Rattle.emit.proofs.Common.{Some, [], ap, map, map-map, object_name, object_outline, option_and_then, option_map}
use Rattle.emit.proofs.Common.{option_map_or, refl, slice_get, slice_get-map, sym, ℕ, ◌∙◌, ◌≡◌}
use Rattle.ldmodel.specs.Live.{symbol_at}
use Rattle.ldmodel.specs.Names.{symbol_tables}

abbrev outlined_symbols : ObjectOutline → List NamedSymbol
outlined_symbols x = x.symbols

symbol_in : (k : ℕ) (m : Option NamedObject) → option_and_then (λ (o : NamedObject). slice_get o.object.symbols k) m
    ≡ option_and_then (λ (x : ObjectOutline). slice_get x.symbols k) (option_map object_outline m)
symbol_in k None = refl
symbol_in k (Some o) = refl

name_in : (m : Option NamedObject) → option_map_or (λ (o : NamedObject). o.name) m []
    ≡ option_map_or (λ (x : ObjectOutline). x.name) (option_map object_outline m) []
name_in None = refl
name_in (Some o) = refl

module _ {p q : Project} {place : ℕ} (h : DiffersInContents p q place) where
  pub same_tables : symbol_tables p.objects ≡ symbol_tables q.objects
  same_tables =
      sym (map-map outlined_symbols object_outline p.objects)
      ∙ (ap (map outlined_symbols) h.outlines ∙ map-map outlined_symbols object_outline q.objects)

  same_places : (j : ℕ) → option_map object_outline (slice_get p.objects j)
      ≡ option_map object_outline (slice_get q.objects j)
  same_places j =
      sym (slice_get-map object_outline p.objects j)
      ∙ (ap (λ xs. slice_get xs j) h.outlines ∙ slice_get-map object_outline q.objects j)

  pub same_symbol_at : (j k : ℕ) → symbol_at p j k ≡ symbol_at q j k
  same_symbol_at j k =
      symbol_in k (slice_get p.objects j)
      ∙ (ap (option_and_then (λ (x : ObjectOutline). slice_get x.symbols k)) (same_places j)
      ∙ sym (symbol_in k (slice_get q.objects j)))

  pub same_object_name : (j : ℕ) → object_name p j ≡ object_name q j
  same_object_name j =
      name_in (slice_get p.objects j)
      ∙ (ap (λ m. option_map_or (λ (x : ObjectOutline). x.name) m []) (same_places j)
      ∙ sym (name_in (slice_get q.objects j)))

  -- two objects in one place have the same name
  pub same_names_at : (j : ℕ) (a b : NamedObject) → slice_get p.objects j ≡ Some a → slice_get q.objects j ≡ Some b
      → a.name ≡ b.name
  same_names_at j a b e f =
      sym (ap (λ m. option_map_or (λ (o : NamedObject). o.name) m []) e)
      ∙ (same_object_name j ∙ ap (λ m. option_map_or (λ (o : NamedObject). o.name) m []) f)
