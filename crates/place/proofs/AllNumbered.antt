-- All entries of the rows of a project have numbers.
use Rattle.place.proofs.Common.{Contains, Each, Global, HaveNumbers, IndexedSection, InputSection, IsOfObject, IsOwned}
use Rattle.place.proofs.Common.{IsSome, IsTableOf, List, NamedObject, Option, Part, Project, Vec, [], all_entries}
use Rattle.place.proofs.Common.{all_of_each, ap, bytes_eq-Decides, drop, each_append, each_parts, eqb-true, flat_map}
use Rattle.place.proofs.Common.{input_sections, length, map, number_of, object_name, option_map_or, piece_in}
use Rattle.place.proofs.Common.{row_entries, rows_in, subst, sym, ℕ, ◌+◌, ◌<◌, ◌∙◌, ◌∷◌, ◌≡◌}
use Rattle.ldmodel.specs.Edits.{AreNamesDistinct}
use Rattle.ldmodel.specs.Rows as model
use Rattle.ldmodel.specs.declared.rows.Piece.{Piece}
use Rattle.gather.specs.declared.input_section_table.InputSectionTable.{InputSectionTable}
use Rattle.place.proofs.Numbers.{same_key}
use Rattle.place.proofs.Owned.{IsInput}

module _ (p : Project) (t : InputSectionTable) (distinct : AreNamesDistinct p.objects) (table : IsTableOf p t)
    (of_objects : (s : InputSection) → Contains (input_sections p) s → IsOfObject p s) where
  abbrev IsNumbered : IndexedSection → Type 0
  IsNumbered e = IsSome (number_of t e.object e.part)

  -- the part of an object that an input section is has its number
  part_numbered : (i : ℕ) (part : Part) → 0 < length (object_name p i) → IsInput p (object_name p i) part
      → IsSome (number_of t i part)
  part_numbered i part some k =
      let o = of_objects k.section k.among in
      let name : object_name p k.section.id.object ≡ object_name p i =
      ap (λ (m : Option NamedObject). option_map_or (λ (x : NamedObject). x.name) m []) o.at ∙ o.name ∙ k.object in
      let same : i ≡ k.section.id.object =
      eqb-true i k.section.id.object (same_key p distinct i k.section.id.object some
      ∙ (bytes_eq-Decides (object_name p i) (object_name p k.section.id.object)).1 (sym name)) in
      subst (λ (n : ℕ). IsSome (number_of t n part)) (sym same)
      (subst (λ (q : Part). IsSome (number_of t k.section.id.object q)) k.is (table.all k.section k.among))

  abbrev OfInput : model.Piece → Type 0
  OfInput x = IsInput p x.object x.part

  row_numbered : (n : ℕ) (row : List Piece) (starts : List ℕ) → Each (IsOwned p) (map (piece_in p) row)
      → Each OfInput (map (piece_in p) row) → Each IsNumbered (row_entries n row starts)
  row_numbered n [] starts h k = tt
  row_numbered n (x ∷ row) [] h k = tt
  row_numbered n (x ∷ row) (at ∷ starts) h k = (
    part_numbered x.section.object.0 x.section.part (h.0).some k.0,
    row_numbered n row starts h.1 k.1,
  )

  rows_numbered : (n : ℕ) (rows : List (Vec Piece Global)) (starts : List ℕ)
      → Each (IsOwned p) (flat_map (λ (row : List model.Piece). row) (rows_in p rows))
      → Each OfInput (flat_map (λ (row : List model.Piece). row) (rows_in p rows))
      → Each IsNumbered (all_entries n rows starts)
  rows_numbered n [] starts h k = tt
  rows_numbered n (row ∷ rows) starts h k =
      let rest : List model.Piece = flat_map (λ (r : List model.Piece). r) (rows_in p rows) in
      let owned = each_parts (IsOwned p) (map (piece_in p) row.items) rest h in
      let parts = each_parts OfInput (map (piece_in p) row.items) rest k in
      each_append IsNumbered (row_entries n row.items starts)
      (all_entries (n + 1) rows (drop (length row.items) starts)) (row_numbered n row.items starts owned.0 parts.0)
      (rows_numbered (n + 1) rows (drop (length row.items) starts) owned.1 parts.1)

  pub all_numbered : (rows : List (Vec Piece Global)) (starts : List ℕ)
      → rows_in p rows ≡ model.rows p → Each (IsOwned p) (flat_map (λ (row : List model.Piece). row) (model.rows p))
      → Each OfInput (flat_map (λ (row : List model.Piece). row) (model.rows p))
      → HaveNumbers t (all_entries 0 rows starts)
  all_numbered rows starts same owned parts =
      (all_of_each IsNumbered (all_entries 0 rows starts)
      (rows_numbered 0 rows starts
      (subst (λ r. Each (IsOwned p) (flat_map (λ (row : List model.Piece). row) r)) (sym same) owned)
      (subst (λ r. Each OfInput (flat_map (λ (row : List model.Piece). row) r)) (sym same) parts)))
