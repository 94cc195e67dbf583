-- An input section in the output has the size that it has in its object, and its bytes in the file.
use Rattle.emit.proofs.Common.{All, All-append, All-contains, All-contains_itself, All-filter, All-map, All-nil}
use Rattle.emit.proofs.Common.{All-same, All-weaker, AreAscending, AreInFile, AreNamesDistinct, AreOfProfile, AreSized}
use Rattle.emit.proofs.Common.{Bool, Contains, Each, EndBelow, IfSome, InCommon, InTable, InputSection}
use Rattle.emit.proofs.Common.{InputStatementAt, IsRelocationOfProfile, IsSpread, Layout, LinkedSection, List}
use Rattle.emit.proofs.Common.{NamedObject, None, Option, Part, Piece, PlacedOutput, PlacedPiece, Project, Relocation}
use Rattle.emit.proofs.Common.{Section, SectionIndex, SectionKind, Site, Some, SymbolTableState, [], ap, arith}
use Rattle.emit.proofs.Common.{bytes_eq, bytes_eq-Decides, cases_lt, cond, entries_in, enumerate_from, eq-eqb, eqb-true}
use Rattle.emit.proofs.Common.{false, false≢true, filter, get_or, get_or-map, get_or_default, get_or_from_slice_get}
use Rattle.emit.proofs.Common.{has_name, inl, input_statements, inr, is_evaluated, is_part, is_same_part, known_link}
use Rattle.emit.proofs.Common.{length, length-map, live, map, member_of, none_in_nil, not, object_named, option_map_or}
use Rattle.emit.proofs.Common.{output_sections, placed_pieces, range_with_len, refl, rows, section_numbered, section_of}
use Rattle.emit.proofs.Common.{segments, slice_get, slice_get_within, subst, sym, true, width, ℕ, ◌&&◌, ◌<◌, ◌==◌, ◌∙◌}
use Rattle.emit.proofs.Common.{◌≡◌, ◌≤◌, ◌⊎◌}
use Rattle.ldmodel.specs.Gathering.{candidates, is_discarded}
use Rattle.ldmodel.specs.InputSections.{block_at, block_of, common_block, common_blocks, input_sections, is_same_entry}
use Rattle.ldmodel.specs.InputSections.{linked_input, object_inputs}
use Rattle.ldmodel.specs.Names.{Entry, Decision, Strong, Script, Common, Weak, Provided, Undefined, Duplicate, decision}
use Rattle.ldmodel.specs.Rows.{below, is_in_section, is_taken_by, piece_of, pieces_in, row, sorted_pieces, taken}
use Rattle.ldmodel.specs.Stayed.{LinkedPiece, linked_piece, linked_pieces, sites_in, sites_in_part, sites_in_section}
use Rattle.emit.proofs.Ending.{AreBelow, EndsBelow}
use Rattle.emit.proofs.InFile.{IsByContents, whole_range}
use Rattle.emit.proofs.RelocatedLists.{all_filter_map, all_flat_map, all_of_map, all_second, all_sorted, found}
use Rattle.emit.proofs.RelocatedLists.{found_passes, in_mapped, one_passes}

-- of sections with ascending numbers one has a number
one_numbered : (xs : List LinkedSection) → AreAscending xs → (x y : LinkedSection) → Contains xs x → Contains xs y
    → x.number.0 ≡ y.number.0 → x ≡ y
one_numbered xs up x y c d e = go (cases_lt c.0 d.0) (cases_lt d.0 c.0)
  where
    at : (k : ℕ) (z : LinkedSection) (w : Section) → k < length xs → get_or xs k z ≡ z
        → (get_or (map section_of xs) k w).number.0 ≡ z.number.0
    at k z w l is = ap (λ (v : Section). v.number.0) (get_or-map section_of xs k z w l ∙ ap section_of is)

    long : length (map section_of xs) ≡ length xs
    long = length-map xs section_of

    before : (k : ℕ) (z : LinkedSection) (n : ℕ) (w : LinkedSection) → k < n → n < length xs → get_or xs k z ≡ z
        → get_or xs n w ≡ w → z.number.0 < w.number.0
    before k z n w l m f g =
        let less = up k n (section_of z) l (omega (arith, m, long)) in
        omega (arith, less, at k z (section_of z) (omega (arith, l, m)) f, at n w (section_of z) m g)

    go : (c.0 < d.0) ⊎ (d.0 ≤ c.0) → (d.0 < c.0) ⊎ (c.0 ≤ d.0) → x ≡ y
    go (inl l) b = let less = before c.0 x d.0 y l d.1 c.2 d.2 in absurd (omega (arith, less, e))
    go (inr l) (inl m) = let less = before d.0 y c.0 x m c.1 d.2 c.2 in absurd (omega (arith, less, e))
    go (inr l) (inr m) =
        let same : c.0 ≡ d.0 = omega (arith, l, m) in
        sym c.2 ∙ ap (λ k. get_or xs k x) same ∙ get_or_default xs d.0 x y d.1 ∙ d.2

get_in : {X : Type 0} (xs : List X) (i : ℕ) (x : X) → slice_get xs i ≡ Some x → Contains xs x
get_in xs i x e = (i, slice_get_within xs i x e, get_or_from_slice_get xs i x x e)

and_left : (a b : Bool) → (a && b) ≡ true → a ≡ true
and_left true b e = refl
and_left false b e = absurd (false≢true e)

and_right : (a b : Bool) → (a && b) ≡ true → b ≡ true
and_right true b e = e
and_right false b e = absurd (false≢true e)

-- an input section has the size and the kind of the section of a site, which is one of an object of the project
record IsOfSite (p : Project) (z : PlacedPiece) (t : Site) : Type 0 where
  object : NamedObject
  among : Contains p.objects object
  section : Contains object.object.sections t.section
  relocation : Contains t.section.relocations t.relocation
  size : z.piece.size ≡ t.section.size
  kind : z.piece.kind ≡ t.section.kind

module _ (p : Project) (names : AreNamesDistinct p.objects)
    (numbers : All (λ (o : NamedObject). AreAscending o.object.sections) p.objects) where
  -- a size and a kind are those of the section that the part is, of the object of this name
  abbrev Sized : List ℕ → Part → ℕ → SectionKind → Type 0
  Sized object part size kind =
      (o : NamedObject) (k : SectionIndex) (y : LinkedSection) → Contains p.objects o → section_numbered o k ≡ Some y
      → bytes_eq object o.name ≡ true → is_same_part part (InTable k) ≡ true → (size ≡ y.size) × (kind ≡ y.kind)

  abbrev IsSized : InputSection → Type 0
  IsSized s = Sized s.object s.id.part s.size s.kind

  abbrev IsSizedPiece : Piece → Type 0
  IsSizedPiece x = Sized x.object x.part x.size x.kind

  abbrev IsSizedPlace : PlacedPiece → Type 0
  IsSizedPlace x = IsSizedPiece x.piece

  section_sized : (i : ℕ) (o : NamedObject) → Contains p.objects o → (z : LinkedSection)
      → Contains o.object.sections z → IsSized (linked_input i o z)
  section_sized i o c z d = λ q k y e f same part.
      let is : q ≡ o = one_passes (has_name o.name) p.objects q o (names o.name) e c
      ((bytes_eq-Decides q.name o.name).1 (sym ((bytes_eq-Decides o.name q.name).0 same)))
      ((bytes_eq-Decides o.name o.name).1 refl) in
      let among : Contains o.object.sections y =
      found (Contains o.object.sections) (λ (x : LinkedSection). x.number.0 == k.0) o.object.sections y
      (All-contains_itself o.object.sections)
      (ap (λ (w : NamedObject). section_numbered w k) (sym is) ∙ f) in
      let passes : (y.number.0 == k.0) ≡ true =
      found_passes (λ (x : LinkedSection). x.number.0 == k.0) q.object.sections y f in
      let number : z.number.0 ≡ y.number.0 = eqb-true z.number.0 k.0 part ∙ sym (eqb-true y.number.0 k.0 passes) in
      let own : z ≡ y = one_numbered o.object.sections
      (All-contains (λ (w : NamedObject). AreAscending w.object.sections) p.objects o numbers c) z y d among number in
      (ap (λ (w : LinkedSection). w.size) own, ap (λ (w : LinkedSection). w.kind) own)

  block_sized : (object : List ℕ) (e : Entry) (d : Decision) → IfSome (block_of object e d) IsSized
  block_sized object e (Common owner size alignment) = go (is_same_entry owner e)
    where
      go : (b : Bool) → IfSome (cond b (Some (common_block object owner size alignment)) None) IsSized
      go true = λ q k y f g same part. absurd (false≢true part)
      go false = tt
  block_sized object e (Strong x) = tt
  block_sized object e Script = tt
  block_sized object e (Weak x) = tt
  block_sized object e Provided = tt
  block_sized object e Undefined = tt
  block_sized object e Duplicate = tt

  own_sized : (i : ℕ) (o : NamedObject) → Contains p.objects o → All IsSized (object_inputs p i o)
  own_sized i o c =
      All-append IsSized (map (linked_input i o) o.object.sections) (common_blocks p i o)
      (All-map IsSized (linked_input i o) o.object.sections
      (All-weaker (Contains o.object.sections) (λ z. IsSized (linked_input i o z)) (λ z d. section_sized i o c z d)
      o.object.sections (All-contains_itself o.object.sections)))
      (all_filter_map IsSized (block_at p i o) (enumerate_from 0 o.object.symbols)
      (λ e. block_sized o.name (record { object = i; symbol = e.0 }) (decision p e.1.name)))

  inputs_sized : All IsSized (input_sections p)
  unfolding input_sections
  inputs_sized =
      all_flat_map IsSized (λ (o : ℕ × NamedObject). object_inputs p o.0 o.1) (enumerate_from 0 p.objects)
      (All-weaker (λ (o : ℕ × NamedObject). Contains p.objects o.1)
      (λ (o : ℕ × NamedObject). All IsSized (object_inputs p o.0 o.1)) (λ o c. own_sized o.0 o.1 c)
      (enumerate_from 0 p.objects)
      (all_second (Contains p.objects) 0 p.objects (All-contains_itself p.objects)))

  -- its sites have its size
  abbrev IsSizedLinked : LinkedPiece → Type 0
  IsSizedLinked x = (t : Site) → Contains (sites_in p x) t → x.size ≡ t.section.size

  module _ (s : Layout) (q : PlacedOutput) (z : PlacedPiece) (h : IsSizedPlace z) (t : Site) where
    abbrev linked : LinkedPiece
    linked = linked_piece p (segments s.sections) q z

    in_section : (k : SectionIndex) (o : NamedObject) (y : Option LinkedSection) → z.piece.part ≡ InTable k
        → object_named p z.piece.object ≡ Some o → section_numbered o k ≡ y
        → Contains (sites_in_section o linked y) t → IsOfSite p z t
    in_section k o None part named is c = absurd (none_in_nil t c)
    in_section k o (Some y) part named is c =
        let mapped = in_mapped (λ (r : Relocation). record { object = o; section = y; start = z.start; relocation = r })
        (filter (λ (r : Relocation). is_evaluated r.kind) y.relocations) t c in
        let passes : bytes_eq o.name z.piece.object ≡ true =
        found_passes (λ (w : NamedObject). bytes_eq w.name z.piece.object) p.objects o named in
        let among : Contains p.objects o =
        found (Contains p.objects) (λ (w : NamedObject). bytes_eq w.name z.piece.object) p.objects o
        (All-contains_itself p.objects) named in
        let own = h o k y among is
        ((bytes_eq-Decides z.piece.object o.name).1 (sym ((bytes_eq-Decides o.name z.piece.object).0 passes)))
        (ap (λ (w : Part). is_same_part w (InTable k)) part ∙ eq-eqb k.0 k.0 refl) in
        let section : y ≡ t.section = ap (λ (u : Site). u.section) mapped.gives in
        let relocation : mapped.source ≡ t.relocation = ap (λ (u : Site). u.relocation) mapped.gives in
        record {
          object = o;
          among = among;
          section = subst (λ w. Contains o.object.sections w) section
              (found (Contains o.object.sections) (λ (x : LinkedSection). x.number.0 == k.0) o.object.sections y
              (All-contains_itself o.object.sections) is);
          relocation = subst (λ (w : LinkedSection). Contains w.relocations t.relocation) section
              (subst (λ r. Contains y.relocations r) relocation
              (All-contains (Contains y.relocations) (filter (λ (r : Relocation). is_evaluated r.kind) y.relocations)
              mapped.source
              (All-filter (λ (r : Relocation). is_evaluated r.kind) (Contains y.relocations) y.relocations
              (All-contains_itself y.relocations)) mapped.among));
          size = own.0 ∙ ap (λ (w : LinkedSection). w.size) section;
          kind = own.1 ∙ ap (λ (w : LinkedSection). w.kind) section;
        }

    in_object : (k : SectionIndex) (o : Option NamedObject) → z.piece.part ≡ InTable k
        → object_named p z.piece.object ≡ o
        → Contains (option_map_or (λ (w : NamedObject). sites_in_section w linked (section_numbered w k)) o []) t
        → IsOfSite p z t
    in_object k None part named c = absurd (none_in_nil t c)
    in_object k (Some o) part named c = in_section k o (section_numbered o k) part named refl c

    in_part : (part : Part) → z.piece.part ≡ part → Contains (sites_in_part p linked part) t
        → IsOfSite p z t
    in_part (InTable k) is c = in_object k (object_named p z.piece.object) is refl c
    in_part (InCommon k) is c = absurd (none_in_nil t c)

    linked_of_site : Contains (sites_in p linked) t → IsOfSite p z t
    linked_of_site c = in_part z.piece.part refl c

  module _ (order : (test : InputSection → Bool) × (live p ≡ filter test (candidates p))) where
    live_sized : All IsSized (live p)
    live_sized =
        All-same IsSized (live p) (filter order.0 (candidates p)) order.1
        (All-filter order.0 IsSized (candidates p)
        (All-filter (λ s. not (is_discarded p s)) IsSized (input_sections p) inputs_sized))

    in_pieces : (k : ℕ) (i : ℕ × InputStatementAt) → All IsSizedPiece (pieces_in p k i)
    in_pieces k i = go (is_in_section k i.1.place)
      where
        go : (b : Bool) → All IsSizedPiece (cond b (sorted_pieces p i.0 i.1) [])
        go true =
            all_sorted IsSizedPiece (below i.1.input.sort) (taken p i.0)
            (All-map IsSizedPiece (piece_of i.0) (filter (is_taken_by p i.0) (live p))
            (All-filter (is_taken_by p i.0) IsSized (live p) live_sized))
        go false = All-nil IsSizedPiece

    row_sized : (k : ℕ) → All IsSizedPiece (row p k)
    row_sized k =
        all_flat_map IsSizedPiece (pieces_in p k) (enumerate_from 0 (input_statements p.script))
        (λ j d l. in_pieces k (get_or (enumerate_from 0 (input_statements p.script)) j d))

    rows_sized : All (All IsSizedPiece) (rows p)
    unfolding rows
    rows_sized =
        All-map (All IsSizedPiece) (row p) (range_with_len 0 (length (output_sections p.script)))
        (λ j d l. row_sized (get_or (range_with_len 0 (length (output_sections p.script))) j d))

    sections_sized : (s : Layout) → map entries_in s.sections ≡ rows p
        → All (λ (q : PlacedOutput). All IsSizedPlace q.pieces) s.sections
    sections_sized s placed =
        (All-weaker (λ (q : PlacedOutput). All IsSizedPiece (entries_in q))
        (λ (q : PlacedOutput). All IsSizedPlace q.pieces)
        (λ q h. all_of_map IsSizedPiece (λ (x : PlacedPiece). x.piece) q.pieces h) s.sections
        (all_of_map (All IsSizedPiece) entries_in s.sections
        (All-same (All IsSizedPiece) (map entries_in s.sections) (rows p) placed rows_sized)))

    places_sized : (s : Layout) → map entries_in s.sections ≡ rows p → All IsSizedPlace (placed_pieces s)
    places_sized s placed =
        all_flat_map IsSizedPlace (λ (q : PlacedOutput). q.pieces) s.sections (sections_sized s placed)

    pub pieces_sized : (s : Layout) → map entries_in s.sections ≡ rows p
        → AreSized (record { project = p; layout = s })
    unfolding linked_pieces
    pieces_sized s placed = λ x t c d.
        All-contains IsSizedLinked (linked_pieces p s) x
        (all_flat_map IsSizedLinked (λ (q : PlacedOutput). map (linked_piece p (segments s.sections) q) q.pieces)
        s.sections
        (All-weaker (λ (q : PlacedOutput). All IsSizedPlace q.pieces)
        (λ (q : PlacedOutput). All IsSizedLinked (map (linked_piece p (segments s.sections) q) q.pieces))
        (λ q h. All-map IsSizedLinked (linked_piece p (segments s.sections) q) q.pieces
        (All-weaker IsSizedPlace (λ z. IsSizedLinked (linked_piece p (segments s.sections) q z))
        (λ z k t d. (linked_of_site s q z k t d).size) q.pieces h)) s.sections (sections_sized s placed))) c t d

    -- where the relocations of each section are of the profile, and what stands in an output section decides about
    -- its bytes in the file
    module _ (s : Layout) (placed : map entries_in s.sections ≡ rows p) (spread : Each IsSpread s.sections)
        (contents : All IsByContents s.sections) (profile : AreOfProfile p)
        (wide : (x : LinkedPiece) (t : Site) → Contains (sites_in p x) t → 0 < width t.relocation.kind) where
      abbrev IsFiled : LinkedPiece → Type 0
      IsFiled x = (t : Site) → Contains (sites_in p x) t → x.range.length ≡ t.section.size

      one_filed : (q : PlacedOutput) → Contains s.sections q → (z : PlacedPiece) → Contains q.pieces z
          → IsFiled (linked_piece p (segments s.sections) q z)
      one_filed q c z d = λ t e.
          let sized = All-contains IsSizedPlace q.pieces z
          (All-contains (λ (w : PlacedOutput). All IsSizedPlace w.pieces) s.sections q (sections_sized s placed) c) d in
          let own = linked_of_site s q z sized t e in
          let of_profile = profile own.object t.section own.among own.section in
          let one = All-contains (IsRelocationOfProfile (length own.object.object.symbols) t.section.size)
          t.section.relocations t.relocation of_profile.each own.relocation in
          let some : 0 < z.piece.size =
          omega (arith, one.field, wide (linked_piece p (segments s.sections) q z) t e, own.size) in
          whole_range q (member_of IsSpread s.sections q spread c)
          (All-contains IsByContents s.sections q contents c) z d some
          (λ nobits.
          none_in_nil t.relocation
          (subst (λ rs. Contains rs t.relocation) (of_profile.none (sym own.kind ∙ nobits)) own.relocation)) p s
          ∙ own.size

      pub pieces_filed : AreInFile (record { project = p; layout = s })
      unfolding linked_pieces
      pieces_filed = λ x t c d.
          All-contains IsFiled (linked_pieces p s) x
          (all_flat_map IsFiled (λ (q : PlacedOutput). map (linked_piece p (segments s.sections) q) q.pieces) s.sections
          (All-weaker (Contains s.sections)
          (λ (q : PlacedOutput). All IsFiled (map (linked_piece p (segments s.sections) q) q.pieces))
          (λ q e. All-map IsFiled (linked_piece p (segments s.sections) q) q.pieces
          (All-weaker (Contains q.pieces) (λ z. IsFiled (linked_piece p (segments s.sections) q z))
          (λ z f. one_filed q e z f) q.pieces (All-contains_itself q.pieces))) s.sections
          (All-contains_itself s.sections))) c t d

    pub end_below : (s : Layout) → map entries_in s.sections ≡ rows p → All AreBelow s.sections → (a : SymbolTableState)
        → EndBelow (known_link p s a)
    end_below s placed below a = λ key o x y e f g.
        let part : is_part o.name (InTable x.number) y ≡ true =
        found_passes (is_part o.name (InTable x.number)) (placed_pieces s) y g in
        let size : y.piece.size ≡ x.size =
        (found IsSizedPlace (is_part o.name (InTable x.number)) (placed_pieces s) y (places_sized s placed) g o x.number
        x (get_in p.objects key.0 o e) f
        (and_left (bytes_eq y.piece.object o.name) (is_same_part y.piece.part (InTable x.number)) part)
        (and_right (bytes_eq y.piece.object o.name) (is_same_part y.piece.part (InTable x.number)) part)).0 in
        let under : EndsBelow y =
        found EndsBelow (is_part o.name (InTable x.number)) (placed_pieces s) y
        (all_flat_map EndsBelow (λ (q : PlacedOutput). q.pieces) s.sections below) g in
        omega (arith, under, size)
