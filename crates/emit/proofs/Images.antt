-- The image of a link, where the sections of one object were written over the image of another link.
use Rattle.emit.proofs.Common.{All, All-contains, AllZip, AreNamed, AreWritten, Bool, ComesOf, Contains, Each}
use Rattle.emit.proofs.Common.{EachLater, HasLocatedSections, InCommon, InTable, IsAsBefore, IsBare, IsInPlaceRewrite}
use Rattle.emit.proofs.Common.{IsLocatedSection, IsNothing, IsPlannedAt, IsSpread, IsWhole, KnownLink, Layout}
use Rattle.emit.proofs.Common.{LinkedSection, List, LocatedSection, NamedObject, Nobits, None, NotBoth, ObjectOutline}
use Rattle.emit.proofs.Common.{ObjectPlace, Option, Part, PlacedOutput, PlacedPiece, Project, Relocation, SectionIndex}
use Rattle.emit.proofs.Common.{Segment, Site, Some, Written, [], and_parts, ap, arith, at_place, byte_at, bytes_eq}
use Rattle.emit.proofs.Common.{bytes_eq-Decides, cases_lt, cond, covers, eq-eqb, eqb-true, false, false≢true, fault_at}
use Rattle.emit.proofs.Common.{fields_of, file_offset, filter, filter_map, find, find_mapped, find_only, first_or_later}
use Rattle.emit.proofs.Common.{flat_map_in, image, image_length, in_flat_map, in_map, inl, inr, is_evaluated, is_part}
use Rattle.emit.proofs.Common.{is_same_part, later_imply, later_of_map, length, linked, map, nat_le, nat_lt, none_in}
use Rattle.emit.proofs.Common.{none_in_nil, not, object_byte, object_named, object_outline, offset_in_file, option_map}
use Rattle.emit.proofs.Common.{option_map_or, part_byte, patch_of, patched_byte, placed_part, placed_pieces, range_of}
use Rattle.emit.proofs.Common.{refl, same_Some, section_byte, section_numbered, segments, site_field, sites_at}
use Rattle.emit.proofs.Common.{sites_of, sites_there, slice_get, slice_get-map, slice_index, subst, sym, true, ℕ}
use Rattle.emit.proofs.Common.{⊎_elim, ◌&&◌, ◌+◌, ◌-◌, ◌<◌, ◌==◌, ◌∙◌, ◌∷◌, ◌≡◌, ◌≤◌, ◌⊎◌}
use Rattle.std.proofs.lemmas.Bool.{le-leb, lt-ltb, and_from}
use Rattle.std.proofs.lemmas.List.FromFn.{fill_by_all, get_or-map-range_with_len, length-map-range_with_len}
use Rattle.ldmodel.specs.Stayed as model
use Rattle.ldmodel.specs.Stayed.{GoodLink, LinkedPiece, linked_piece, linked_pieces, range_in}
use Rattle.ldmodel_laws.specs.Outline.{SectionOutline, section_outline}
use Rattle.ldmodel_laws.proofs.Once.{later_map, names_later}
use Rattle.ldmodel_laws.proofs.PieceBytes.{byte_of_piece, one_name, same_name, covered}
use Rattle.emit_relocate.proofs.Lists.{partner_in, partner_of}
use Rattle.emit.proofs.Frame.{byte_same}
use Rattle.emit.proofs.Places.{Found, found}
use Rattle.emit.proofs.Planning.{sites_at_spot}
use Rattle.emit.proofs.Sites.{SpotPiece, spot_piece, spots_have_sites}

-- ---- lists of bytes

image_byte : (p : Project) (s : Layout) (o : ℕ) → o < image_length p s → slice_index (image p s) o ≡ byte_at p s o
unfolding image
image_byte p s o low = get_or-map-range_with_len (byte_at p s) 0 (image_length p s) o o 0 low (omega arith)

image_bytes : (p : Project) (s : Layout) → length (image p s) ≡ image_length p s
unfolding image
image_bytes p s = length-map-range_with_len (byte_at p s) 0 (image_length p s)

is_image : (p : Project) (s : Layout) (bytes : List ℕ) → length bytes ≡ image_length p s
    → ((o : ℕ) → o < image_length p s → slice_index bytes o ≡ byte_at p s o) → bytes ≡ image p s
unfolding image
is_image p s bytes l each = fill_by_all (byte_at p s) bytes (image_length p s) 0 l each

-- ---- a file range that is not empty is that of an input section with file bytes

record HasBytes (q : PlacedOutput) (y : PlacedPiece) (gs : List Segment) (r : model.FileRange) : Type 0 where
  bytes : q.has_file_bytes ≡ true
  offset : r.offset ≡ offset_in_file gs q y
  length : r.length ≡ y.piece.size

has_bytes : (gs : List Segment) (q : PlacedOutput) (y : PlacedPiece) (r : model.FileRange) → range_in gs q y ≡ r
    → 0 < r.length → HasBytes q y gs r
has_bytes gs q y r is some = go (q.has_file_bytes && not (y.piece.size == 0)) refl is
  where
    own : model.FileRange
    own = record { offset = file_offset gs q + (y.start - q.start); length = y.piece.size }

    none : model.FileRange
    none = record { offset = 0; length = 0 }

    go : (b : Bool) → (q.has_file_bytes && not (y.piece.size == 0)) ≡ b → cond b own none ≡ r → HasBytes q y gs r
    go true e f = record {
      bytes = (and_parts q.has_file_bytes (not (y.piece.size == 0)) e).0;
      offset = ap (λ (z : model.FileRange). z.offset) (sym f);
      length = ap (λ (z : model.FileRange). z.length) (sym f);
    }
    go false e f = let zero : r.length ≡ 0 = ap (λ (z : model.FileRange). z.length) (sym f) in
        absurd (omega (arith, zero, some))

module _ (p : Project) (s : Layout) (spread : Each IsSpread s.sections) (named : AreNamed s.sections) where
  -- the byte of an input section in the output
  linked_byte : (q : PlacedOutput) (y : PlacedPiece) (r : model.FileRange) (o : ℕ) → Contains s.sections q
      → Contains q.pieces y → range_in (segments s.sections) q y ≡ r → r.offset ≤ o → o < r.offset + r.length
      → byte_at p s o ≡ part_byte p s y.piece.object y.piece.part y.start (o - r.offset)
  linked_byte q y r o there among is low high =
      let k = has_bytes (segments s.sections) q y r is (omega (arith, low, high)) in
      let i : ℕ = o - r.offset in
      let at : offset_in_file (segments s.sections) q y + i ≡ o = omega (arith, k.offset, low) in
      ap (byte_at p s) (sym at)
      ∙ byte_of_piece p s q y i spread named there k.bytes among (omega (arith, k.length, low, high))

-- ---- names

-- the only object of a name is found by it
find_at : (os : List NamedObject) (j : ℕ) (o : NamedObject) → slice_get os j ≡ Some o
    → EachLater (λ (a b : NamedObject). bytes_eq a.name b.name ≡ false) os
    → find (λ (x : NamedObject). bytes_eq x.name o.name) os ≡ Some o
find_at os j o is apart =
    find_only (λ (x : NamedObject). bytes_eq x.name o.name) os o
    (later_imply (λ (a b : NamedObject). bytes_eq a.name b.name ≡ false)
    (NotBoth (λ (x : NamedObject). bytes_eq x.name o.name))
    (λ a b h. one_name a.name b.name o.name h) os apart)
    (at_place os j o is) (same_name o.name)

-- ---- what tests find, or not

none_found : {X : Type 0} (f : X → Bool) (xs : List X) (x : X) → find f xs ≡ None → Contains xs x → f x ≡ false
none_found f [] x e c = absurd (none_in_nil x c)
none_found {X} f (y ∷ ys) x e c = go (f y) refl e (first_or_later y ys x c) (λ d k. none_found f ys x d k)
  where
    go : (b : Bool) → f y ≡ b → cond b (Some y) (find f ys) ≡ None → (y ≡ x) ⊎ Contains ys x
        → (find f ys ≡ None → Contains ys x → f x ≡ false) → f x ≡ false
    go true t d k rest = absurd (let no : ⊥ = cc in no)
    go false t d (inl is) rest = sym (ap f is) ∙ t
    go false t d (inr k) rest = rest d k

outside_of : (at offset length : ℕ) → covers offset length at ≡ false → (at < offset) ⊎ (offset + length ≤ at)
outside_of at offset length e = elim (cases_lt at offset) [
  | inl x ↦ inl x
  | inr x ↦ elim (cases_lt at (offset + length)) [
    | inl y ↦ absurd (false≢true (sym e ∙ and_from (nat_le offset at) (nat_lt at (offset + length))
        (le-leb offset at x) (lt-ltb at (offset + length) y)))
    | inr y ↦ inr y
  ]
]

-- ---- a section without bytes of its own

bare_byte : (p : Project) (s : Layout) (o : NamedObject) (start i : ℕ) (x : LinkedSection) → IsBare x → x.kind ≡ Nobits
    → section_byte p s o start i x ≡ 0
bare_byte p s o start i x h e =
    ap (λ bytes. patched_byte bytes (fields_of p s o x start) i) (h.bytes e)
    ∙ ap (λ rs. patched_byte [] (filter_map (λ t. patch_of t (site_field p s t))
    (map (λ r. record { object = o; section = x; start = start; relocation = r })
    (filter (λ (r : Relocation). is_evaluated r.kind) rs))) i) (h.relocations e)

-- ---- the images

module _ (p : Project) (l : KnownLink) (place : ObjectPlace) (o : NamedObject) (h : IsInPlaceRewrite p l place o)
    (located : List LocatedSection) (has : HasLocatedSections l.project l.layout o located) (ws : List Written)
    (planned : AllZip (IsPlannedAt l o) located ws) (bare : All IsBare o.object.sections)
    (numbered : (j : ℕ) (x : LinkedSection) → slice_get o.object.sections j ≡ Some x
    → section_numbered o x.number ≡ Some x) where
  abbrev q : Project
  q = l.project

  abbrev s : Layout
  s = l.layout

  abbrev i : ℕ
  i = l.number place.0

  -- ---- the object in both projects

  found_after : object_named q o.name ≡ Some o
  found_after = find_at q.objects i o h.object_is (names_later q.objects h.names)

  record Before : Type 0 where
    object : NamedObject
    is : slice_get p.objects i ≡ Some object
    outline : object_outline object ≡ object_outline o

  before : Before
  before = go (slice_get p.objects i) refl
    where
      both : option_map object_outline (slice_get p.objects i) ≡ Some (object_outline o)
      both =
          sym (slice_get-map object_outline p.objects i) ∙ ap (λ os. slice_get os i) h.rewritten.outlines
          ∙ slice_get-map object_outline q.objects i ∙ ap (option_map object_outline) h.object_is

      go : (m : Option NamedObject) → slice_get p.objects i ≡ m → Before
      go None e =
          let none : None ≡ Some (object_outline o) = sym (ap (option_map object_outline) e) ∙ both in
          absurd (let no : ⊥ = cc in no)
      go (Some a) e = record {
        object = a;
        is = e;
        outline = same_Some _ _ (sym (ap (option_map object_outline) e) ∙ both);
      }

  abbrev a : NamedObject
  a = before.object

  name_is : a.name ≡ o.name
  name_is = ap (λ (x : ObjectOutline). x.name) before.outline

  -- names are as distinct before
  names_before : EachLater (λ (x y : NamedObject). bytes_eq x.name y.name ≡ false) p.objects
  names_before =
      later_of_map (λ (x y : ObjectOutline). bytes_eq x.name y.name ≡ false) object_outline p.objects
      (subst (EachLater (λ (x y : ObjectOutline). bytes_eq x.name y.name ≡ false)) (sym h.rewritten.outlines)
      (later_map object_outline (λ (x y : ObjectOutline). bytes_eq x.name y.name ≡ false) q.objects
      (names_later q.objects h.names)))

  found_before : object_named p o.name ≡ Some a
  found_before = ap (object_named p) (sym name_is) ∙ find_at p.objects i a before.is names_before

  -- a number stands for sections of one outline
  numbered_alike : (k : SectionIndex) → option_map section_outline (section_numbered a k)
      ≡ option_map section_outline (section_numbered o k)
  numbered_alike k =
      sym (find_mapped (λ (x : SectionOutline). x.number.0 == k.0) section_outline a.object.sections)
      ∙ ap (λ (x : ObjectOutline). find (λ (z : SectionOutline). z.number.0 == k.0) x.sections) before.outline
      ∙ find_mapped (λ (x : SectionOutline). x.number.0 == k.0) section_outline o.object.sections

  -- ---- an input section of the object that was not written

  module _ (at : ℕ) (clear : (w : Written) → Contains ws w → (at < w.at) ⊎ (w.at + length w.bytes ≤ at))
      (c : PlacedOutput) (y : PlacedPiece) (there : Contains s.sections c) (among : Contains c.pieces y)
      (own : y.piece.object ≡ o.name) (low : (range_in (segments s.sections) c y).offset ≤ at)
      (high : at < (range_in (segments s.sections) c y).offset + (range_in (segments s.sections) c y).length) where
    -- it is NOBITS, if it is a section
    module _ (j : ℕ) (x : LinkedSection) (x_is : slice_get o.object.sections j ≡ Some x)
        (part_is : y.piece.part ≡ InTable x.number) where
      is_there : is_part o.name (InTable x.number) y ≡ true
      is_there =
          and_from (bytes_eq y.piece.object o.name) (is_same_part y.piece.part (InTable x.number))
          ((bytes_eq-Decides y.piece.object o.name).1 own)
          (ap (λ m. is_same_part m (InTable x.number)) part_is ∙ eq-eqb x.number.0 x.number.0 refl)

      by_plan : (t : LocatedSection) → Contains located t → t.index.0 ≡ j → x.kind ≡ Nobits
      by_plan t in_spots index =
          let k : IsLocatedSection q s o t = All-contains (IsLocatedSection q s o) located t has.each in_spots in
          let w = partner_in (IsPlannedAt l o) located ws t planned in_spots in
          let r : IsPlannedAt l o t w.partner = w.related in
          let first : k.section ≡ x = same_Some _ _
          (sym k.section_is ∙ ap (slice_get o.object.sections) index ∙ x_is) in
          let second : r.section ≡ x = same_Some _ _
          (sym r.section_is ∙ ap (slice_get o.object.sections) index ∙ x_is) in
          let range : range_in (segments s.sections) c y ≡ range_of t.range =
          (k.stands (linked_piece q (segments s.sections) c y)
          (linked (record { project = q; layout = s }) c y there among) own
          (part_is ∙ ap (λ (z : LinkedSection). InTable z.number) (sym first))).1 in
          let from : (range_in (segments s.sections) c y).offset ≡ t.range.offset =
          ap (λ (z : model.FileRange). z.offset) range in
          let long : (range_in (segments s.sections) c y).length ≡ t.range.length =
          ap (λ (z : model.FileRange). z.length) range in
          ⊎_elim
          (λ (n : IsNothing r.section.kind t.range w.partner).
          ⊎_elim (λ none. absurd (omega (arith, none, from, long, low, high)))
          (λ nobits. ap (λ (z : LinkedSection). z.kind) (sym second) ∙ nobits) n.none)
          (λ (m : IsWhole r.section.kind r.section.bytes t.range r.run w.partner).
          let starts : w.partner.at ≡ t.range.offset = ap (λ (z : Written). z.at) m.is in
          let many : length w.partner.bytes ≡ length r.section.bytes = ap (λ (z : Written). length z.bytes) m.is in
          ⊎_elim (λ less. absurd (omega (arith, less, starts, from, low)))
          (λ more. absurd (omega (arith, more, starts, many, m.long, from, long, high)))
          (clear w.partner w.among))
          r.planned

      nobits : x.kind ≡ Nobits
      nobits = go (placed_part s o.name (InTable x.number)) refl
        where
          go : (m : Option PlacedPiece) → placed_part s o.name (InTable x.number) ≡ m → x.kind ≡ Nobits
          go None e = absurd (false≢true
              (sym (none_found (is_part o.name (InTable x.number)) (placed_pieces s) y e
              (flat_map_in (λ (d : PlacedOutput). d.pieces) s.sections c y there among)) ∙ is_there))
          go (Some z) e = let t = has.all j x z x_is e in by_plan t.0 t.1 t.2

    of_table : (k : SectionIndex) → y.piece.part ≡ InTable k → (n : ℕ) → object_byte p s k y.start n a
        ≡ object_byte q s k y.start n o
    of_table k part_is n = go (section_numbered a k) (section_numbered o k) refl refl
        (numbered_alike k)
      where
        go : (m m' : Option LinkedSection) → section_numbered a k ≡ m → section_numbered o k ≡ m'
            → option_map section_outline (section_numbered a k) ≡ option_map section_outline (section_numbered o k)
            → option_map_or (section_byte p s a y.start n) (section_numbered a k) 0
            ≡ option_map_or (section_byte q s o y.start n) (section_numbered o k) 0
        go None None e f same =
            ap (λ m. option_map_or (section_byte p s a y.start n) m 0) e
            ∙ sym (ap (λ m. option_map_or (section_byte q s o y.start n) m 0) f)
        go None (Some x) e f same =
            let none : None ≡ Some (section_outline x) = sym (ap (option_map section_outline) e) ∙ same
            ∙ ap (option_map section_outline) f in
            absurd (let no : ⊥ = cc in no)
        go (Some u) None e f same =
            let none : Some (section_outline u) ≡ None = sym (ap (option_map section_outline) e) ∙ same
            ∙ ap (option_map section_outline) f in
            absurd (let no : ⊥ = cc in no)
        go (Some u) (Some x) e f same =
            let alike : section_outline u ≡ section_outline x = same_Some _ _
            (sym (ap (option_map section_outline) e) ∙ same ∙ ap (option_map section_outline) f) in
            let test : LinkedSection → Bool = λ z. z.number.0 == k.0 in
            let found_u : Found test a.object.sections u = found test a.object.sections u e in
            let found_x : Found test o.object.sections x = found test o.object.sections x f in
            let number : k ≡ x.number = ap (λ n. record { 0 = n }) (sym (eqb-true x.number.0 k.0 found_x.passes)) in
            let none_of_x : x.kind ≡ Nobits =
            nobits found_x.place x found_x.is (part_is ∙ ap InTable number) in
            let none_of_u : u.kind ≡ Nobits = ap (λ (z : SectionOutline). z.kind) alike ∙ none_of_x in
            ap (λ m. option_map_or (section_byte p s a y.start n) m 0) e
            ∙ bare_byte p s a y.start n u
            (All-contains IsBare a.object.sections u (h.bare a before.is) found_u.among) none_of_u
            ∙ sym (bare_byte q s o y.start n x (All-contains IsBare o.object.sections x bare found_x.among) none_of_x)
            ∙ sym (ap (λ m. option_map_or (section_byte q s o y.start n) m 0) f)

    of_part : (part : Part) → y.piece.part ≡ part → (n : ℕ) → part_byte p s o.name part y.start n
        ≡ part_byte q s o.name part y.start n
    of_part (InCommon k) e n = refl
    of_part (InTable k) e n =
        ap (λ m. option_map_or (object_byte p s k y.start n) m 0) found_before ∙ of_table k e n
        ∙ sym (ap (λ m. option_map_or (object_byte q s k y.start n) m 0) found_after)

    same_in_piece : byte_at p s at ≡ byte_at q s at
    same_in_piece =
        let r : model.FileRange = range_in (segments s.sections) c y in
        linked_byte p s h.spread h.named c y r at there among refl low high
        ∙ ap (λ name. part_byte p s name y.piece.part y.start (at - r.offset)) own
        ∙ of_part y.piece.part refl (at - r.offset)
        ∙ sym (ap (λ name. part_byte q s name y.piece.part y.start (at - r.offset)) own)
        ∙ sym (linked_byte q s h.spread h.named c y r at there among refl low high)

  -- ---- a byte that was not written

  module _ (at : ℕ) (clear : (w : Written) → Contains ws w → (at < w.at) ⊎ (w.at + length w.bytes ≤ at)) where
    abbrev covers_it : LinkedPiece → Bool
    covers_it z = bytes_eq z.object o.name && covers z.range.offset z.range.length at

    same_in : (z : LinkedPiece) → Contains (linked_pieces q s) z → covers_it z ≡ true → byte_at p s at ≡ byte_at q s at
    unfolding linked_pieces
    same_in z c e =
        let in_section = in_flat_map (λ (d : PlacedOutput). map (linked_piece q (segments s.sections) d) d.pieces)
        s.sections z c in
        let d : PlacedOutput = in_section.origin in
        let in_piece = in_map (linked_piece q (segments s.sections) d) d.pieces z in_section.gives in
        let y : PlacedPiece = in_piece.origin in
        let own : covers_it (linked_piece q (segments s.sections) d y) ≡ true = ap covers_it in_piece.gives ∙ e in
        let r : model.FileRange = range_in (segments s.sections) d y in
        let both = and_parts (bytes_eq y.piece.object o.name) (covers r.offset r.length at) own in
        let inside = covered r.offset r.length at both.1 in
        same_in_piece at clear d y in_section.among in_piece.among
        ((bytes_eq-Decides y.piece.object o.name).0 both.0) inside.0 inside.1

    same_out : find covers_it (linked_pieces q s) ≡ None → byte_at p s at ≡ byte_at q s at
    same_out e = byte_same p q s i o h.rewritten h.frame h.spread h.named h.object_is at (λ z c own.
        outside_of at z.range.offset z.range.length
        (sym (ap (λ t. t && covers z.range.offset z.range.length at) ((bytes_eq-Decides z.object o.name).1 own))
        ∙ none_found covers_it (linked_pieces q s) z e c))

    pub same_unwritten : byte_at p s at ≡ byte_at q s at
    same_unwritten = go (find covers_it (linked_pieces q s)) refl
      where
        go : (m : Option LinkedPiece) → find covers_it (linked_pieces q s) ≡ m → byte_at p s at ≡ byte_at q s at
        go None e = same_out e
        go (Some z) e = let f : Found covers_it (linked_pieces q s) z = found covers_it (linked_pieces q s) z e in
            same_in z f.among f.passes

  -- ---- a byte that was written

  module _ (at : ℕ) (t : LocatedSection) (in_spots : Contains located t) (w : Written) (r : IsPlannedAt l o t w)
      (m : IsWhole r.section.kind r.section.bytes t.range r.run w) (above : w.at ≤ at)
      (below : at < w.at + length w.bytes) where
    k : IsLocatedSection q s o t
    k = All-contains (IsLocatedSection q s o) located t has.each in_spots

    piece : SpotPiece q s o t k
    piece = spot_piece q s o t k

    one_section : k.section ≡ r.section
    one_section = same_Some _ _ (sym k.section_is ∙ r.section_is)

    starts : w.at ≡ t.range.offset
    starts = ap (λ (z : Written). z.at) m.is

    many : length w.bytes ≡ length r.section.bytes
    many = ap (λ (z : Written). length z.bytes) m.is

    n : ℕ
    n = at - t.range.offset

    written_is : patched_byte w.bytes w.run (at - w.at) ≡ section_byte q s o t.start (at - t.range.offset) r.section
    written_is =
        ap (λ (z : Written). patched_byte z.bytes z.run (at - z.at)) m.is
        ∙ r.faultless.is_run.same r.section.bytes (at - t.range.offset)

    in_link : byte_at q s at ≡ section_byte q s o t.start (at - t.range.offset) r.section
    in_link =
        linked_byte q s h.spread h.named piece.q k.piece (range_of t.range) at piece.there piece.among piece.range_is
        (omega (arith, starts, above)) (omega (arith, starts, many, m.long, below))
        ∙ ap (λ name. part_byte q s name k.piece.piece.part k.piece.start (at - t.range.offset)) piece.object_is
        ∙ ap (λ part. part_byte q s o.name part k.piece.start (at - t.range.offset)) piece.part_is
        ∙ ap (λ start. part_byte q s o.name (InTable k.section.number) start (at - t.range.offset)) piece.start_is
        ∙ ap (λ z. option_map_or (object_byte q s k.section.number t.start (at - t.range.offset)) z 0) found_after
        ∙ ap (λ z. option_map_or (section_byte q s o t.start (at - t.range.offset)) z 0)
        (numbered t.index.0 k.section k.section_is)
        ∙ ap (section_byte q s o t.start (at - t.range.offset)) one_section

    pub same_written : patched_byte w.bytes w.run (at - w.at) ≡ byte_at q s at
    same_written = written_is ∙ sym in_link

  -- ---- all bytes

  module _ (new : List ℕ) (over : AreWritten ws (image p s) new) where
    of_written : (at : ℕ) → ComesOf ws new at → slice_index new at ≡ byte_at q s at
    of_written at c =
        let k = partner_of (IsPlannedAt l o) located ws c.origin planned c.among in
        let r : IsPlannedAt l o k.partner c.origin = k.related in
        ⊎_elim
        (λ (n : IsNothing r.section.kind k.partner.range c.origin).
        let none : length c.origin.bytes ≡ 0 = ap length n.bytes in absurd (omega (arith, none, c.above, c.below)))
        (λ (m : IsWhole r.section.kind r.section.bytes k.partner.range r.run c.origin).
        c.byte ∙ same_written at k.partner k.among c.origin r m c.above c.below)
        r.planned

    each_byte : (at : ℕ) → at < image_length q s → slice_index new at ≡ byte_at q s at
    each_byte at low =
        let short : at < image_length p s = subst (λ n. at < n) (sym h.frame.length) low in
        ⊎_elim (of_written at)
        (λ (k : IsAsBefore ws (image p s) new at).
        k.byte ∙ image_byte p s at short ∙ same_unwritten at k.clear)
        (over.each at)

    pub new_image : new ≡ image q s
    new_image = is_image q s new (over.length ∙ image_bytes p s ∙ h.frame.length) each_byte

-- ---- the faults

pub no_fault : (l : KnownLink) (o : NamedObject) (located : List LocatedSection) (ws : List Written)
    → AllZip (IsPlannedAt l o) located ws → HasLocatedSections l.project l.layout o located → (t : Site)
    → Contains (sites_of l.layout o) t → fault_at l t ≡ None
no_fault l o located ws planned has t c =
    let k = in_flat_map (sites_there o) located t
    (subst (λ ts. Contains ts t) (sym (spots_have_sites l.project l.layout o located has)) c) in
    let r : IsPlannedAt l o k.origin _ = (partner_in (IsPlannedAt l o) located ws k.origin planned k.among).related in
    none_in (fault_at l) (sites_at o r.section k.origin.start) t r.faultless.faultless
    (subst (λ ts. Contains ts t) (sym (sites_at_spot o k.origin r.section r.section_is)) k.gives)
