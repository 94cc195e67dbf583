-- What a drawing keeps of an old image is right for the new one.
use Rattle.emit_image.proofs.Common.{All, AllZip, Bool, Contains, Drawing, EachPiece, EndsBy, FileRange, GoodLink}
use Rattle.emit_image.proofs.Common.{HasField, HasStayed, ImagePart, ImagePiece, ImageSection, IsDrawingOf, IsDrawnFor}
use Rattle.emit_image.proofs.Common.{IsGood, IsImagePiece, IsImageSection, IsOutside, IsPatchOf, IsSpread, Layout, List}
use Rattle.emit_image.proofs.Common.{None, Ok, Option, Patch, PlacedOutput, PlacedPiece, Project, SectionInFile, Some}
use Rattle.emit_image.proofs.Common.{any_in, ap, arith, byte_at, cases_lt, cond, covers_data, covers_part, covers_piece}
use Rattle.emit_image.proofs.Common.{covers_section, drawing_end, drawing_spot, false, file_offset, find, get_or, image}
use Rattle.emit_image.proofs.Common.{image_length, in_file, in_filter, inl, inr, is_patched, length, linked_in, loaded}
use Rattle.emit_image.proofs.Common.{map, nat_lt, nat_tests, nonempty, not, patch_end, range_in, refl, section_spot}
use Rattle.emit_image.proofs.Common.{segments, slice_index, spot_among, spot_past_headers, subst, sym, true, true≢false}
use Rattle.emit_image.proofs.Common.{width, ℕ, ◌&&◌, ◌+◌, ◌-◌, ◌<◌, ◌==◌, ◌↔◌, ◌∙◌, ◌≡◌, ◌≤◌}
use Rattle.std.proofs.lemmas.List.FromFn.{get_or-map-range_with_len, length-map-range_with_len}
use Rattle.elfobj.specs.Profile.{AreApart}
use Rattle.emit_fields.specs.Patches as patches
use Rattle.ldmodel.specs.Relocations.{Site, site_field}
use Rattle.ldmodel.specs.Segments.{Segment}
use Rattle.ldmodel.specs.Stayed.{LinkedPiece, has_stayed, linked_piece, link_pieces, retargeted, sites_in, stayed}
use Rattle.ldmodel.specs.declared.placed.PlacedData.{PlacedData}
use Rattle.ldmodel_laws.specs.ImageBytes.{AreNamed}
use Rattle.ldmodel_laws.specs.Spread as spread
use Rattle.emit_image.specs.Redrawings.{ArePatchesOf, IsRedrawing, IsSitePatch, file_patch}
use Rattle.ldmodel_laws.proofs.Finding.{map_in, member_of}
use Rattle.emit_image.proofs.Members.{Beside, beside, zip_both}
use Rattle.emit_image.proofs.OfLink.{covers-high, covers-low, drawing-same, end-same}

-- the laws of links that are used
pub record Laws : Type 0 where
  pub untouched : (old new : GoodLink) → IsGood old → IsGood new → (x : LinkedPiece) → Contains (stayed old new) x
      → (i : ℕ) → ((t : Site) → Contains (retargeted old new) t → Contains (sites_in new.project x) t → IsOutside i t)
      → i < x.range.length
      → byte_at old.project old.layout (x.range.offset + i) ≡ byte_at new.project new.layout (x.range.offset + i)
  pub linked : (l : GoodLink) (q : PlacedOutput) (z : PlacedPiece) → Contains l.layout.sections q
      → Contains q.pieces z → Contains (link_pieces l) (linked_piece l.project (segments l.layout.sections) q z)
  pub stayed_are : (old new : GoodLink) (x : LinkedPiece)
      → Contains (stayed old new) x ↔ (Contains (link_pieces new) x × (has_stayed old x ≡ true))
  pub own : (l : GoodLink) → IsGood l → (x : LinkedPiece) → Contains (link_pieces l) x → (i : ℕ)
      → i < x.range.length → x.range.offset + i < image_length l.project l.layout
  pub in_old : (old new : GoodLink) → IsGood old → (x : LinkedPiece) → Contains (stayed old new) x → (i : ℕ)
      → i < x.range.length → x.range.offset + i < image_length old.project old.layout
  pub found : (l : GoodLink) → IsGood l → (x : LinkedPiece) → Contains (link_pieces l) x → (t : Site)
      → Contains (sites_in l.project x) t → HasField l t
  pub some : (l : GoodLink) (x : LinkedPiece) (t : Site) → Contains (sites_in l.project x) t
      → 0 < width t.relocation.kind
  pub wide : (l : GoodLink) (x : LinkedPiece) (t : Site) (field : List ℕ) → Contains (sites_in l.project x) t
      → site_field l.project l.layout t ≡ Ok field → length field ≡ width t.relocation.kind
  pub byte : (l : GoodLink) → IsGood l → (x : LinkedPiece) → Contains (link_pieces l) x → (t : Site)
      → Contains (sites_in l.project x) t → AreApart t.section.relocations → (field : List ℕ)
      → site_field l.project l.layout t ≡ Ok field → (i : ℕ) → i < length field
      → t.relocation.offset + i < x.range.length
      → byte_at l.project l.layout (x.range.offset + (t.relocation.offset + i)) ≡ slice_index field i
  pub all : (sections : List PlacedOutput)
      → map (λ (x : SectionInFile). x.section) (in_file (segments sections)) ≡ nonempty sections
  pub offset : (sections : List PlacedOutput) → AreNamed sections → (x : SectionInFile)
      → Contains (in_file (segments sections)) x → file_offset (segments sections) x.section ≡ x.offset

image_long : (p : Project) (s : Layout) → length (image p s) ≡ image_length p s
unfolding image
image_long p s = length-map-range_with_len (byte_at p s) 0 (image_length p s)

image_byte : (p : Project) (s : Layout) (o : ℕ) → o < image_length p s → slice_index (image p s) o ≡ byte_at p s o
unfolding image
image_byte p s o l = get_or-map-range_with_len (byte_at p s) 0 (image_length p s) o o 0 l (omega arith)

full_size : (n k : ℕ) → k < n → not (n == 0) ≡ true
full_size n k h = grind (arith, nat_tests)

-- an output section with file bytes
pub record InLayout (s : Layout) (x : SectionInFile) : Type 0 where
  pub bytes : x.section.has_file_bytes ≡ true
  pub there : Contains s.sections x.section
  pub offset : file_offset (segments s.sections) x.section ≡ x.offset

pub in_layout : Laws → (l : GoodLink) → IsGood l → (x : SectionInFile) → Contains (loaded l.layout) x
    → InLayout l.layout x
in_layout laws l good x c =
    let s : Layout = l.layout in
    let k = in_filter (λ (y : SectionInFile). y.section.has_file_bytes) (in_file (segments s.sections)) x c in
    record {
      bytes = k.1;
      there = (in_filter (λ (q : PlacedOutput). not (q.size == 0)) s.sections x.section
          (subst (λ qs. Contains qs x.section) (laws.all s.sections)
          (map_in (λ (y : SectionInFile). y.section) (in_file (segments s.sections)) x k.0))).0;
      offset = laws.offset s.sections good.named x k.0;
    }

-- an input section that isn't empty, in an output section with file bytes, has its bytes in the file
pub full_range : (gs : List Segment) (q : PlacedOutput) (u : PlacedPiece) (k : ℕ) → q.has_file_bytes ≡ true
    → k < u.piece.size
    → range_in gs q u ≡ record { offset = file_offset gs q + (u.start - q.start); length = u.piece.size }
full_range gs q u k e l =
    let here_in : FileRange = record { offset = file_offset gs q + (u.start - q.start); length = u.piece.size } in
    let none : FileRange = record { offset = 0; length = 0 } in
    ap (λ b. cond (b && not (u.piece.size == 0)) here_in none) e
    ∙ ap (λ b. cond b here_in none) (full_size u.piece.size k l)

module _ (laws : Laws) (old new : GoodLink) (good_old : IsGood old) (good_new : IsGood new) where
  -- a byte of the file in an input section that stayed
  record KeptByte (o : ℕ) : Type 0 where
    piece : LinkedPiece
    among : Contains (stayed old new) piece
    at : ℕ
    low : at < piece.range.length
    place : o ≡ piece.range.offset + at

  abbrev s : Layout
  s = new.layout

  kept_byte : (x : SectionInFile) (y : ImageSection) (u : PlacedPiece) (v : ImagePiece) (o : ℕ)
      → Contains (loaded s) x → IsImageSection new.project s x y → Contains x.section.pieces u
      → IsImagePiece new.project s u v → HasStayed old new x.section u v → v.stays ≡ true
      → covers_section o y ≡ true → covers_piece (y.start + (o - y.offset)) v ≡ true → KeptByte o
  kept_byte x y u v o c is d piece_is kept stays in_y in_v =
      let k = in_layout laws new good_new x c in
      let low : y.offset ≤ o = covers-low y.offset y.size o in_y in
      let from : v.start ≤ y.start + (o - y.offset) = covers-low v.start v.size (y.start + (o - y.offset)) in_v in
      let to : y.start + (o - y.offset) < v.start + v.size =
      covers-high v.start v.size (y.start + (o - y.offset)) in_v in
      let at : ℕ = y.start + (o - y.offset) - v.start in
      let under : at < u.piece.size = omega (arith, from, to, piece_is.size) in
      let range = full_range (segments s.sections) x.section u at k.bytes under in
      let inside = member_of IsSpread s.sections x.section good_new.spread k.there in
      let above : x.section.start ≤ u.start = (member_of (λ (z : PlacedPiece). (x.section.start ≤ z.start)
      × (spread.piece_end z ≤ x.section.start + x.section.size)) x.section.pieces u inside.pieces_inside d).0 in
      record {
        piece = linked_in new x.section u;
        among = (laws.stayed_are old new (linked_in new x.section u)).1
            (laws.linked new x.section u k.there d, kept stays);
        at = at;
        low = subst (λ (r : FileRange). at < r.length) (sym range) under;
        place = subst (λ (r : FileRange). o ≡ r.offset + at) (sym range)
            (omega (arith, low, from, above, k.offset, is.offset, is.start, piece_is.start));
      }

  module _ (d : Drawing) (is : IsDrawingOf new.project s d) (kept : EachPiece (HasStayed old new) s d) where
    abbrev Pieces : SectionInFile → ImageSection → Type 0
    Pieces x y = AllZip (HasStayed old new x.section) x.section.pieces y.pieces.now

    in_section_kept : (y : ImageSection) (o : ℕ)
        → Beside (λ x y. IsImageSection new.project s x y × Pieces x y) (covers_section o) (loaded s) y
        → (section_spot y (y.start + (o - y.offset))).stays ≡ true → KeptByte o
    unfolding section_spot
    in_section_kept y o b e =
        go (find (covers_piece at) y.pieces.now) refl (find (covers_data at) y.data_commands.now) e
      where
        at : ℕ
        at = y.start + (o - y.offset)

        go : (m : Option ImagePiece) → find (covers_piece at) y.pieces.now ≡ m → (n : Option PlacedData)
            → (spot_among y at m n).stays ≡ true → KeptByte o
        go (Some v) f n e =
            let p = beside (λ u w. IsImagePiece new.project s u w × HasStayed old new b.member.section u w)
            (covers_piece at) b.member.section.pieces y.pieces.now
            (zip_both (IsImagePiece new.project s) (HasStayed old new b.member.section) b.member.section.pieces
            y.pieces.now b.related.0.pieces b.related.1) v f in
            kept_byte b.member y p.member v o b.among b.related.0 p.among p.related.0 p.related.1 e b.passes p.passes
        go None f (Some x) e = absurd (true≢false (sym e))
        go None f None e = absurd (true≢false (sym e))

    kept_spot : (o : ℕ) → (drawing_spot d o).stays ≡ true → KeptByte o
    unfolding drawing_spot
    kept_spot o e = go (nat_lt o (length d.headers.now)) e
      where
        past : (m : Option ImageSection) → find (covers_section o) d.sections.now ≡ m → (n : Option ImagePart)
            → (spot_past_headers o m n).stays ≡ true → KeptByte o
        past (Some y) f n e =
            in_section_kept y o (beside (λ x y. IsImageSection new.project s x y × Pieces x y) (covers_section o)
            (loaded s) d.sections.now (zip_both (IsImageSection new.project s) Pieces (loaded s) d.sections.now
            is.sections kept) y f) e
        past None f (Some t) e = absurd (true≢false (sym e))
        past None f None e = absurd (true≢false (sym e))

        go : (b : Bool)
            → (cond b (record { byte = slice_index d.headers.now o; stays = false })
            (spot_past_headers o (find (covers_section o) d.sections.now) (find (covers_part o) d.tail.now))).stays
            ≡ true → KeptByte o
        go true e = absurd (true≢false (sym e))
        go false e = past (find (covers_section o) d.sections.now) refl (find (covers_part o) d.tail.now) e

    module _ (ps : List Patch) (fields : ArePatchesOf old new ps) where
      among_new : (x : LinkedPiece) → Contains (stayed old new) x → Contains (link_pieces new) x
      among_new x c = ((laws.stayed_are old new x).0 c).0

      covered_by : (q : Patch) (o : ℕ) → q.offset ≤ o → o < patch_end q → patches.patch_covers q o ≡ true
      covered_by q o a b = grind (arith, nat_tests)

      -- a byte that no patch covers lies in no field whose symbol has another value
      outside : (o : ℕ) → is_patched ps o ≡ false → (k : KeptByte o) → (t : Site) → Contains (retargeted old new) t
          → Contains (sites_in new.project k.piece) t → IsOutside k.at t
      outside o none k t r c =
          let x : LinkedPiece = k.piece in
          let f = laws.found new good_new x (among_new x k.among) t c in
          let w = laws.wide new x t f.0 c f.1 in
          let some : 0 < x.range.length = omega (arith, k.low) in
          let there = fields.all x t f.0 k.among some c r f.1 in
          elim (cases_lt k.at t.relocation.offset) [
            | inl a ↦ inl a
            | inr a ↦ elim (cases_lt k.at (t.relocation.offset + width t.relocation.kind)) [
              | inl b ↦ absurd (true≢false
                  (sym (any_in (λ (q : Patch). patches.patch_covers q o) ps (file_patch x t f.0) there
                  (covered_by (file_patch x t f.0) o (omega (arith, a, k.place)) (omega (arith, b, w, k.place))))
                  ∙ none))
              | inr b ↦ inr b
            ]
          ]

      stays_right : (o : ℕ) → (drawing_spot d o).stays ≡ true → is_patched ps o ≡ false
          → (o < length (image old.project old.layout))
          × (slice_index (image old.project old.layout) o ≡ byte_at new.project new.layout o)
      stays_right o e none =
          let k = kept_spot o e in
          let inside = laws.in_old old new good_old k.piece k.among k.at k.low in
          let under : o < image_length old.project old.layout = omega (arith, inside, k.place) in
          let same = laws.untouched old new good_old good_new k.piece k.among k.at (outside o none k) k.low in (
            omega (arith, under, image_long old.project old.layout),
            image_byte old.project old.layout o under
                ∙ ap (byte_at old.project old.layout) k.place ∙ same
                ∙ ap (byte_at new.project new.layout) (sym k.place),
          )

      patch_right : (q : Patch) → IsSitePatch old new q → IsPatchOf (byte_at new.project new.layout) q
      patch_right q w i l =
          let x : LinkedPiece = w.piece in
          let t : Site = w.site in
          let place : q.offset ≡ x.range.offset + t.relocation.offset = ap (λ (r : Patch). r.offset) w.place in
          let under : t.relocation.offset + i < x.range.length = omega (arith, place, w.inside, l) in
          let at : x.range.offset + (t.relocation.offset + i) ≡ q.offset + i = omega (arith, place) in
          sym (laws.byte new good_new x (among_new x w.among_stayed) t w.among w.apart q.field w.is_field i l under)
          ∙ ap (byte_at new.project new.layout) at

pub drawn_for : Laws → (old new : GoodLink) (d : Drawing) (ps : List Patch) → IsGood old → IsGood new
    → IsRedrawing old new d ps → IsDrawnFor (byte_at new.project new.layout) d ps (image old.project old.layout)
drawn_for laws old new d ps g h r = record {
  drawn = λ o l e. drawing-same new.project new.layout d r.drawing o e;
  patched = λ k q l. patch_right laws old new g h d r.drawing r.kept ps r.patched (get_or ps k q)
      (r.patched.each k q l);
  stays = λ o l e n. stays_right laws old new g h d r.drawing r.kept ps r.patched o e n;
}

-- a patch ends in the new image
patch_ends : Laws → (old new : GoodLink) → IsGood new → (q : Patch) → IsSitePatch old new q
    → EndsBy (image_length new.project new.layout) q
patch_ends laws old new good q w =
    let x : LinkedPiece = w.piece in
    let t : Site = w.site in
    let place : q.offset ≡ x.range.offset + t.relocation.offset = ap (λ (r : Patch). r.offset) w.place in
    let some = laws.some new x t w.among in
    let wide = laws.wide new x t q.field w.among w.is_field in
    let full : x.range.length - 1 < x.range.length = omega (arith, place, w.inside, some, wide) in
    let last = laws.own new good x ((laws.stayed_are old new x).0 w.among_stayed).0 (x.range.length - 1) full in
    omega (arith, w.inside, last, full)

pub patches_in_image : Laws → (old new : GoodLink) (ps : List Patch) → IsGood new → ArePatchesOf old new ps
    → All (EndsBy (image_length new.project new.layout)) ps
patches_in_image laws old new ps good h = λ k q l. patch_ends laws old new good (get_or ps k q) (h.each k q l)

pub patches_end : Laws → (old new : GoodLink) (d : Drawing) (ps : List Patch) → IsGood new
    → IsRedrawing old new d ps → All (EndsBy (drawing_end d)) ps
patches_end laws old new d ps good r =
    subst (λ n. All (EndsBy n) ps) (sym (end-same new.project new.layout d r.drawing))
    (patches_in_image laws old new ps good r.patched)
