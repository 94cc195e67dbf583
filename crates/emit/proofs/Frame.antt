-- The bytes of an image outside of the input sections of an object turn on what the objects hold besides.
use Rattle.emit.proofs.Common.{AreNamed, Bool, Contains, DiffersInContents, Each, FilePart, HasSameFrame, IsOutside}
use Rattle.emit.proofs.Common.{IsSpread, Layout, List, NamedObject, None, Option, PlacedOutput, PlacedPiece, Project}
use Rattle.emit.proofs.Common.{SectionInFile, Segment, Some, and_parts, ap, arith, byte_at, bytes_eq, bytes_eq-Decides}
use Rattle.emit.proofs.Common.{cond, covers, eqb-true, false, file_headers, file_offset, find, in_file, in_filter, inl}
use Rattle.emit.proofs.Common.{inr, length, linked, map_in, member_of, nat_lt, not, piece_end, refl, segments}
use Rattle.emit.proofs.Common.{slice_get, slice_index, subst, sym, true, ℕ, ◌&&◌, ◌+◌, ◌-◌, ◌<◌, ◌==◌, ◌∙◌, ◌≡◌, ◌≤◌}
use Rattle.ldmodel.specs.Image.{covering_data, covering_piece, file_section_at, tail_at}
use Rattle.ldmodel.specs.Layout.{PlacedData}
use Rattle.ldmodel.specs.Stayed.{FileRange, GoodLink, LinkedPiece, linked_piece, linked_pieces, range_in}
use Rattle.ldmodel_laws.specs.ByteCases.{byte_among, byte_past_headers, piece_byte}
use Rattle.ldmodel_laws.proofs.ByteCases.{by_cases}
use Rattle.ldmodel_laws.proofs.InImage.{offset_by_name}
use Rattle.ldmodel_laws.proofs.PieceBytes.{all_sections, covered}
use Rattle.emit.proofs.Others.{part_same}
use Rattle.emit.proofs.Places.{Found, found}

abbrev link : Project → Layout → GoodLink
link p s = record { project = p; layout = s }

-- an input section with file bytes that covers an address has its offset in its range
in_range : (gs : List Segment) (q : PlacedOutput) (y : PlacedPiece) (offset o : ℕ) → q.has_file_bytes ≡ true
    → file_offset gs q ≡ offset → offset ≤ o → q.start ≤ y.start → y.start ≤ q.start + (o - offset)
    → q.start + (o - offset) < y.start + y.piece.size → IsOutside o (range_in gs q y) → ⊥
in_range gs q y offset o bytes at above from low high out = go (y.piece.size == 0) refl out
  where
    own : FileRange
    own = record { offset = file_offset gs q + (y.start - q.start); length = y.piece.size }

    none : FileRange
    none = record { offset = 0; length = 0 }

    clash : IsOutside o own → ⊥
    clash (inl k) = omega (arith, k, at, above, from, low, high)
    clash (inr k) = omega (arith, k, at, above, from, low, high)

    go : (z : Bool) → (y.piece.size == 0) ≡ z → IsOutside o (cond (q.has_file_bytes && not z) own none) → ⊥
    go true e k = let zero : y.piece.size ≡ 0 = eqb-true y.piece.size 0 e in omega (arith, low, high, zero)
    go false e k = clash (subst (λ c. IsOutside o (cond (c && true) own none)) bytes k)

module _ (p q : Project) (s : Layout) (i : ℕ) (b : NamedObject) (h : DiffersInContents p q i)
    (frame : HasSameFrame p q s)
    (spread : Each IsSpread s.sections) (named : AreNamed s.sections) (at_i : slice_get q.objects i ≡ Some b) (o : ℕ)
    (clear : (x : LinkedPiece) → Contains (linked_pieces q s) x → x.object ≡ b.name → IsOutside o x.range) where
  abbrev gs : List Segment
  gs = segments s.sections

  -- the input section that covers the offset is not of the object
  module _ (x : SectionInFile) (at_o : file_section_at s o ≡ Some x) (y : PlacedPiece)
      (covering : covering_piece x.section (x.section.start + (o - x.offset)) ≡ Some y) where
    abbrev in_bytes : SectionInFile → Bool
    in_bytes z = z.section.has_file_bytes && covers z.offset z.section.size o

    in_section : Found in_bytes (in_file gs) x
    in_section = found in_bytes (in_file gs) x at_o

    there : Contains s.sections x.section
    there =
        (in_filter (λ (r : PlacedOutput). not (r.size == 0)) s.sections x.section
        (subst (λ l. Contains l x.section) (all_sections s.sections)
        (map_in (λ (z : SectionInFile). z.section) (in_file gs) x in_section.among))).0

    has_bytes : (x.section.has_file_bytes ≡ true) × (covers x.offset x.section.size o ≡ true)
    has_bytes = and_parts x.section.has_file_bytes (covers x.offset x.section.size o) in_section.passes

    in_piece : Found (λ (z : PlacedPiece). covers z.start z.piece.size (x.section.start + (o - x.offset)))
        x.section.pieces y
    in_piece = found (λ (z : PlacedPiece). covers z.start z.piece.size (x.section.start + (o - x.offset)))
        x.section.pieces y covering

    from : x.section.start ≤ y.start
    from =
        (member_of (λ (z : PlacedPiece). (x.section.start ≤ z.start)
        × (piece_end z ≤ x.section.start + x.section.size)) x.section.pieces y
        (member_of IsSpread s.sections x.section spread there).pieces_inside in_piece.among).0

    not_own : y.piece.object ≡ b.name → ⊥
    not_own own =
        let low = covered x.offset x.section.size o has_bytes.1 in
        let inside = covered y.start y.piece.size (x.section.start + (o - x.offset)) in_piece.passes in
        in_range gs x.section y x.offset o has_bytes.0 (offset_by_name s.sections named x in_section.among) low.0 from
        inside.0 inside.1
        (clear (linked_piece q gs x.section y) (linked (link q s) x.section y there in_piece.among) own)

    differs : bytes_eq b.name y.piece.object ≡ false
    differs = go (bytes_eq b.name y.piece.object) refl
      where
        go : (c : Bool) → bytes_eq b.name y.piece.object ≡ c → c ≡ false
        go false e = refl
        go true e = absurd (not_own (sym ((bytes_eq-Decides b.name y.piece.object).0 e)))

    pub piece_same : piece_byte p s (x.section.start + (o - x.offset)) y
        ≡ piece_byte q s (x.section.start + (o - x.offset)) y
    piece_same =
        part_same p q s i h b at_i frame y.piece.object differs y.piece.part y.start
        (x.section.start + (o - x.offset) - y.start)

  among_same : (x : SectionInFile) → file_section_at s o ≡ Some x → (m : Option PlacedPiece)
      → covering_piece x.section (x.section.start + (o - x.offset)) ≡ m → (d : Option PlacedData)
      → byte_among p s x.section (x.section.start + (o - x.offset)) m d
      ≡ byte_among q s x.section (x.section.start + (o - x.offset)) m d
  among_same x e (Some y) f d = piece_same x e y f
  among_same x e None f (Some d) = refl
  among_same x e None f None = refl

  past_same : (m : Option SectionInFile) → file_section_at s o ≡ m → (t : Option FilePart)
      → byte_past_headers p s o m t ≡ byte_past_headers q s o m t
  past_same (Some x) e t =
      among_same x e (covering_piece x.section (x.section.start + (o - x.offset))) refl
      (covering_data x.section (x.section.start + (o - x.offset)))
  past_same None e (Some t) = refl
  past_same None e None = refl

  pub byte_same : byte_at p s o ≡ byte_at q s o
  byte_same =
      by_cases p s o
      ∙ ap (λ hs. cond (nat_lt o (length hs)) (slice_index hs o)
      (byte_past_headers p s o (file_section_at s o) (tail_at p s o))) frame.headers
      ∙ ap (λ t. cond (nat_lt o (length (file_headers q s))) (slice_index (file_headers q s) o)
      (byte_past_headers p s o (file_section_at s o)
      (find (λ (x : FilePart). covers x.offset (length x.bytes) o) t))) frame.tail
      ∙ ap (λ n. cond (nat_lt o (length (file_headers q s))) (slice_index (file_headers q s) o) n)
      (past_same (file_section_at s o) refl (tail_at q s o))
      ∙ sym (by_cases q s o)
