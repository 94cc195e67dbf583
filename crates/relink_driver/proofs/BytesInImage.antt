-- The bytes of an input section lie in the image.
use Rattle.relink_driver.proofs.Common.{AreInFileOrder, Bool, Contains, Each, Layout, PlacedOutput, PlacedPiece}
use Rattle.relink_driver.proofs.Common.{Project, SectionInFile, Some, and_parts, ap, arith, at_place, cond, eqb-false}
use Rattle.relink_driver.proofs.Common.{false, file_offset, filter_in, image_length, in_file, in_map, length, map}
use Rattle.relink_driver.proofs.Common.{max_image_length, member_of, ne_eqb, nonempty, not, refl, segments, slice_get}
use Rattle.relink_driver.proofs.Common.{subst, sym, true, ℕ, ◌&&◌, ◌+◌, ◌-◌, ◌<◌, ◌==◌, ◌^◌, ◌∙◌, ◌≡◌, ◌≤◌}
use Rattle.std.specs.Int.{next_multiple_of}
use Rattle.ldmodel.specs.SectionHeaders.{Tables, header_part, tables}
use Rattle.ldmodel.specs.Segments.{headers_end, loaded_end}
use Rattle.ldmodel.specs.Stayed.{FileRange, range_in}
use Rattle.ldmodel_laws.specs.FileOrder.{end_in_file, with_file_bytes}
use Rattle.ldmodel_laws.specs.ImageBytes.{AreNamed}
use Rattle.ldmodel_laws.specs.Spread.{IsSpread, piece_end}

up_to_multiple : (n : ℕ) → n ≤ next_multiple_of n 8
up_to_multiple n = omega arith

-- the tail stands past the loaded part
loaded_in_image : (p : Project) (s : Layout) → loaded_end (segments s.sections) ≤ image_length p s
unfolding image_length header_part tables
loaded_in_image p s =
    let a = up_to_multiple (loaded_end (segments s.sections)) in
    let t : Tables = tables p s in
    let b = up_to_multiple (t.header_names.offset + length t.header_names.bytes) in
    omega (arith, a, b)

module _ (p : Project) (s : Layout) (spread : Each IsSpread s.sections) (named : AreNamed s.sections)
    (order : AreInFileOrder (segments s.sections))
    (all : map (λ (x : SectionInFile). x.section) (in_file (segments s.sections)) ≡ nonempty s.sections)
    (offset_is : (x : SectionInFile) → Contains (in_file (segments s.sections)) x
    → file_offset (segments s.sections) x.section ≡ x.offset) (k : ℕ) (q : PlacedOutput) (z : PlacedPiece)
    (at : slice_get s.sections k ≡ Some q) (among : Contains q.pieces z) where
  within : (q.start ≤ z.start) × (piece_end z ≤ q.start + q.size)
  within =
      member_of (λ (x : PlacedPiece). (q.start ≤ x.start) × (piece_end x ≤ q.start + q.size)) q.pieces z
      (member_of IsSpread s.sections q spread (at_place s.sections k q at)).pieces_inside among

  not_zero : (n : ℕ) → not (n == 0) ≡ true → 0 < n
  not_zero n e = go (n == 0) refl e
    where
      go : (b : Bool) → (n == 0) ≡ b → not b ≡ true → 0 < n
      go true f h = absurd (let none : ⊥ = cc in none)
      go false f h = let other = eqb-false n 0 f in omega (arith, other)

  is_nonempty : 0 < z.piece.size → Contains (nonempty s.sections) q
  is_nonempty some =
      filter_in (λ (r : PlacedOutput). not (r.size == 0)) s.sections q (at_place s.sections k q at)
      (ap not (ne_eqb q.size 0 (λ e. absurd (omega (arith, e, some, within.0, within.1)))))

  begins_inside : q.has_file_bytes ≡ true → 0 < z.piece.size
      → file_offset (segments s.sections) q + (z.start - q.start) < image_length p s
  begins_inside in_it some =
      let c = in_map (λ (x : SectionInFile). x.section) (in_file (segments s.sections)) q
      (subst (λ l. Contains l q) (sym all) (is_nonempty some)) in
      let x : SectionInFile = c.origin in
      let has : x.section.has_file_bytes ≡ true = ap (λ (r : PlacedOutput). r.has_file_bytes) c.gives ∙ in_it in
      let inside = member_of (λ (y : SectionInFile).
      (headers_end (length (segments s.sections)) ≤ y.offset) × (end_in_file y ≤ loaded_end (segments s.sections)))
      (with_file_bytes (segments s.sections)) x order.inside
      (filter_in (λ (y : SectionInFile). y.section.has_file_bytes) (in_file (segments s.sections)) x c.among has) in
      let starts : file_offset (segments s.sections) q ≡ x.offset =
      ap (file_offset (segments s.sections)) (sym c.gives) ∙ offset_is x c.among in
      let size : x.section.size ≡ q.size = ap (λ (r : PlacedOutput). r.size) c.gives in
      let past = loaded_in_image p s in
      omega (arith, inside.1, starts, size, past, within.0, within.1, some)

  short_64 : (n : ℕ) → n < max_image_length → n < 2 ^ 64
  short_64 n h = omega (arith, h)

  pub below_64 : image_length p s ≤ max_image_length → (range_in (segments s.sections) q z).offset < 2 ^ 64
  below_64 short = go (q.has_file_bytes && not (z.piece.size == 0)) refl
    where
      go : (b : Bool) → (q.has_file_bytes && not (z.piece.size == 0)) ≡ b
          → (let r : FileRange = cond b (record {
            offset = file_offset (segments s.sections) q + (z.start - q.start);
            length = z.piece.size;
          }) (record { offset = 0; length = 0 }) in r.offset) < 2 ^ 64
      go true e =
          let both = and_parts q.has_file_bytes (not (z.piece.size == 0)) e in
          short_64 (file_offset (segments s.sections) q + (z.start - q.start))
          (omega (arith, begins_inside both.0 (not_zero z.piece.size both.1), short))
      go false e = short_64 0 (omega arith)
