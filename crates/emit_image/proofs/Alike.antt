-- Drawings of which one has input sections joined have the same bytes, of which the same stay.
use Rattle.emit_image.proofs.Common.{AllZip, AreParts, ArePieces, AreSections, Drawing, ImagePart, ImagePiece}
use Rattle.emit_image.proofs.Common.{ImageSection, IsDrawing, IsDrawnFor, IsOrderly, List, None, Option, Patch, Some}
use Rattle.emit_image.proofs.Common.{Spot, [], ap, arith, cond, count_unstayed, covers, covers_data, covers_part}
use Rattle.emit_image.proofs.Common.{covers_piece, covers_section, drawing_end, drawing_spot, end_of_parts}
use Rattle.emit_image.proofs.Common.{end_of_sections, false, find, fold-append, last_end, length, map, max, nat_le}
use Rattle.emit_image.proofs.Common.{nat_lt, option_map, refl, section_spot, slice_index, spot_among, spot_past_headers}
use Rattle.emit_image.proofs.Common.{subst, suc, sym, zero, ℕ, ◌%◌, ◌+◌, ◌-◌, ◌<◌, ◌∙◌, ◌∷◌, ◌≡◌, ◌≤◌}
use Rattle.std.proofs.lemmas.Option.{same_Some}
use Rattle.ldmodel.specs.declared.placed.PlacedData.{PlacedData}
use Rattle.emit_image.specs.Drawing.{AreApart, AreData, data_end, ends_in, gap_byte}
use Rattle.emit_image.specs.Joined.{AreAlike, IsJoined, IsJoinedSection, piece_ends, piece_spot, spot_in}
use Rattle.emit_image.proofs.OfLink.{Both, both, find-zip, neither}

-- ---- an output section

module _ (x y : ImageSection) (h : IsJoinedSection x y) where
  last_split : (z : ImageSection) (at : ℕ) → last_end at z.start (ends_in z)
      ≡ last_end at (last_end at z.start (piece_ends z.pieces.now)) (map data_end z.data_commands.now)
  last_split z at =
      fold-append (λ n end. cond (nat_le end at) (max n end) n) z.start (piece_ends z.pieces.now)
      (map data_end z.data_commands.now)

  last_alike : (at : ℕ) → spot_in x.pieces.now at ≡ None → last_end at y.start (ends_in y)
      ≡ last_end at x.start (ends_in x)
  last_alike at none =
      last_split y at
      ∙ ap (λ ds. last_end at (last_end at y.start (piece_ends y.pieces.now)) (map data_end ds)) h.data_commands
      ∙ ap (λ n. last_end at n (map data_end x.data_commands.now))
      (ap (λ n. last_end at n (piece_ends y.pieces.now)) h.start ∙ h.pieces.ends at x.start none)
      ∙ sym (last_split x at)

  gap_alike : (at : ℕ) → spot_in x.pieces.now at ≡ None → gap_byte y at ≡ gap_byte x at
  gap_alike at none =
      ap (λ n. slice_index y.fill.now ((at - n) % length y.fill.now)) (last_alike at none)
      ∙ ap (λ f. slice_index f ((at - last_end at x.start (ends_in x)) % length f)) h.fill

  among : (at : ℕ) (a b : Option ImagePiece) (d : Option PlacedData) → find (covers_piece at) x.pieces.now ≡ a
      → option_map (piece_spot at) b ≡ option_map (piece_spot at) a → spot_among y at b d ≡ spot_among x at a d
  among at (Some u) (Some v) d e same = same_Some _ _ same
  among at (Some u) None d e same = absurd (let none : ⊥ = cc in none)
  among at None (Some v) d e same = absurd (let none : ⊥ = cc in none)
  among at None None (Some d) e same = refl
  among at None None None e same =
      let spot : ℕ → Spot = λ n. record { byte = n; stays = false } in
      ap spot (gap_alike at (ap (option_map (piece_spot at)) e))

  pub section_alike : (at : ℕ) → section_spot y at ≡ section_spot x at
  unfolding section_spot
  section_alike at =
      ap (λ ds. spot_among y at (find (covers_piece at) y.pieces.now) (find (covers_data at) ds)) h.data_commands
      ∙ among at (find (covers_piece at) x.pieces.now) (find (covers_piece at) y.pieces.now)
      (find (covers_data at) x.data_commands.now) refl (h.pieces.spots at)

  pub orderly_alike : IsOrderly x → IsOrderly y
  orderly_alike o = record {
    some_fill = subst (λ f. 0 < length f) (sym h.fill) o.some_fill;
    short_fill = subst (λ f. length f ≤ 8) (sym h.fill) o.short_fill;
    end = omega (arith, o.end, h.start, h.size);
    file_end = omega (arith, o.file_end, h.offset, h.size);
    pieces = subst (λ n. ArePieces n (n + y.size) y.pieces.now) (sym h.start)
        (subst (λ n. ArePieces x.start (x.start + n) y.pieces.now) (sym h.size)
        (h.pieces.order x.start (x.start + x.size) o.pieces));
    filled = h.pieces.filled o.filled;
    data_commands = subst (λ n. AreData n (n + y.size) y.data_commands.now) (sym h.start)
        (subst (λ n. AreData x.start (x.start + n) y.data_commands.now) (sym h.size)
        (subst (AreData x.start (x.start + x.size)) (sym h.data_commands) o.data_commands));
    apart = subst (AreApart y.pieces.now) (sym h.data_commands) (h.pieces.apart x.data_commands.now o.apart);
  }

-- ---- a drawing

sections_end : (from : ℕ) (xs ys : List ImageSection) → AllZip IsJoinedSection xs ys
    → end_of_sections from ys ≡ end_of_sections from xs
sections_end from [] [] z = refl
sections_end from [] (y ∷ ys) z = absurd z
sections_end from (x ∷ xs) [] z = absurd z
sections_end from (x ∷ xs) (y ∷ ys) z =
    let same : y.offset + y.size ≡ x.offset + x.size = omega (arith, z.0.offset, z.0.size) in
    ap (λ n. end_of_sections n ys) same ∙ sections_end (x.offset + x.size) xs ys z.1

sections_order : (from : ℕ) (xs ys : List ImageSection) → AllZip IsJoinedSection xs ys → AreSections from xs
    → AreSections from ys
sections_order from [] [] z h = tt
sections_order from [] (y ∷ ys) z h = absurd z
sections_order from (x ∷ xs) [] z h = absurd z
sections_order from (x ∷ xs) (y ∷ ys) z h =
    let same : x.offset + x.size ≡ y.offset + y.size = omega (arith, z.0.offset, z.0.size) in (
      omega (arith, h.0, z.0.offset),
      orderly_alike x y z.0 h.1,
      subst (λ n. AreSections n ys) same (sections_order (x.offset + x.size) xs ys z.1 h.2),
    )

module _ (whole d : Drawing) (h : IsJoined whole d) where
  front : length d.headers.now ≡ length whole.headers.now
  front = ap length h.headers

  end_alike : end_of_sections (length d.headers.now) d.sections.now
      ≡ end_of_sections (length whole.headers.now) whole.sections.now
  end_alike =
      ap (λ n. end_of_sections n d.sections.now) front
      ∙ sections_end (length whole.headers.now) whole.sections.now d.sections.now h.sections

  past : (o : ℕ) (a b : Option ImageSection) (t : Option ImagePart) → Both IsJoinedSection (covers_section o) a b
      → spot_past_headers o b t ≡ spot_past_headers o a t
  past o None (Some y) t z = elim z [ ]
  past o (Some x) None t z = elim z [ ]
  past o None None (Some t) neither = refl
  past o None None None neither = refl
  past o (Some x) (Some y) t (both j c) =
      let same : y.start + (o - y.offset) ≡ x.start + (o - x.offset) =
      ap (λ n. n + (o - y.offset)) j.start ∙ ap (λ n. x.start + (o - n)) j.offset in
      ap (section_spot y) same ∙ section_alike x y j (x.start + (o - x.offset))

  covers_same : (o : ℕ) (x y : ImageSection) → IsJoinedSection x y → covers_section o y ≡ covers_section o x
  covers_same o x y j = ap (λ n. covers n y.size o) j.offset ∙ ap (λ n. covers x.offset n o) j.size

  spots : (o : ℕ) → drawing_spot d o ≡ drawing_spot whole o
  unfolding drawing_spot
  spots o =
      ap (λ hs. cond (nat_lt o (length hs)) (header hs) (rest d)) h.headers
      ∙ ap (cond (nat_lt o (length whole.headers.now)) (header whole.headers.now))
      (ap (λ ts. spot_past_headers o (find (covers_section o) d.sections.now) (find (covers_part o) ts)) h.tail
      ∙ past o (find (covers_section o) whole.sections.now) (find (covers_section o) d.sections.now)
      (find (covers_part o) whole.tail.now)
      (find-zip IsJoinedSection (covers_section o) (covers_section o) (covers_same o) whole.sections.now d.sections.now
      h.sections))
    where
      header : List ℕ → Spot
      header hs = record { byte = slice_index hs o; stays = false }

      rest : Drawing → Spot
      rest e = spot_past_headers o (find (covers_section o) e.sections.now) (find (covers_part o) e.tail.now)

  pub alike : AreAlike whole d
  alike = record {
    end = ap (λ n. end_of_parts n d.tail.now) end_alike
        ∙ ap (end_of_parts (end_of_sections (length whole.headers.now) whole.sections.now)) h.tail;
    spots = spots;
  }

  pub drawing_alike : IsDrawing whole → IsDrawing d
  drawing_alike is = record {
    sections = subst (λ n. AreSections n d.sections.now) (sym front)
        (sections_order (length whole.headers.now) whole.sections.now d.sections.now h.sections is.sections);
    tail = subst (λ n. AreParts n d.tail.now) (sym end_alike)
        (subst (AreParts (end_of_sections (length whole.headers.now) whole.sections.now)) (sym h.tail) is.tail);
  }

pub alike_self : (d : Drawing) → AreAlike d d
alike_self d = record { end = refl; spots = λ o. refl }

-- ---- what is said of the whole drawing

count_same : (f g : ℕ → Spot) → ((o : ℕ) → f o ≡ g o) → (n : ℕ) → count_unstayed f n ≡ count_unstayed g n
count_same f g same zero = refl
count_same f g same (suc n) =
    ap (λ m. m + cond (f n).stays 0 1) (count_same f g same n)
    ∙ ap (λ (s : Spot). count_unstayed g n + cond s.stays 0 1) (same n)

module _ (whole d : Drawing) (h : AreAlike whole d) where
  pub count_alike : count_unstayed (drawing_spot d) (drawing_end d)
      ≡ count_unstayed (drawing_spot whole) (drawing_end whole)
  count_alike =
      count_same (drawing_spot d) (drawing_spot whole) h.spots (drawing_end d)
      ∙ ap (count_unstayed (drawing_spot whole)) h.end

  pub drawn_alike : (image : ℕ → ℕ) (patches : List Patch) (canvas : List ℕ) → IsDrawnFor image whole patches canvas
      → IsDrawnFor image d patches canvas
  drawn_alike image patches canvas w = record {
    drawn = λ o l e.
        ap (λ (s : Spot). s.byte) (h.spots o)
        ∙ w.drawn o (omega (arith, l, h.end)) (sym (ap (λ (s : Spot). s.stays) (h.spots o)) ∙ e);
    patched = w.patched;
    stays = λ o l e. w.stays o (omega (arith, l, h.end)) (sym (ap (λ (s : Spot). s.stays) (h.spots o)) ∙ e);
  }
