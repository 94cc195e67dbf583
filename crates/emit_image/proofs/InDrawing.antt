-- What lies at the offsets of an image.
use Rattle.emit_image.proofs.Common.{AreParts, ArePartsReached, AreSections, AreSectionsReached, Drawing, ImagePart}
use Rattle.emit_image.proofs.Common.{ImageSection, IsDrawing, IsOrderly, List, None, Some, Spot, [], after_zeros, ap}
use Rattle.emit_image.proofs.Common.{arith, cases_lt, covers_part, covers_section, drawing_end, drawing_spot, drop}
use Rattle.emit_image.proofs.Common.{end_of_parts, end_of_sections, false, find, get_or, inl, inr, leb_tells, length}
use Rattle.emit_image.proofs.Common.{nat_lt, nat_tests, part_end, part_image, refl, section_image, slice_index, subst}
use Rattle.emit_image.proofs.Common.{suc, sym, true, zero, ℕ, ◌+◌, ◌<◌, ◌^◌, ◌∙◌, ◌∷◌, ◌≡◌, ◌≤◌}
use Rattle.std.proofs.lemmas.List.{drop_more, drop_all}
use Rattle.emit_image.proofs.Found.{covered, find-at, find-none, not_covered, same-at}

abbrev file_end : ImageSection → ℕ
file_end x = x.offset + x.size

pub sections-end : (from : ℕ) (xs : List ImageSection) → AreSections from xs → from ≤ end_of_sections from xs
sections-end from [] h = omega arith
sections-end from (y ∷ ys) h = let later = sections-end (file_end y) ys h.2 in omega (arith, h.0)

sections-low : (from : ℕ) (xs : List ImageSection) (i : ℕ) (d : ImageSection) → AreSections from xs → i < length xs
    → from ≤ (get_or xs i d).offset
sections-low from [] i d h l = absurd (omega arith)
sections-low from (y ∷ ys) zero d h l = h.0
sections-low from (y ∷ ys) (suc i) d h l = let later = sections-low (file_end y) ys i d h.2 (omega arith) in
    omega (arith, h.0)

sections-high : (from : ℕ) (xs : List ImageSection) (i : ℕ) (d : ImageSection) → AreSections from xs → i < length xs
    → file_end (get_or xs i d) ≤ end_of_sections from xs
sections-high from [] i d h l = absurd (omega arith)
sections-high from (y ∷ ys) zero d h l = sections-end (file_end y) ys h.2
sections-high from (y ∷ ys) (suc i) d h l = sections-high (file_end y) ys i d h.2 (omega arith)

pub sections-order : (from : ℕ) (xs : List ImageSection) (i j : ℕ) (d e : ImageSection) → AreSections from xs → i < j
    → j < length xs → file_end (get_or xs i d) ≤ (get_or xs j e).offset
sections-order from [] i j d e h l m = absurd (omega arith)
sections-order from (y ∷ ys) zero zero d e h l m = absurd (omega arith)
sections-order from (y ∷ ys) zero (suc j) d e h l m = sections-low (file_end y) ys j e h.2 (omega arith)
sections-order from (y ∷ ys) (suc i) zero d e h l m = absurd (omega arith)
sections-order from (y ∷ ys) (suc i) (suc j) d e h l m =
    sections-order (file_end y) ys i j d e h.2 (omega arith) (omega arith)

parts-low : (from : ℕ) (xs : List ImagePart) (i : ℕ) (d : ImagePart) → AreParts from xs → i < length xs
    → from ≤ (get_or xs i d).offset
parts-low from [] i d h l = absurd (omega arith)
parts-low from (y ∷ ys) zero d h l = h.0
parts-low from (y ∷ ys) (suc i) d h l = let later = parts-low (part_end y) ys i d h.2 (omega arith) in
    omega (arith, h.0)

parts-order : (from : ℕ) (xs : List ImagePart) (i j : ℕ) (d e : ImagePart) → AreParts from xs → i < j → j < length xs
    → part_end (get_or xs i d) ≤ (get_or xs j e).offset
parts-order from [] i j d e h l m = absurd (omega arith)
parts-order from (y ∷ ys) zero zero d e h l m = absurd (omega arith)
parts-order from (y ∷ ys) zero (suc j) d e h l m = parts-low (part_end y) ys j e h.2 (omega arith)
parts-order from (y ∷ ys) (suc i) zero d e h l m = absurd (omega arith)
parts-order from (y ∷ ys) (suc i) (suc j) d e h l m =
    parts-order (part_end y) ys i j d e h.2 (omega arith) (omega arith)

not_below : (o n : ℕ) → n ≤ o → nat_lt o n ≡ false
not_below o n h = grind (arith, nat_tests)

below : (o n : ℕ) → o < n → nat_lt o n ≡ true
below o n h = grind (arith, nat_tests)

zeros-before : (from o : ℕ) (image : ℕ → Spot) → o < from → after_zeros from image o
    ≡ record { byte = 0; stays = false }
zeros-before from o image h = rw (below o from h) refl

zeros-after : (from o : ℕ) (image : ℕ → Spot) → from ≤ o → after_zeros from image o ≡ image o
zeros-after from o image h = rw (not_below o from h) refl

-- a byte of the headers
pub header_spot : (d : Drawing) (o : ℕ) → o < length d.headers.now → drawing_spot d o
    ≡ record { byte = slice_index d.headers.now o; stays = false }
unfolding drawing_spot
header_spot d o h = rw (below o (length d.headers.now) h) refl

zero_spot : (d : Drawing) (o : ℕ) → length d.headers.now ≤ o → find (covers_section o) d.sections.now ≡ None
    → find (covers_part o) d.tail.now ≡ None → drawing_spot d o ≡ record { byte = 0; stays = false }
unfolding drawing_spot
zero_spot d o h a b = rw (not_below o (length d.headers.now) h, a, b) refl

pub in_section : (d : Drawing) (o : ℕ) (x : ImageSection) → length d.headers.now ≤ o
    → find (covers_section o) d.sections.now ≡ Some x → drawing_spot d o ≡ section_image x o
unfolding drawing_spot
in_section d o x h a = rw (not_below o (length d.headers.now) h, a) refl

in_part : (d : Drawing) (o : ℕ) (t : ImagePart) → length d.headers.now ≤ o → find (covers_section o) d.sections.now
    ≡ None → find (covers_part o) d.tail.now ≡ Some t → drawing_spot d o ≡ part_image t o
unfolding drawing_spot
in_part d o t h a b = rw (not_below o (length d.headers.now) h, a, b) refl

pub sections-none : (d : Drawing) → IsDrawing d → AreSectionsReached d 0 (length d.headers.now)
sections-none d h = record {
  low = omega arith;
  before = λ i x l n. absurd (omega arith);
  order = h.sections;
  end =
      refl;
}

pub sections-all : (d : Drawing) (k at : ℕ) → AreSectionsReached d k at → length d.sections.now ≤ k → at
    ≡ end_of_sections (length d.headers.now) d.sections.now
sections-all d k at r l = sym (ap (λ xs. end_of_sections at xs) (drop_all k d.sections.now l)) ∙ r.end

-- the first output sections end by the end of all
pub sections_to : (d : Drawing) (k at : ℕ) → AreSectionsReached d k at
    → at ≤ end_of_sections (length d.headers.now) d.sections.now
sections_to d k at r = let up = sections-end at (drop k d.sections.now) r.order in omega (arith, up, r.end)

-- the next output section
pub record SectionTurn (d : Drawing) (k at : ℕ) (x : ImageSection) : Type 0 where
  pub above : at ≤ x.offset
  pub orderly : IsOrderly x
  pub reached : AreSectionsReached d (k + 1) (file_end x)
  pub spots : (o : ℕ) → at ≤ o → o < file_end x → after_zeros x.offset (section_image x) o ≡ drawing_spot d o

module _ (d : Drawing) (k at : ℕ) (e : ImageSection) (h : IsDrawing d) (r : AreSectionsReached d k at)
    (l : k < length d.sections.now) where
  abbrev section : ImageSection
  section = get_or d.sections.now k e

  cut : drop k d.sections.now ≡ section ∷ drop (k + 1) d.sections.now
  cut = drop_more d.sections.now k e l

  above : at ≤ section.offset
  above = let o = rw cut at r.order in o.0

  no_section : (o i : ℕ) (y : ImageSection) → at ≤ o → o < section.offset → i < length d.sections.now
      → covers_section o (get_or d.sections.now i y) ≡ false
  no_section o i y a b n =
      not_covered ((get_or d.sections.now i y).offset) ((get_or d.sections.now i y).size) o (λ s.
      elim (leb_tells (suc i) k) [
        | inl c ↦ inl (let before = r.before i y c.1 n in omega (arith, before))
        | inr c ↦ inr (elim (leb_tells (suc k) i) [
          | inl f ↦ (let order = sections-order (length d.headers.now) d.sections.now k i e y h.sections f.1 n in
              omega (arith, order))
          | inr f ↦ (let one = ap (λ (t : ImageSection).
              t.offset) (same-at d.sections.now i k y e (omega (arith, c.1, f.1)) l) in omega (arith, one))
        ])
      ])

  no_part : (o i : ℕ) (y : ImagePart) → o < file_end section → i < length d.tail.now
      → covers_part o (get_or d.tail.now i y) ≡ false
  no_part o i y b n =
      let high = sections-high (length d.headers.now) d.sections.now k e h.sections l in
      let low = parts-low (end_of_sections (length d.headers.now) d.sections.now) d.tail.now i y h.tail n in
      not_covered ((get_or d.tail.now i y).offset) (length ((get_or d.tail.now i y).bytes.now)) o (λ s.
      inr (omega arith))

  spot : (o : ℕ) → at ≤ o → o < file_end section → after_zeros section.offset (section_image section) o
      ≡ drawing_spot d o
  spot o a b = elim (cases_lt o section.offset) [
    | inl c ↦
        zeros-before section.offset o (section_image section) c
        ∙ sym (zero_spot d o (omega (arith, r.low))
        (find-none (covers_section o) d.sections.now (λ i y n. no_section o i y a c n))
        (find-none (covers_part o) d.tail.now (λ i y n. no_part o i y b n)))
    | inr c ↦
        zeros-after section.offset o (section_image section) c
        ∙ sym (in_section d o section (omega (arith, r.low))
        (find-at (covers_section o) d.sections.now k e l (λ i y f n.
        not_covered ((get_or d.sections.now i y).offset) ((get_or d.sections.now i y).size) o (λ s.
        inl (let before = r.before i y f n in omega (arith, before))))
        (covered section.offset section.size o c b)))
  ]

  pub section-turn : SectionTurn d k at section
  section-turn =
      let o = rw cut at r.order in
      let up = above in
      record {
        above = above;
        orderly = o.1;
        reached = record {
          low = omega (arith, r.low);
          before = λ i y a n. elim (leb_tells (suc i) k) [
            | inl c ↦ (let before = r.before i y c.1 n in omega (arith, before))
            | inr c ↦ (let one = ap file_end (same-at d.sections.now i k y e (omega (arith, c.1)) l) in
                omega (arith, one))
          ];
          order = o.2;
          end = rw cut at r.end;
        };
        spots = spot;
      }

pub section-turn-of : (d : Drawing) (k at : ℕ) (x : ImageSection) → IsDrawing d → AreSectionsReached d k at
    → k < length d.sections.now → x ≡ get_or d.sections.now k x → SectionTurn d k at x
section-turn-of d k at x h r l e = let P : ImageSection → Type 0 = λ y. SectionTurn d k at y in
    subst P (sym e) (section-turn d k at x h r l)

pub parts-none : (d : Drawing) → IsDrawing d
    → ArePartsReached d 0 (end_of_sections (length d.headers.now) d.sections.now)
parts-none d h = record { low = omega arith; before = λ i x l n. absurd (omega arith); order = h.tail; end = refl }

pub parts-all : (d : Drawing) (k at : ℕ) → ArePartsReached d k at → length d.tail.now ≤ k → at ≡ drawing_end d
parts-all d k at r l = sym (ap (λ xs. end_of_parts at xs) (drop_all k d.tail.now l)) ∙ r.end

pub parts_end : (from : ℕ) (xs : List ImagePart) → AreParts from xs → from ≤ end_of_parts from xs
parts_end from [] h = omega arith
parts_end from (y ∷ ys) h = let later = parts_end (part_end y) ys h.2 in omega (arith, h.0)

-- the first parts end by the end of all
pub parts_to : (d : Drawing) (k at : ℕ) → ArePartsReached d k at → at ≤ drawing_end d
parts_to d k at r = let up = parts_end at (drop k d.tail.now) r.order in omega (arith, up, r.end)

-- the next part of the tail
pub record PartTurn (d : Drawing) (k at : ℕ) (x : ImagePart) : Type 0 where
  pub above : at ≤ x.offset
  pub fits : part_end x < 2 ^ 64
  pub reached : ArePartsReached d (k + 1) (part_end x)
  pub spots : (o : ℕ) → at ≤ o → o < part_end x → after_zeros x.offset (part_image x) o ≡ drawing_spot d o

module _ (d : Drawing) (k at : ℕ) (e : ImagePart) (h : IsDrawing d) (r : ArePartsReached d k at)
    (l : k < length d.tail.now) where
  abbrev part : ImagePart
  part = get_or d.tail.now k e

  cut-part : drop k d.tail.now ≡ part ∷ drop (k + 1) d.tail.now
  cut-part = drop_more d.tail.now k e l

  part-above : at ≤ part.offset
  part-above = let o = rw cut-part at r.order in o.0

  headers-end : length d.headers.now ≤ end_of_sections (length d.headers.now) d.sections.now
  headers-end = sections-end (length d.headers.now) d.sections.now h.sections

  past_sections : (o i : ℕ) (y : ImageSection) → at ≤ o → i < length d.sections.now
      → covers_section o (get_or d.sections.now i y) ≡ false
  past_sections o i y a n =
      let high = sections-high (length d.headers.now) d.sections.now i y h.sections n in
      not_covered ((get_or d.sections.now i y).offset) ((get_or d.sections.now i y).size) o (λ s.
      inl (omega (arith, r.low)))

  between : (o i : ℕ) (y : ImagePart) → at ≤ o → o < part.offset → i < length d.tail.now
      → covers_part o (get_or d.tail.now i y) ≡ false
  between o i y a b n =
      not_covered ((get_or d.tail.now i y).offset) (length ((get_or d.tail.now i y).bytes.now)) o (λ s.
      elim (leb_tells (suc i) k) [
        | inl c ↦ inl (let before = r.before i y c.1 n in omega (arith, before))
        | inr c ↦ inr (elim (leb_tells (suc k) i) [
          | inl f ↦ (let order =
              parts-order (end_of_sections (length d.headers.now) d.sections.now) d.tail.now k i e y h.tail f.1 n in
              omega (arith, order))
          | inr f ↦ (let one = ap (λ (t : ImagePart). t.offset)
              (same-at d.tail.now i k y e (omega (arith, c.1, f.1)) l) in
              omega (arith, one))
        ])
      ])

  part-spot : (o : ℕ) → at ≤ o → o < part_end part → after_zeros part.offset (part_image part) o ≡ drawing_spot d o
  part-spot o a b =
      let front = headers-end in
      elim (cases_lt o part.offset) [
        | inl c ↦
            zeros-before part.offset o (part_image part) c
            ∙ sym (zero_spot d o (omega (arith, r.low))
            (find-none (covers_section o) d.sections.now (λ i y n. past_sections o i y a n))
            (find-none (covers_part o) d.tail.now (λ i y n. between o i y a c n)))
        | inr c ↦
            zeros-after part.offset o (part_image part) c
            ∙ sym (in_part d o part (omega (arith, r.low))
            (find-none (covers_section o) d.sections.now (λ i y n. past_sections o i y a n))
            (find-at (covers_part o) d.tail.now k e l (λ i y f n.
            not_covered ((get_or d.tail.now i y).offset) (length ((get_or d.tail.now i y).bytes.now)) o (λ s.
            inl (let before = r.before i y f n in omega (arith, before))))
            (covered part.offset (length part.bytes.now) o c b)))
      ]

  pub part-turn : PartTurn d k at part
  part-turn =
      let o = rw cut-part at r.order in
      let up = part-above in
      record {
        above = part-above;
        fits = o.1;
        reached = record {
          low = omega (arith, r.low);
          before = λ i y a n. elim (leb_tells (suc i) k) [
            | inl c ↦ (let before = r.before i y c.1 n in omega (arith, before))
            | inr c ↦ (let one = ap part_end (same-at d.tail.now i k y e (omega (arith, c.1)) l) in omega (arith, one))
          ];
          order = o.2;
          end = rw cut-part at r.end;
        };
        spots = part-spot;
      }

pub part-turn-of : (d : Drawing) (k at : ℕ) (x : ImagePart) → IsDrawing d → ArePartsReached d k at
    → k < length d.tail.now → x ≡ get_or d.tail.now k x → PartTurn d k at x
part-turn-of d k at x h r l e = let P : ImagePart → Type 0 = λ y. PartTurn d k at y in
    subst P (sym e) (part-turn d k at x h r l)

pub part_within : (d : Drawing) (k at : ℕ) (x : ImagePart) (limit : ℕ) → IsDrawing d → ArePartsReached d k at
    → k < length d.tail.now → drawing_end d ≤ limit → part_end (get_or d.tail.now k x) ≤ limit
part_within d k at x limit h r l m =
    let t = part-turn d k at x h r l in
    let to = parts_to d (k + 1) (part_end (get_or d.tail.now k x)) t.reached in
    omega (arith, to, m)
