-- An input section at the same address in both links stayed, if its output section starts at the same place.
use Rattle.relink_driver.proofs.Common.{Bool, LinkLayout, None, Option, SectionAddress, Some, and_parts, ap, arith}
use Rattle.relink_driver.proofs.Common.{bytes_from, cond, eq-eqb, eqb-true, false, false≢true, has_same_start, is_some}
use Rattle.relink_driver.proofs.Common.{leb-true, length, location_of, location_with, lt-ltb, ltb-true, nat_le, nat_lt}
use Rattle.relink_driver.proofs.Common.{not, option_and_then, option_map, range_at, range_from, range_if_same, refl}
use Rattle.relink_driver.proofs.Common.{same_Some, slice_get, slice_get_past, sym, true, ℕ, ◌&&◌, ◌+◌, ◌-◌, ◌<◌, ◌==◌}
use Rattle.relink_driver.proofs.Common.{◌^◌, ◌∙◌, ◌≡◌, ◌≤◌}
use Rattle.ldmodel.specs.declared.placed.Placed.{Placed}
use Rattle.emit.specs.relocate.declared.previous_link_info.FileRange.{FileRange}
use Rattle.relink_driver.specs.SameStarts.{both_start, same_address, start_from, start_of}
use Rattle.relink_driver.specs.SectionLocation.{range_in}
use Rattle.relink_driver.specs.declared.section_location.OutputStart.{OutputStart}

-- past the output sections of the previous link none is fixed
pub none_fixed : (l m : LinkLayout) (n : ℕ) → length l.placement.sections ≤ n → false ≡ has_same_start l m n
none_fixed l m n past =
    ap (λ q. both_start (option_and_then (λ (x : Placed).
    option_and_then (λ (offset : ℕ). start_from x offset) (slice_get l.offsets.items n)) q) (start_of m n))
    (sym (slice_get_past l.placement.sections n past))

-- an output section that starts there
record StartsAt (l : LinkLayout) (n : ℕ) (s : OutputStart) : Type 0 where
  section : Placed
  section_is : slice_get l.placement.sections n ≡ Some section
  offset_is : slice_get l.offsets.items n ≡ Some s.offset
  in_file : section.has_file_bytes ≡ true
  address : section.start ≡ s.address
  small : s.offset < 2 ^ 64
  low : s.offset ≤ s.address

starts_at : (l : LinkLayout) (n : ℕ) (s : OutputStart) → start_of l n ≡ Some s → StartsAt l n s
unfolding start_from
starts_at l n s e = with_section (slice_get l.placement.sections n) refl e
  where
    below : (q : Placed) (y : ℕ) (small file low : Bool) → slice_get l.placement.sections n ≡ Some q
        → slice_get l.offsets.items n ≡ Some y → nat_lt y (2 ^ 64) ≡ small → q.has_file_bytes ≡ file
        → nat_le y q.start ≡ low
        → cond small (cond (file && low) (Some (record { address = q.start; offset = y })) None) None ≡ Some s
        → StartsAt l n s
    below q y false file low q_is y_is a b c h = absurd (let none : ⊥ = cc in none)
    below q y true false low q_is y_is a b c h = absurd (let none : ⊥ = cc in none)
    below q y true true false q_is y_is a b c h = absurd (let none : ⊥ = cc in none)
    below q y true true true q_is y_is a b c h =
        let same = same_Some _ _ h in
        let address : q.start ≡ s.address = ap (λ (x : OutputStart). x.address) same in
        let offset : y ≡ s.offset = ap (λ (x : OutputStart). x.offset) same in
        record {
          section = q;
          section_is = q_is;
          offset_is = y_is ∙ ap (λ (x : ℕ). Some x) offset;
          in_file = b;
          address = address;
          small = let at : y < 2 ^ 64 = ltb-true y (2 ^ 64) a in omega (arith, at, offset);
          low = let at : y ≤ q.start = leb-true y q.start c in omega (arith, at, offset, address);
        }

    with_offset : (q : Placed) (m : Option ℕ) → slice_get l.placement.sections n ≡ Some q
        → slice_get l.offsets.items n ≡ m → option_and_then (λ (y : ℕ). start_from q y) m ≡ Some s → StartsAt l n s
    with_offset q None q_is y_is h = absurd (let none : ⊥ = cc in none)
    with_offset q (Some y) q_is y_is h =
        below q y (nat_lt y (2 ^ 64)) q.has_file_bytes (nat_le y q.start) q_is y_is refl refl refl h

    with_section : (m : Option Placed) → slice_get l.placement.sections n ≡ m
        → option_and_then (λ (q : Placed). option_and_then (λ (y : ℕ). start_from q y) (slice_get l.offsets.items n)) m
        ≡ Some s → StartsAt l n s
    with_section None q_is h = absurd (let none : ⊥ = cc in none)
    with_section (Some q) q_is h = with_offset q (slice_get l.offsets.items n) q_is refl h

-- the bytes of an input section in the file, where its output section starts at an address and an offset
abbrev bytes_at : (address offset start size : ℕ) → FileRange
bytes_at address offset start size =
    cond (not (size == 0)) (record { offset = offset + (start - address); length = size })
    (record { offset = 0; length = 0 })

in_section : (q : Placed) (offset start size : ℕ) → q.has_file_bytes ≡ true → offset + (start - q.start) < 2 ^ 64
    → range_from q offset start size ≡ Some (bytes_at q.start offset start size)
unfolding range_from
in_section q offset start size in_file small =
    ap (λ b. cond (b && not (size == 0)) (bytes_from (offset + (start - q.start)) size)
    (Some (record { offset = 0; length = 0 }))) in_file
    ∙ go (not (size == 0))
  where
    go : (b : Bool) → cond b (bytes_from (offset + (start - q.start)) size) (Some (record { offset = 0; length = 0 }))
        ≡ Some (cond b (record { offset = offset + (start - q.start); length = size })
        (record { offset = 0; length = 0 }))
    go true =
        ap (λ b. cond b (Some (record { offset = offset + (start - q.start); length = size })) None)
        (lt-ltb (offset + (start - q.start)) (2 ^ 64) small)
    go false = refl

range_there : (l : LinkLayout) (s : OutputStart) (x : SectionAddress) → StartsAt l x.section.0 s → x.start < 2 ^ 64
    → range_at l x ≡ Some (bytes_at s.address s.offset x.start x.size)
range_there l s x at fits =
    let small = at.small in
    let low = at.low in
    let address = at.address in
    ap (option_and_then (range_in l x)) at.section_is
    ∙ ap (option_and_then (λ (y : ℕ). range_from at.section y x.start x.size)) at.offset_is
    ∙ in_section at.section s.offset x.start x.size at.in_file (omega (arith, small, low, address, fits))
    ∙ ap (λ a. Some (bytes_at a s.offset x.start x.size)) at.address

module _ (l m : LinkLayout) (b a : SectionAddress) (same : same_address b a ≡ true) (fits : a.start < 2 ^ 64) where
  parts : ((b.start == a.start) ≡ true) × (((b.size == a.size) && (b.section.0 == a.section.0)) ≡ true)
  parts = and_parts (b.start == a.start) ((b.size == a.size) && (b.section.0 == a.section.0)) same

  others : ((b.size == a.size) ≡ true) × ((b.section.0 == a.section.0) ≡ true)
  others = and_parts (b.size == a.size) (b.section.0 == a.section.0) (parts.1)

  start_same : b.start ≡ a.start
  start_same = eqb-true b.start a.start (parts.0)

  size_same : b.size ≡ a.size
  size_same = eqb-true b.size a.size (others.0)

  section_same : b.section.0 ≡ a.section.0
  section_same = eqb-true b.section.0 a.section.0 (others.1)

  starts_same : (s t : OutputStart) → start_of l a.section.0 ≡ Some s → start_of m a.section.0 ≡ Some t
      → both_start (Some s) (Some t) ≡ true
      → is_some (range_if_same (location_of l b) (location_of m a)) ≡ true
  starts_same s t was is alike =
      ap (λ x. is_some (range_if_same (option_map (location_with b) x) (location_of m a))) before
      ∙ ap (λ x. is_some (range_if_same (Some (location_with b there)) (option_map (location_with a) x))) now
      ∙ ap (λ c. is_some (cond (c && ((b.size == a.size) && ((there.offset == there.offset)
      && (there.length == there.length)))) (Some there) None)) (parts.0)
      ∙ ap (λ c. is_some (cond (c && ((there.offset == there.offset) && (there.length == there.length))) (Some there)
      None)) (others.0)
      ∙ ap (λ c. is_some (cond (c && (there.length == there.length)) (Some there) None)) (own there.offset)
      ∙ ap (λ c. is_some (cond c (Some there) None)) (own there.length)
    where
      own : (n : ℕ) → (n == n) ≡ true
      own n = eq-eqb n n refl

      there : FileRange
      there = bytes_at t.address t.offset a.start a.size

      address : s.address ≡ t.address
      address =
          eqb-true s.address t.address ((and_parts (s.address == t.address) (s.offset == t.offset) alike).0)

      offset : s.offset ≡ t.offset
      offset =
          eqb-true s.offset t.offset ((and_parts (s.address == t.address) (s.offset == t.offset) alike).1)

      earlier : start_of l b.section.0 ≡ Some s
      earlier = ap (start_of l) section_same ∙ was

      before : range_at l b ≡ Some there
      before =
          range_there l s b (starts_at l b.section.0 s earlier) (omega (arith, fits, start_same))
          ∙ ap (λ n. Some (bytes_at n s.offset b.start b.size)) address
          ∙ ap (λ n. Some (bytes_at t.address n b.start b.size)) offset
          ∙ ap (λ n. Some (bytes_at t.address t.offset n b.size)) start_same
          ∙ ap (λ n. Some (bytes_at t.address t.offset a.start n)) size_same

      now : range_at m a ≡ Some there
      now = range_there m t a (starts_at m a.section.0 t is) fits

  pub stays_fixed : has_same_start l m a.section.0 ≡ true → is_some (range_if_same (location_of l b) (location_of m a))
      ≡ true
  stays_fixed e = go (start_of l a.section.0) (start_of m a.section.0) refl refl e
    where
      go : (x y : Option OutputStart) → start_of l a.section.0 ≡ x → start_of m a.section.0 ≡ y
          → both_start x y ≡ true → is_some (range_if_same (location_of l b) (location_of m a)) ≡ true
      go None y was is h = absurd (false≢true h)
      go (Some s) None was is h = absurd (false≢true h)
      go (Some s) (Some t) was is h = starts_same s t was is h
