-- Gaps, input sections and data commands that are written are those of their output section.
use Rattle.emit_image.proofs.Common.{Counts, DataFrom, ImageSection, IsPainted, IsReached, List, PiecesFrom, Spot, ap}
use Rattle.emit_image.proofs.Common.{arith, false, file_offset_of, length, section_image, section_spot, slice_index}
use Rattle.emit_image.proofs.Common.{subst, sym, ℕ, ◌%◌, ◌+◌, ◌-◌, ◌<◌, ◌∙◌, ◌≡◌, ◌≤◌}
use Rattle.emit_image.proofs.InSection.{gap_spot}
use Rattle.emit_image.proofs.Painting.{painted_as, painted_then}

-- the bytes of a gap that begins at an offset
abbrev pub gap_from : ImageSection → ℕ → ℕ → Spot
gap_from x from o = record { byte = slice_index x.fill.now ((o - from) % length x.fill.now); stays = false }

pub fill_section : (x : ImageSection) (k j at to : ℕ) (old new : List ℕ) (m n : Counts) → IsReached x k j at
    → PiecesFrom x k to → DataFrom x j to → at ≤ to
    → IsPainted old new m n (file_offset_of x at) (file_offset_of x to) (gap_from x (file_offset_of x at))
    → IsPainted old new m n (file_offset_of x at) (file_offset_of x to) (section_image x)
fill_section x k j at to old new m n r ps ds up g =
    painted_as old new m n (file_offset_of x at) (file_offset_of x to) (gap_from x (file_offset_of x at))
    (section_image x) g
    (omega (arith, r.low, up))
    (λ o a b.
    let low : at ≤ x.start + (o - x.offset) = omega (arith, r.low) in
    let high : x.start + (o - x.offset) < to = omega (arith, r.low) in
    let same : x.start + (o - x.offset) - at ≡ o - file_offset_of x at = omega (arith, r.low) in
    sym (gap_spot x k j at to r ps ds (x.start + (o - x.offset)) low high
    ∙ ap (λ (i : ℕ). record { byte = slice_index x.fill.now (i % length x.fill.now); stays = false }) same))

-- a part of an output section that begins at an address
part_section : (x : ImageSection) (start end : ℕ) (image : ℕ → Spot) (old new : List ℕ) (m n : Counts)
    → x.start ≤ start → start ≤ end → ((a : ℕ) → start ≤ a → a < end → section_spot x a ≡ image a)
    → IsPainted old new m n (file_offset_of x start) (file_offset_of x end)
    (λ o. image (start + (o - file_offset_of x start)))
    → IsPainted old new m n (file_offset_of x start) (file_offset_of x end) (section_image x)
part_section x start end image old new m n l up spots g =
    painted_as old new m n (file_offset_of x start) (file_offset_of x end)
    (λ o. image (start + (o - file_offset_of x start)))
    (section_image x) g (omega (arith, l, up))
    (λ o a b.
    let low : start ≤ x.start + (o - x.offset) = omega arith in
    let high : x.start + (o - x.offset) < end = omega arith in
    let same : start + (o - file_offset_of x start) ≡ x.start + (o - x.offset) = omega arith in
    ap image same ∙ sym (spots (x.start + (o - x.offset)) low high))

-- a gap, and a part after it
pub gap_and_part : (x : ImageSection) (k j at start end : ℕ) (image : ℕ → Spot) (old mid new : List ℕ)
    (m p n : Counts) (pf pt pe : ℕ) → IsReached x k j at → at ≤ start → start ≤ end → PiecesFrom x k start
    → DataFrom x j start → ((a : ℕ) → start ≤ a → a < end → section_spot x a ≡ image a)
    → pf ≡ file_offset_of x at → pt ≡ file_offset_of x start → pe ≡ file_offset_of x end
    → IsPainted old mid m p pf pt (gap_from x pf) → IsPainted mid new p n pt pe (λ o. image (start + (o - pt)))
    → IsPainted old new m n (file_offset_of x at) (file_offset_of x end) (section_image x)
gap_and_part x k j at start end image old mid new m p n pf pt pe r l up ps ds spots ef et ee g h =
    let low : x.start ≤ start = omega (arith, r.low, l) in
    let g1 = subst (λ (i : ℕ). IsPainted old mid m p i pt (gap_from x i)) ef g in
    let g2 = subst (λ (i : ℕ). IsPainted old mid m p (file_offset_of x at) i (gap_from x (file_offset_of x at))) et
    g1 in
    let h1 = subst (λ (i : ℕ). IsPainted mid new p n i pe (λ o. image (start + (o - i)))) et h in
    let h2 = subst (λ (i : ℕ). IsPainted mid new p n (file_offset_of x start) i (λ o.
    image (start + (o - file_offset_of x start)))) ee h1 in
    painted_then old mid new m p n (file_offset_of x at) (file_offset_of x start) (file_offset_of x end)
    (section_image x)
    (omega (arith, r.low, l)) (omega (arith, low, up))
    (fill_section x k j at start old mid m p r ps ds l g2)
    (part_section x start end image mid new p n low up spots h2)

-- where an output section begins and ends in the file
pub begins : (x : ImageSection) → file_offset_of x x.start ≡ x.offset
begins x = omega arith

pub ends : (x : ImageSection) → file_offset_of x (x.start + x.size) ≡ x.offset + x.size
ends x = omega arith
