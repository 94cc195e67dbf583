-- Runs of bytes on the canvas, and how they count.
use Rattle.emit_fields.proofs.Common.{Bytes, Counts, List, ap, arith, drop, get_or, length, mul-add-mod_self_right}
use Rattle.emit_fields.proofs.Common.{raised, suc, sym, take, zero, ℕ, ◌%◌, ◌*◌, ◌+◌, ◌-◌, ◌<◌, ◌∙◌, ◌≡◌, ◌≤◌}
use Rattle.std.proofs.lemmas.Grind.{common_steps}
use Rattle.std.proofs.lemmas.List.{length-take, length-drop}
use Rattle.elfobj.specs.Counts.{capped}

-- a run of the bytes, read where it was written
pub run_reads : (canvas bytes : List ℕ) (from done stop i : ℕ)
    → ((j : ℕ) → j < length (take (stop - done) (drop done bytes))
    → get_or canvas (from + done + j) 0 ≡ get_or (take (stop - done) (drop done bytes)) j 0)
    → done ≤ i → i < stop → stop ≤ length bytes → get_or canvas (from + i) 0 ≡ get_or bytes i 0
run_reads canvas bytes from done stop i h a b d =
    let j = h (i - done) (omega (arith, length-take {A = ℕ}, length-drop {A = ℕ})) in
    let e : from + done + (i - done) ≡ from + i = omega arith in
    let f : done + (i - done) ≡ i = omega arith in
    let g : get_or (take (stop - done) (drop done bytes)) (i - done) 0 ≡ get_or bytes i 0 = grind
    (arith, common_steps) in
    (ap (λ k. get_or canvas k 0) (sym e) ∙ j) ∙ g

-- a field, read where it was written
pub field_reads : (canvas field : List ℕ) (from offset i : ℕ)
    → ((j : ℕ) → j < length field → get_or canvas (from + offset + j) 0 ≡ get_or field j 0)
    → offset ≤ i → i < offset + length field → get_or canvas (from + i) 0 ≡ get_or field (i - offset) 0
field_reads canvas field from offset i h a b =
    let e : from + offset + (i - offset) ≡ from + i = omega arith in
    ap (λ k. get_or canvas k 0) (sym e) ∙ h (i - offset) (omega arith)

capped_more : (n a b c : ℕ) → a + b ≡ c → capped (capped n a) b ≡ capped n c
capped_more n a b c e = omega arith

-- two writes count as one
pub raised_more : (m : Counts) (a b c : ℕ) → a + b ≡ c → raised (raised m Bytes a) Bytes b ≡ raised m Bytes c
raised_more m a b c e = ap (λ (n : ℕ). record m { bytes = n }) (capped_more m.bytes a b c e)

-- where a pattern of 1 to 8 bytes goes on after whole chunks
pub phase : (p k j : ℕ) → 0 < p → p ≤ 8 → (840 * k + j) % p ≡ j % p
phase zero k j h l = absurd (omega arith)
phase (suc zero) k j h l = let e : 840 * k + j ≡ 840 * k * 1 + j = omega arith in ap (λ n. n % 1) e
    ∙ mul-add-mod_self_right (840 * k) 1 j
phase (suc (suc zero)) k j h l = let e : 840 * k + j ≡ 420 * k * 2 + j = omega arith in ap (λ n. n % 2) e
    ∙ mul-add-mod_self_right (420 * k) 2 j
phase (suc (suc (suc zero))) k j h l = let e : 840 * k + j ≡ 280 * k * 3 + j = omega arith in ap (λ n. n % 3) e
    ∙ mul-add-mod_self_right (280 * k) 3 j
phase (suc (suc (suc (suc zero)))) k j h l = let e : 840 * k + j ≡ 210 * k * 4 + j = omega arith in ap (λ n. n % 4) e
    ∙ mul-add-mod_self_right (210 * k) 4 j
phase (suc (suc (suc (suc (suc zero))))) k j h l = let e : 840 * k + j ≡ 168 * k * 5 + j = omega arith in
    ap (λ n. n % 5) e ∙ mul-add-mod_self_right (168 * k) 5 j
phase (suc (suc (suc (suc (suc (suc zero)))))) k j h l = let e : 840 * k + j ≡ 140 * k * 6 + j = omega arith in
    ap (λ n. n % 6) e ∙ mul-add-mod_self_right (140 * k) 6 j
phase (suc (suc (suc (suc (suc (suc (suc zero))))))) k j h l = let e : 840 * k + j ≡ 120 * k * 7 + j = omega arith in
    ap (λ n. n % 7) e ∙ mul-add-mod_self_right (120 * k) 7 j
phase (suc (suc (suc (suc (suc (suc (suc (suc zero)))))))) k j h l =
    let e : 840 * k + j ≡ 105 * k * 8 + j = omega arith in ap (λ n. n % 8) e ∙ mul-add-mod_self_right (105 * k) 8 j
phase (suc (suc (suc (suc (suc (suc (suc (suc (suc n))))))))) k j h l = absurd (omega arith)

-- a byte of a run, in the chunk that it lies in
pub run_byte : (canvas chunk pattern : List ℕ) (at start k size i : ℕ) → start ≡ 840 * k → 0 < length pattern
    → length pattern ≤ 8 → ((j : ℕ) → j < size → get_or canvas (at + start + j) 0 ≡ get_or chunk j 0)
    → ((j : ℕ) → j < size → get_or chunk j 0 ≡ get_or pattern (j % length pattern) 0) → start ≤ i → i < start + size
    → get_or canvas (at + i) 0 ≡ get_or pattern (i % length pattern) 0
run_byte canvas chunk pattern at start k size i e some most w f a b =
    let d : at + start + (i - start) ≡ at + i = omega arith in
    let g : 840 * k + (i - start) ≡ i = omega arith in
    (ap (λ n. get_or canvas n 0) (sym d) ∙ w (i - start) (omega arith)) ∙ f (i - start) (omega arith)
    ∙ ap (λ n. get_or pattern n 0) (sym (phase (length pattern) k (i - start) some most))
    ∙ ap (λ n. get_or pattern (n % length pattern) 0) g
