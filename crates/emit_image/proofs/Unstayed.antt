-- How many bytes do not stay.
use Rattle.emit_image.proofs.Common.{Bool, Spot, ap, arith, cond, count_unstayed, false, refl, suc, true, zero, ℕ, ◌+◌}
use Rattle.emit_image.proofs.Common.{◌<◌, ◌∙◌, ◌≡◌, ◌≤◌}

abbrev pub unless : Bool → ℕ → ℕ
unless b n = cond b 0 n

pub one_more : (b : Bool) (n : ℕ) → unless b n + unless b 1 ≡ unless b (suc n)
one_more true n = refl
one_more false n = omega arith

pub nothing : (b : Bool) → unless b 0 ≡ 0
nothing true = refl
nothing false = refl

pub run : (f : ℕ → Spot) (from n : ℕ) (b : Bool) → ((o : ℕ) → from ≤ o → o < from + n → (f o).stays ≡ b)
    → count_unstayed f (from + n) ≡ count_unstayed f from + unless b n
run f from zero b h =
    let z : unless b 0 ≡ 0 = nothing b in
    let e : from + 0 ≡ from = omega arith in
    ap (count_unstayed f) e
    ∙ (let t : count_unstayed f from ≡ count_unstayed f from + unless b 0 = omega (arith, z) in t)
run f from (suc n) b h =
    let next : from + suc n ≡ suc (from + n) = omega arith in
    let rest = run f from n b (λ o a l. h o a (omega arith)) in
    let last : (f (from + n)).stays ≡ b = h (from + n) (omega arith) (omega arith) in
    ap (count_unstayed f) next
    ∙ ap (λ (c : Bool). count_unstayed f (from + n) + cond c 0 1) last
    ∙ ap (λ (m : ℕ). m + unless b 1) rest
    ∙ (let m = one_more b n in let t : count_unstayed f from + unless b n + unless b 1
    ≡ count_unstayed f from + unless b (suc n) = omega (arith, m) in t)
