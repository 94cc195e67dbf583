-- Counts of bytes.
use Rattle.emit_image.proofs.Common.{Bytes, Counts, ap, arith, capped, raised, ℕ, ◌+◌, ◌≡◌}

capped_more : (n a b c : ℕ) → a + b ≡ c → capped (capped n a) b ≡ capped n c
capped_more n a b c e = omega arith

-- two writes count as one
pub raised_more : (m : Counts) (a b c : ℕ) → a + b ≡ c → raised (raised m Bytes a) Bytes b ≡ raised m Bytes c
raised_more m a b c e = ap (λ (n : ℕ). record m { bytes = n }) (capped_more m.bytes a b c e)
