-- The bytes of a field among the eight bytes of its value.
use Rattle.emit_fields.proofs.Common.{Bool, Err, List, Ok, Overflow, ap, arith, false, if◌then◌else◌, refl, sym, take}
use Rattle.emit_fields.proofs.Common.{true, ℕ, ◌∙◌, ◌≡◌, ◌≤◌}
use Rattle.byteorder.specs.Endian.{little_bytes}
use Rattle.elfobj.specs.declared.relocation.Relocation.{Relocation}
use Rattle.elfobj.specs.declared.relocation.RelocationKind.{RelocationKind}
use Rattle.elfobj.specs.declared.relocation.RelocationKind.TheVariants.{None, Abs64, Pc32, Plt32, Abs32, Abs32Signed}
use Rattle.elfobj.specs.declared.relocation.RelocationKind.TheVariants.{Abs16, Pc16, Abs8, Pc8, Pc64}
use Rattle.elfobj.specs.RelocationKinds.{width}
use Rattle.emit_fields.specs.Fields.{relocation_value, fits, field_with, field_of}

pub width_at_most : (kind : RelocationKind) → width kind ≤ 8
width_at_most None = omega arith
width_at_most Abs64 = omega arith
width_at_most Pc32 = omega arith
width_at_most Plt32 = omega arith
width_at_most Abs32 = omega arith
width_at_most Abs32Signed = omega arith
width_at_most Abs16 = omega arith
width_at_most Pc16 = omega arith
width_at_most Abs8 = omega arith
width_at_most Pc8 = omega arith
width_at_most Pc64 = omega arith

pub take_little_bytes : (kind : RelocationKind) (v : ℕ)
    → take (width kind) (little_bytes 8 v) ≡ little_bytes (width kind) v
take_little_bytes None v = refl
take_little_bytes Abs64 v = refl
take_little_bytes Pc32 v = refl
take_little_bytes Plt32 v = refl
take_little_bytes Abs32 v = refl
take_little_bytes Abs32Signed v = refl
take_little_bytes Abs16 v = refl
take_little_bytes Pc16 v = refl
take_little_bytes Abs8 v = refl
take_little_bytes Pc8 v = refl
take_little_bytes Pc64 v = refl

chosen_true : (b : Bool) (bytes : List ℕ) (v : Overflow) → b ≡ true → (if b then Ok bytes else Err v) ≡ Ok bytes
chosen_true true bytes v h = refl
chosen_true false bytes v h = cc

chosen_false : (b : Bool) (bytes : List ℕ) (v : Overflow) → b ≡ false → (if b then Ok bytes else Err v) ≡ Err v
chosen_false false bytes v h = refl
chosen_false true bytes v h = cc

-- a value in range gives its bytes
pub field_of_fitting : (r : Relocation) (s p v : ℕ) → v ≡ relocation_value r s p → fits r.kind v ≡ true
    → Ok (little_bytes (width r.kind) v) ≡ field_of r s p
unfolding field_of
field_of_fitting r s p v e h =
    sym (chosen_true (fits r.kind v) (little_bytes (width r.kind) v) (record { value = v }) h)
    ∙ ap (λ (n : ℕ). field_with r.kind n) e

-- one out of range gives itself
pub field_of_overflowing : (r : Relocation) (s p v : ℕ) → v ≡ relocation_value r s p → fits r.kind v ≡ false
    → Err (record { value = v }) ≡ field_of r s p
unfolding field_of
field_of_overflowing r s p v e h =
    sym (chosen_false (fits r.kind v) (little_bytes (width r.kind) v) (record { value = v }) h)
    ∙ ap (λ (n : ℕ). field_with r.kind n) e
