-- A short section that is put together: its bytes, and the first of its fields over them.
use Rattle.emit_image.proofs.Common.{AreInOrder, List, Patch, arith, cases_lt, drop, get_or, inl, inr, length}
use Rattle.emit_image.proofs.Common.{patch_end, patched_byte, sym, ℕ, ◌+◌, ◌-◌, ◌<◌, ◌∙◌, ◌≡◌, ◌≤◌}
use Rattle.emit_fields.proofs.Patches.{no_more, turn_of}

-- the first k fields were put over the bytes; what lies after them is as it was
pub record Together (bytes : List ℕ) (ps : List Patch) (k : ℕ) (whole : List ℕ) : Type 0 where
  pub done : ℕ
  pub order : AreInOrder done (length bytes) (drop k ps)
  pub rest : (i : ℕ) → done ≤ i → patched_byte bytes ps i ≡ patched_byte bytes (drop k ps) i
  pub right : (i : ℕ) → i < done → get_or whole i 0 ≡ patched_byte bytes ps i
  pub own : (i : ℕ) → done ≤ i → i < length bytes → get_or whole i 0 ≡ get_or bytes i 0

-- one field was put over what was there
pub record IsPut (p : Patch) (old new : List ℕ) : Type 0 where
  pub written : (i : ℕ) → i < length p.field → get_or new (p.offset + i) 0 ≡ get_or p.field i 0
  pub before : (o : ℕ) → o < p.offset → get_or new o 0 ≡ get_or old o 0
  pub after : (o : ℕ) → patch_end p ≤ o → get_or new o 0 ≡ get_or old o 0

in_field : (p : Patch) (old new : List ℕ) (i : ℕ) → IsPut p old new → p.offset ≤ i → i < patch_end p
    → get_or new i 0 ≡ get_or p.field (i - p.offset) 0
in_field p old new i h low high =
    let at : p.offset + (i - p.offset) ≡ i = omega arith in
    rw at at (h.written (i - p.offset) (omega arith))

module _ (bytes : List ℕ) (ps : List Patch) (k : ℕ) where
  pub put_next : (old new : List ℕ) (p : Patch) → k < length ps → p ≡ get_or ps k p → Together bytes ps k old
      → IsPut p old new → Together bytes ps (k + 1) new
  put_next old new p low is h put =
      let t = turn_of bytes h.done (length bytes) k ps p low h.order is in
      let above : h.done ≤ p.offset = t.above in
      record {
        done = patch_end p;
        order = t.order;
        rest = λ i a. h.rest i (omega (arith, a, above)) ∙ t.rest i a;
        right = λ i a. elim (cases_lt i h.done) [
          | inl x ↦ put.before i (omega (arith, x, above)) ∙ h.right i x
          | inr x ↦ elim (cases_lt i p.offset) [
            | inl y ↦ put.before i y ∙ h.own i x (omega (arith, a, t.within))
                ∙ sym (h.rest i x ∙ t.own i y)
            | inr y ↦ in_field p old new i put y a ∙ sym (h.rest i x ∙ t.covered i y a)
          ]
        ];
        own = λ i a b. put.after i a ∙ h.own i (omega (arith, a, above)) b;
      }

  -- a field of it ends within the section
  pub ends_within : (whole : List ℕ) (p : Patch) → k < length ps → p ≡ get_or ps k p → Together bytes ps k whole
      → patch_end p ≤ length bytes
  ends_within whole p low is h = (turn_of bytes h.done (length bytes) k ps p low h.order is).within

  pub put_all : (whole : List ℕ) → length ps ≤ k → Together bytes ps k whole → (i : ℕ) → i < length bytes
      → get_or whole i 0 ≡ patched_byte bytes ps i
  put_all whole low h i a = elim (cases_lt i h.done) [
    | inl x ↦ h.right i x
    | inr x ↦ h.own i x a ∙ sym (h.rest i x ∙ no_more bytes ps k i low)
  ]
