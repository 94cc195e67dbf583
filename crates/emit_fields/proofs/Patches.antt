-- Fields in their order.
use Rattle.emit_fields.proofs.Common.{AreInOrder, List, Patch, [], arith, drop, get_or, length, nat_tests, patch_end}
use Rattle.emit_fields.proofs.Common.{patched_byte, refl, subst, sym, ℕ, ◌+◌, ◌-◌, ◌<◌, ◌∷◌, ◌≡◌, ◌≤◌}
use Rattle.std.proofs.lemmas.List.{drop_more, at_drop_all}

-- before the first field a piece has its own bytes
patched_byte-before : (bytes : List ℕ) (ps : List Patch) (from limit i : ℕ) → AreInOrder from limit ps → i < from
    → patched_byte bytes ps i ≡ get_or bytes i 0
patched_byte-before bytes [] from limit i h l = refl
patched_byte-before bytes (p ∷ ps) from limit i h l =
    let later = patched_byte-before bytes ps (patch_end p) limit i h.1 (omega arith) in
    grind (arith, nat_tests)

in_order-limit : (ps : List Patch) (from limit : ℕ) → AreInOrder from limit ps → from ≤ limit
in_order-limit [] from limit h = h
in_order-limit (p ∷ ps) from limit h =
    let later = in_order-limit ps (patch_end p) limit h.1 in omega arith

-- what the next field says
pub record Turn (bytes : List ℕ) (done limit k : ℕ) (ps : List Patch) (p : Patch) : Type 0 where
  pub above : done ≤ p.offset
  pub within : patch_end p ≤ limit
  pub order : AreInOrder (patch_end p) limit (drop (k + 1) ps)
  pub own : (i : ℕ) → i < p.offset → patched_byte bytes (drop k ps) i ≡ get_or bytes i 0
  pub covered : (i : ℕ) → p.offset ≤ i → i < patch_end p
      → patched_byte bytes (drop k ps) i ≡ get_or p.field (i - p.offset) 0
  pub rest : (i : ℕ) → patch_end p ≤ i → patched_byte bytes (drop k ps) i ≡ patched_byte bytes (drop (k + 1) ps) i

own-cons : (bytes : List ℕ) (limit : ℕ) (p : Patch) (ps : List Patch) (i : ℕ) → AreInOrder (patch_end p) limit ps
    → i < p.offset → patched_byte bytes (p ∷ ps) i ≡ get_or bytes i 0
own-cons bytes limit p ps i h l = let later = patched_byte-before bytes ps (patch_end p) limit i h (omega arith) in
    grind (arith, nat_tests)

covered-cons : (bytes : List ℕ) (p : Patch) (ps : List Patch) (i : ℕ) → p.offset ≤ i → i < patch_end p
    → patched_byte bytes (p ∷ ps) i ≡ get_or p.field (i - p.offset) 0
covered-cons bytes p ps i a b = grind (arith, nat_tests)

rest-cons : (bytes : List ℕ) (p : Patch) (ps : List Patch) (i : ℕ) → patch_end p ≤ i
    → patched_byte bytes (p ∷ ps) i ≡ patched_byte bytes ps i
rest-cons bytes p ps i a = grind (arith, nat_tests)

pub turn : (bytes : List ℕ) (done limit k : ℕ) (ps : List Patch) (d : Patch) → k < length ps
    → AreInOrder done limit (drop k ps) → Turn bytes done limit k ps (get_or ps k d)
turn bytes done limit k ps d l h =
    let e : drop k ps ≡ get_or ps k d ∷ drop (k + 1) ps = drop_more ps k d l in
    let o = rw e at h in
    record {
      above = o.0;
      within = in_order-limit (drop (k + 1) ps) (patch_end (get_or ps k d)) limit o.1;
      order = o.1;
      own = λ i a. rw e (own-cons bytes limit (get_or ps k d) (drop (k + 1) ps) i o.1 a);
      covered = λ i a b. rw e (covered-cons bytes (get_or ps k d) (drop (k + 1) ps) i a b);
      rest = λ i a. rw e (rest-cons bytes (get_or ps k d) (drop (k + 1) ps) i a);
    }

-- the same for the next field as the code has it
pub turn_of : (bytes : List ℕ) (done limit k : ℕ) (ps : List Patch) (p : Patch) → k < length ps
    → AreInOrder done limit (drop k ps) → p ≡ get_or ps k p → Turn bytes done limit k ps p
turn_of bytes done limit k ps p l h e = let P : Patch → Type 0 = λ x. Turn bytes done limit k ps x in
    subst P (sym e) (turn bytes done limit k ps p l h)

-- past the last field a piece has its own bytes
pub no_more : (bytes : List ℕ) (ps : List Patch) (k i : ℕ) → length ps ≤ k
    → patched_byte bytes (drop k ps) i ≡ get_or bytes i 0
no_more bytes ps k i h = at_drop_all (λ l. patched_byte bytes l i) ps k h
