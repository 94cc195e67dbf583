-- Patches one after the other: a write of right bytes keeps right what was right.
use Rattle.emit_image.proofs.Common.{All, Bool, Bytes, Counts, IsPatchOf, List, Patch, ap, arith, cases_lt, false}
use Rattle.emit_image.proofs.Common.{get_or, inl, inr, is_patched, length, nat_tests, patch_bytes, raised, refl, subst}
use Rattle.emit_image.proofs.Common.{sum_by_more, sym, take, true, ℕ, ◌+◌, ◌-◌, ◌<◌, ◌||◌, ◌∙◌, ◌≡◌, ◌≤◌, ◌⊎◌}
use Rattle.std.proofs.lemmas.List.Folds.{list_any_more}
use Rattle.emit_fields.specs.Patches.{patch_covers}
use Rattle.emit_image.proofs.Counting.{raised_more}

-- what the writing of a patch leaves
pub record WrotePatch (q : Patch) (old new : List ℕ) : Type 0 where
  pub own : (i : ℕ) → i < length q.field → get_or new (q.offset + i) 0 ≡ get_or q.field i 0
  pub before : (o : ℕ) → o < q.offset → get_or new o 0 ≡ get_or old o 0
  pub after : (o : ℕ) → q.offset + length q.field ≤ o → get_or new o 0 ≡ get_or old o 0

-- the bytes of the canvas after the first patches
pub record Patched (image : ℕ → ℕ) (patches : List Patch) (k : ℕ) (old new : List ℕ) : Type 0 where
  pub grows : (o : ℕ) → get_or old o 0 ≡ image o → get_or new o 0 ≡ image o
  pub settled : (o : ℕ) → is_patched (take k patches) o ≡ true → get_or new o 0 ≡ image o

covered-low : (q : Patch) (o : ℕ) → patch_covers q o ≡ true → q.offset ≤ o
covered-low q o h = grind (arith, nat_tests)

covered-high : (q : Patch) (o : ℕ) → patch_covers q o ≡ true → o < q.offset + length q.field
covered-high q o h = grind (arith, nat_tests)

or_parts : (a b : Bool) → (a || b) ≡ true → (a ≡ true) ⊎ (b ≡ true)
or_parts true b h = inl refl
or_parts false b h = inr h

module _ (image : ℕ → ℕ) (q : Patch) (old new : List ℕ) (r : WrotePatch q old new) (p : IsPatchOf image q) where
  in_patch : (o : ℕ) → q.offset ≤ o → o < q.offset + length q.field → get_or new o 0 ≡ image o
  in_patch o a b =
      let back : q.offset + (o - q.offset) ≡ o = omega arith in
      ap (λ j. get_or new j 0) (sym back) ∙ r.own (o - q.offset) (omega arith) ∙ p (o - q.offset) (omega arith)
      ∙ ap (image) back

  stays_right : (o : ℕ) → get_or old o 0 ≡ image o → get_or new o 0 ≡ image o
  stays_right o h = elim (cases_lt o q.offset) [
    | inl a ↦ r.before o a ∙ h
    | inr a ↦ elim (cases_lt o (q.offset + length q.field)) [ inl b ↦ in_patch o a b | inr b ↦ r.after o b ∙ h ]
  ]

pub patch_on : (image : ℕ → ℕ) (patches : List Patch) (k : ℕ) (old now new : List ℕ) (d : Patch) → k < length patches
    → IsPatchOf image (get_or patches k d)
    → Patched image patches k old now → WrotePatch (get_or patches k d) now new → Patched image patches (k + 1) old new
patch_on image patches k old now new d l p w r = record {
  grows = λ o h. stays_right image (get_or patches k d) now new r p o (w.grows o h);
  settled = λ o h. elim
      (or_parts (is_patched (take k patches) o) (patch_covers (get_or patches k d) o)
      (sym (list_any_more (λ (q : Patch). patch_covers q o) patches k d l) ∙ h)) [
        | inl a ↦ stays_right image (get_or patches k d) now new r p o (w.settled o a)
        | inr a ↦ in_patch image (get_or patches k d) now new r p o (covered-low (get_or patches k d) o a)
            (covered-high (get_or patches k d) o a)
      ];
}

pub count_on : (patches : List Patch) (k : ℕ) (m n j : Counts) (q : Patch) → k < length patches → q
    ≡ get_or patches k q → ((i : ℕ) → raised n Bytes i ≡ raised m Bytes (patch_bytes (take k patches) + i))
    → j ≡ raised n Bytes (length q.field) → (i : ℕ) → raised j Bytes i
    ≡ raised m Bytes (patch_bytes (take (k + 1) patches) + i)
count_on patches k m n j q l e w r i =
    let size : ℕ = length q.field in
    let own : length ((get_or patches k q).field) ≡ size = ap (λ (y : Patch). length y.field) (sym e) in
    let sum : patch_bytes (take k patches) + (size + i) ≡ patch_bytes (take (k + 1) patches) + i =
    omega (arith, own, sum_by_more (λ (q : Patch). length q.field) patches k q l) in
    ap (λ c. raised c Bytes i) r ∙ raised_more n size i (size + i) refl ∙ w (size + i) ∙ ap (λ a. raised m Bytes a) sum

-- the same of the next patch as the code has it
pub patch_on_as : (image : ℕ → ℕ) (patches : List Patch) (k : ℕ) (old now new : List ℕ) (q : Patch)
    → k < length patches → q ≡ get_or patches k q → All (IsPatchOf image) patches
    → Patched image patches k old now → WrotePatch q now new → Patched image patches (k + 1) old new
patch_on_as image patches k old now new q l e all w r =
    let W : Patch → Type 0 = λ y. WrotePatch y now new in
    patch_on image patches k old now new q l (all k q l) w (subst W e r)
