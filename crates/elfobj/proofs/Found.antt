-- A header that a search finds passes its test, and its table lies in the file.
use Rattle.elfobj.proofs.Common.{Bool, List, SectionHeader, Some, [], ap, cases_Bool, cond, eqb, eqb-true, false, find}
use Rattle.elfobj.proofs.Common.{is_out_of_bounds, is_relocation_section, is_symbol_table, list_any, ltb-false, nat_lt}
use Rattle.elfobj.proofs.Common.{none-some, or_parts, same_Some, sym, true, ℕ, ⊎_elim, ◌+◌, ◌||◌, ◌∙◌, ◌∷◌, ◌≡◌, ◌≤◌}
use Rattle.std.proofs.lemmas.Bool.{or_cases}

-- what is found passes the test, and none that no member passes
pub found_is : {X : Type 0} (p : X → Bool) (xs : List X) (x : X) → find p xs ≡ Some x → p x ≡ true
found_is p [] x e = absurd (none-some x e)
found_is p (y ∷ xs) x e = ⊎_elim
    (λ a. ap p (sym (same_Some y x (sym (ap (λ b. cond b (Some y) (find p xs)) a) ∙ e))) ∙ a)
    (λ a. found_is p xs x (sym (ap (λ b. cond b (Some y) (find p xs)) a) ∙ e))
    (cases_Bool (p y))

pub found_not : (p q : SectionHeader → Bool) (hs : List SectionHeader) (h : SectionHeader) → find p hs ≡ Some h
    → list_any q hs ≡ false → q h ≡ false
found_not p q [] h e n = absurd (none-some h e)
found_not p q (x ∷ xs) h e n = ⊎_elim
    (λ a. ap q (sym (same_Some x h (sym (ap (λ b. cond b (Some x) (find p xs)) a) ∙ e)))
    ∙ (or_parts (q x) (list_any q xs) n).0)
    (λ a. found_not p q xs h (sym (ap (λ b. cond b (Some x) (find p xs)) a) ∙ e) (or_parts (q x) (list_any q xs) n).1)
    (cases_Bool (p x))

-- a table that is looked at lies inside the file, and is small
pub record IsTableIn (n : ℕ) (h : SectionHeader) : Type 0 where
  pub end : h.sh_offset + h.sh_size ≤ n
  pub small : h.sh_size ≤ 2147483648

in_parts : (past large odd : Bool) → (past || large || odd) ≡ false → (past ≡ false) × (large ≡ false)
in_parts past large odd h = or_parts past large (or_parts (past || large) odd h).0

in_bounds : (n : ℕ) (h : SectionHeader) (odd : Bool)
    → (nat_lt n (h.sh_offset + h.sh_size) || nat_lt 2147483648 h.sh_size || odd) ≡ false → IsTableIn n h
in_bounds n h odd e =
    let p = in_parts _ _ odd e in
    record { end = ltb-false n (h.sh_offset + h.sh_size) p.0; small = ltb-false 2147483648 h.sh_size p.1 }

symbols_type : (n : ℕ) (h : SectionHeader) → h.sh_type ≡ 2 → is_out_of_bounds n h ≡ false → IsTableIn n h
symbols_type n h t e = let f = rw t at e in in_bounds n h _ f

rela_type : (n : ℕ) (h : SectionHeader) → h.sh_type ≡ 4 → is_out_of_bounds n h ≡ false → IsTableIn n h
rela_type n h t e = let f = rw t at e in in_bounds n h _ f

rel_type : (n : ℕ) (h : SectionHeader) → h.sh_type ≡ 9 → is_out_of_bounds n h ≡ false → IsTableIn n h
rel_type n h t e = let f = rw t at e in in_bounds n h _ f

pub strings_type : (n : ℕ) (h : SectionHeader) → h.sh_type ≡ 3 → is_out_of_bounds n h ≡ false → IsTableIn n h
strings_type n h t e = let f = rw t at e in in_bounds n h _ f

pub symbols_in_file : (n : ℕ) (h : SectionHeader) → is_symbol_table h ≡ true → is_out_of_bounds n h ≡ false
    → IsTableIn n h
symbols_in_file n h t e = symbols_type n h (eqb-true h.sh_type 2 t) e

pub relocations_in_file : (n : ℕ) (h : SectionHeader) → is_relocation_section h ≡ true → is_out_of_bounds n h ≡ false
    → IsTableIn n h
relocations_in_file n h t e = ⊎_elim
    (λ a. rela_type n h (eqb-true h.sh_type 4 a) e)
    (λ a. rel_type n h (eqb-true h.sh_type 9 a) e)
    (or_cases (eqb h.sh_type 4) (eqb h.sh_type 9) t)
