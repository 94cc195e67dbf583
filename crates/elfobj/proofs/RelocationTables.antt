-- One pass over the headers finds the relocation section of each section, or a header that is refused.
use Rattle.elfobj.proofs.Common.{Bool, List, None, Option, SectionHeader, Some, [], add-one, and_from, ap, arith}
use Rattle.elfobj.proofs.Common.{cases_Bool, cases_lt, changes, cond, e_shnum, eqb, eqb-true, false, false≢true, find}
use Rattle.elfobj.proofs.Common.{find-append, get_or, get_or-set_other, get_or-set_same, header, headers, headers_below}
use Rattle.elfobj.proofs.Common.{headers_length, is_relocation_section, is_some, is_symbol_table, leb-false, length}
use Rattle.elfobj.proofs.Common.{length-set, nat_le, option_or, or_from, or_left, or_parts, or_right, refl}
use Rattle.elfobj.proofs.Common.{relocation_section, replicate, set, suc, sym, symbol_table_number, true, zero, ℕ}
use Rattle.elfobj.proofs.Common.{⊎_elim, ◌&&◌, ◌+◌, ◌<◌, ◌||◌, ◌∙◌, ◌∷◌, ◌≡◌, ◌≢◌, ◌≤◌}
use Rattle.std.specs.List.{position}
use Rattle.std.proofs.lemmas.Bool.{and_left, and_right, eqb-false, le-leb}
use Rattle.std.proofs.lemmas.List.{get_or-replicate, length-replicate}
use Rattle.elfobj.specs.Reading.{AreTables, AreTablesBelow, entered, is_wrong_after}
use Rattle.elfobj_file.specs.Tables.{is_linked, is_wrong_below, is_wrong_relocation_section, is_wrong_table}

pub tables_none : (bytes : List ℕ) (n : ℕ) (ts : List (Option SectionHeader)) → n ≡ e_shnum bytes
    → ts ≡ replicate n None → AreTablesBelow bytes 0 ts
tables_none bytes n ts f e = record {
  count = ap length e ∙ length-replicate n None ∙ f;
  each = λ k l. ap (λ xs. get_or xs k None) e ∙ get_or-replicate n k None None (omega arith);
}

-- a step of the search for one section number
find_more : (bytes : List ℕ) (n k : ℕ)
    → find (changes k) (headers_below bytes (n + 1)) ≡ option_or (find (changes k) (headers_below bytes n))
    (cond (changes k (header bytes n)) (Some (header bytes n)) None)
find_more bytes n k = rw add-one (find-append (changes k) (headers_below bytes n) (header bytes n ∷ []))

or_none : (o : Option SectionHeader) → option_or o None ≡ o
or_none None = refl
or_none (Some h) = refl

-- a header of another kind
pub tables_same : (bytes : List ℕ) (n : ℕ) (h : SectionHeader) (ts : List (Option SectionHeader)) → h ≡ header bytes n
    → is_relocation_section h ≡ false → AreTablesBelow bytes n ts → AreTablesBelow bytes (n + 1) ts
tables_same bytes n h ts e f t = record {
  count = t.count;
  each = λ k l. t.each k l
      ∙ sym (find_more bytes n k
      ∙ ap (λ b. option_or (find (changes k) (headers_below bytes n)) (cond b (Some (header bytes n)) None))
      (ap (changes k) (sym e) ∙ and_left (is_relocation_section h) (eqb h.sh_info k) f)
      ∙ or_none (find (changes k) (headers_below bytes n)));
}

entered_same : (ts : List (Option SectionHeader)) (h : SectionHeader) (o : Option SectionHeader) → h.sh_info < length ts
    → get_or ts h.sh_info None ≡ o → get_or (entered ts h) h.sh_info None ≡ option_or o (Some h)
entered_same ts h None l e = rw e (get_or-set_same ts h.sh_info (Some h) None l)
entered_same ts h (Some x) l e = ap (λ o. get_or (cond (is_some o) ts (set ts h.sh_info (Some h))) h.sh_info None) e ∙ e

entered_other : (ts : List (Option SectionHeader)) (h : SectionHeader) (k : ℕ) (o : Option SectionHeader)
    → k ≢ h.sh_info → get_or ts h.sh_info None ≡ o → get_or (entered ts h) k None ≡ get_or ts k None
entered_other ts h k None l e = ap (λ o. get_or (cond (is_some o) ts (set ts h.sh_info (Some h))) k None) e
    ∙ get_or-set_other ts h.sh_info k (Some h) None l
entered_other ts h k (Some x) l e = ap (λ o. get_or (cond (is_some o) ts (set ts h.sh_info (Some h))) k None) e

apart_from : (m n : ℕ) → eqb m n ≡ false → n ≢ m
apart_from m n h e = eqb-false m n h (sym e)

entered_at : (ts : List (Option SectionHeader)) (h : SectionHeader) (k : ℕ) → h.sh_info < length ts
    → is_relocation_section h ≡ true
    → get_or (entered ts h) k None ≡ option_or (get_or ts k None) (cond (changes k h) (Some h) None)
entered_at ts h k l f = ⊎_elim
    (λ a. let e : h.sh_info ≡ k = eqb-true h.sh_info k a in
    ap (λ i. get_or (entered ts h) i None) (sym e) ∙ entered_same ts h (get_or ts h.sh_info None) l refl
    ∙ ap (λ i. option_or (get_or ts i None) (Some h)) e
    ∙ ap (λ b. option_or (get_or ts k None) (cond b (Some h) None))
    (sym (and_from (is_relocation_section h) (eqb h.sh_info k) f a)))
    (λ a. entered_other ts h k (get_or ts h.sh_info None) (apart_from h.sh_info k a) refl
    ∙ sym (or_none (get_or ts k None))
    ∙ ap (λ b. option_or (get_or ts k None) (cond b (Some h) None))
    (sym (and_right (is_relocation_section h) (eqb h.sh_info k) a)))
    (cases_Bool (eqb h.sh_info k))

entered_length : (ts : List (Option SectionHeader)) (h : SectionHeader) (o : Option SectionHeader)
    → get_or ts h.sh_info None ≡ o → length (entered ts h) ≡ length ts
entered_length ts h None e = ap (λ o. length (cond (is_some o) ts (set ts h.sh_info (Some h)))) e
    ∙ length-set ts h.sh_info (Some h)
entered_length ts h (Some x) e = ap (λ o. length (cond (is_some o) ts (set ts h.sh_info (Some h)))) e

-- a relocation section
pub tables_more : (bytes : List ℕ) (n : ℕ) (h : SectionHeader) (ts ts' : List (Option SectionHeader))
    → h ≡ header bytes n → is_relocation_section h ≡ true → h.sh_info < e_shnum bytes → ts' ≡ entered ts h
    → AreTablesBelow bytes n ts → AreTablesBelow bytes (n + 1) ts'
tables_more bytes n h ts ts' e f l g t = record {
  count = ap length g ∙ entered_length ts h (get_or ts h.sh_info None) refl ∙ t.count;
  each = λ k m. ap (λ xs. get_or xs k None) g ∙ entered_at ts h k (omega (arith, t.count)) f
      ∙ ap (λ o. option_or o (cond (changes k h) (Some h) None)) (t.each k m)
      ∙ ap (λ x. option_or (find (changes k) (headers_below bytes n)) (cond (changes k x) (Some x) None)) e
      ∙ sym (find_more bytes n k);
}

pub tables_all : (bytes : List ℕ) (n : ℕ) (ts : List (Option SectionHeader)) → n ≡ e_shnum bytes
    → AreTablesBelow bytes n ts → AreTables bytes ts
unfolding relocation_section headers
tables_all bytes n ts e t = record {
  count = t.count;
  each = λ k l. t.each k l
      ∙ ap (λ m. find (changes k) (headers_below bytes m)) e;
}

-- the test of a relocation section, told by the tables before it
wrong_told : (bytes : List ℕ) (n : ℕ) (h : SectionHeader) (ts : List (Option SectionHeader))
    → is_relocation_section h ≡ true → AreTablesBelow bytes n ts
    → is_wrong_relocation_section (headers bytes) (symbol_table_number bytes) (headers_below bytes n) h ≡ is_wrong_after
    (headers bytes) (symbol_table_number bytes) ts h
wrong_told bytes n h ts f t = ⊎_elim
    (λ l. ap
    (λ b. b && (nat_le (length (headers bytes)) h.sh_info
    || (is_linked (headers bytes) h.sh_info
    && (is_some (find (changes h.sh_info) (headers_below bytes n))
    || is_wrong_table (symbol_table_number bytes) h)))) f
    ∙ ap (λ o. nat_le (length (headers bytes)) h.sh_info
    || (is_linked (headers bytes) h.sh_info && (is_some o || is_wrong_table (symbol_table_number bytes) h)))
    (sym (t.each h.sh_info l)))
    (λ l. let past : nat_le (length (headers bytes)) h.sh_info ≡ true = le-leb _ _
    (omega (arith, headers_length bytes)) in
    and_from _ _ f (or_left _ _ past) ∙ sym (or_left _ _ past))
    (cases_lt h.sh_info (e_shnum bytes))

wrong_kept : (bytes : List ℕ) (m n : ℕ) → n ≤ m → is_wrong_below bytes n ≡ true → is_wrong_below bytes m ≡ true
wrong_kept bytes zero n l h = let e : n ≡ 0 = omega arith in absurd (false≢true (ap (is_wrong_below bytes) (sym e) ∙ h))
wrong_kept bytes (suc m) n l h = ⊎_elim
    (λ k. or_left _ _ (wrong_kept bytes m n (omega arith) h))
    (λ k. let e : suc m ≡ n = omega arith in ap (is_wrong_below bytes) e ∙ h)
    (cases_lt n (suc m))

-- a header that refuses
pub wrong_found : (bytes : List ℕ) (n : ℕ) (h : SectionHeader) (ts : List (Option SectionHeader)) → n < e_shnum bytes
    → h ≡ header bytes n → is_relocation_section h ≡ true → AreTablesBelow bytes n ts
    → is_wrong_after (headers bytes) (symbol_table_number bytes) ts h ≡ true
    → is_wrong_below bytes (e_shnum bytes) ≡ true
wrong_found bytes n h ts l e f t w =
    wrong_kept bytes (e_shnum bytes) (suc n) (omega arith)
    (or_right _ _ (ap (is_wrong_relocation_section (headers bytes) (symbol_table_number bytes) (headers_below bytes n))
    (sym e) ∙ wrong_told bytes n h ts f t ∙ w))

-- and one that does not
pub right_more : (bytes : List ℕ) (n : ℕ) (h : SectionHeader) (ts : List (Option SectionHeader)) → h ≡ header bytes n
    → is_relocation_section h ≡ true → AreTablesBelow bytes n ts
    → is_wrong_after (headers bytes) (symbol_table_number bytes) ts h ≡ false → is_wrong_below bytes n ≡ false
    → is_wrong_below bytes (n + 1) ≡ false
right_more bytes n h ts e f t w r =
    rw add-one
    (or_from _ _ r
    (ap (is_wrong_relocation_section (headers bytes) (symbol_table_number bytes) (headers_below bytes n)) (sym e)
    ∙ wrong_told bytes n h ts f t ∙ w))

pub right_same : (bytes : List ℕ) (n : ℕ) (h : SectionHeader) → h ≡ header bytes n → is_relocation_section h ≡ false
    → is_wrong_below bytes n ≡ false → is_wrong_below bytes (n + 1) ≡ false
right_same bytes n h e f r =
    rw add-one
    (or_from _ _ r
    (ap (is_wrong_relocation_section (headers bytes) (symbol_table_number bytes) (headers_below bytes n)) (sym e)
    ∙ and_left _ _ f))

-- a relocation section that passes names a section
pub changed_below : (all : List SectionHeader) (symtab : Option ℕ) (ts : List (Option SectionHeader))
    (h : SectionHeader) → is_wrong_after all symtab ts h ≡ false → h.sh_info < length all
changed_below all symtab ts h w = leb-false (length all) h.sh_info (or_parts _ _ w).0

-- what calls tell
pub after_told : (bytes : List ℕ) (hs : List SectionHeader) (symtab : Option ℕ) (ts ts' : List (Option SectionHeader))
    (h : SectionHeader) (r b : Bool) → hs ≡ headers bytes → symtab ≡ position is_symbol_table hs → ts' ≡ ts
    → r ≡ is_wrong_after hs symtab ts' h → r ≡ b → is_wrong_after (headers bytes) (symbol_table_number bytes) ts h ≡ b
unfolding symbol_table_number
after_told bytes hs symtab ts ts' h r b e f g k l =
    ap (λ xs. is_wrong_after xs (position is_symbol_table xs) ts h) (sym e) ∙ ap (λ o. is_wrong_after hs o ts h) (sym f)
    ∙ ap (λ xs. is_wrong_after hs symtab xs h) (sym g) ∙ sym k ∙ l
