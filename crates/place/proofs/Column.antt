-- Columns of a table: under each number stands the place of the first entry that has it.
use Rattle.place.proofs.Common.{AddsEntries, Bool, HaveNumbers, IndexedSection, IsColumn, IsSome, IsTableOf, List, None}
use Rattle.place.proofs.Common.{Option, Part, Project, SectionAddress, Some, [], address_of_entry, and_from, and_parts}
use Rattle.place.proofs.Common.{ap, append_assoc, arith, both_ways, cases_eq, cond, eq-eqb, eqb-true, false, false≢true}
use Rattle.place.proofs.Common.{find, find-append, get_or, get_or-set_other, get_or-set_same, get_or_default}
use Rattle.place.proofs.Common.{has_number, is_none, is_number, is_part_of, is_same_part, is_some, len_of, length}
use Rattle.place.proofs.Common.{length-set, ne_eqb, not, number_of, option_and_then, option_map, option_or, refl, set}
use Rattle.place.proofs.Common.{subst, suc, sym, true, ℕ, ⊎_elim, ◌++◌, ◌<◌, ◌==◌, ◌∙◌, ◌∷◌, ◌≡◌, ◌≢◌}
use Rattle.gather.specs.declared.input_section_table.InputSectionTable.{InputSectionTable}
use Rattle.ldmodel_laws.proofs.SameParts.{same_part, own_part}

-- ---- what is found

-- tests that agree on all members find the same one
find_same : (p q : IndexedSection → Bool) (xs : List IndexedSection)
    → ((k : ℕ) (d : IndexedSection) → k < length xs → p (get_or xs k d) ≡ q (get_or xs k d)) → find p xs ≡ find q xs
find_same p q [] h = refl
find_same p q (x ∷ xs) h =
    go (p x) (q x) (h 0 x (omega arith)) (find_same p q xs (λ k d l. h (suc k) d (omega arith)))
  where
    go : (a b : Bool) → a ≡ b → find p xs ≡ find q xs → cond a (Some x) (find p xs) ≡ cond b (Some x) (find q xs)
    go true true e same = refl
    go true false e same = cc
    go false true e same = cc
    go false false e same = same

find_none : (p : IndexedSection → Bool) (xs : List IndexedSection)
    → ((k : ℕ) (d : IndexedSection) → k < length xs → p (get_or xs k d) ≡ false) → find p xs ≡ None
find_none p xs h = find_same p (λ e. false) xs h ∙ never xs
  where
    never : (xs : List IndexedSection) → find (λ (e : IndexedSection). false) xs ≡ None
    never [] = refl
    never (x ∷ xs) = never xs

number_is : (o : Option ℕ) (at : ℕ) → is_number at o ≡ true → o ≡ Some at
number_is None at h = absurd (false≢true h)
number_is (Some n) at h = ap Some (sym (eqb-true at n h))

-- a column of the first entries has the place of the first entry of each part
module _ (p : Project) (entries : List IndexedSection) (t : InputSectionTable)
    (places : List (Option SectionAddress))
    (table : IsTableOf p t) (numbers : HaveNumbers t entries) (column : IsColumn t entries places)
    (n : ℕ) (part : Part) where
  abbrev sought : IndexedSection → Bool
  sought = is_part_of n part

  same_number : (e : IndexedSection) → sought e ≡ true → number_of t e.object e.part ≡ number_of t n part
  same_number e h =
      let k = and_parts (e.object == n) (is_same_part e.part part) h in
      ap (λ i. number_of t i e.part) (eqb-true e.object n k.0) ∙ ap (number_of t n) (same_part e.part part k.1)

  is_sought : (e : IndexedSection) → (e.object ≡ n) × (e.part ≡ part) → sought e ≡ true
  is_sought e k =
      and_from (e.object == n) (is_same_part e.part part) (eq-eqb e.object n k.0)
      (subst (λ (q : Part). is_same_part e.part q ≡ true) k.1 (own_part e.part))

  module _ (at : ℕ) (is : number_of t n part ≡ Some at) where
    same_test : (e : IndexedSection) → sought e ≡ has_number t at e
    same_test e =
        both_ways (sought e) (has_number t at e)
        (λ h. ap (is_number at) (same_number e h ∙ is) ∙ eq-eqb at at refl)
        (λ h. is_sought e (table.apart e.object n e.part part at (number_is (number_of t e.object e.part) at h) is))

    found : get_or places at None ≡ option_map address_of_entry (find sought entries)
    found =
        column.firsts at (table.below n part at is)
        ∙ ap (option_map address_of_entry)
        (sym (find_same sought (has_number t at) entries (λ i d l. same_test (get_or entries i d))))

  unranked : number_of t n part ≡ None → (i : ℕ) (d : IndexedSection) → i < length entries → sought (get_or entries i d)
      ≡ false
  unranked e i d l = go (sought (get_or entries i d)) refl
    where
      go : (b : Bool) → sought (get_or entries i d) ≡ b → b ≡ false
      go false h = refl
      go true h =
          absurd (false≢true (subst IsSome (same_number (get_or entries i d) h ∙ e) (numbers i d l)))

  pub has_first :
      option_and_then (λ (at : ℕ). get_or places at None) (number_of t n part)
      ≡ option_map address_of_entry (find (is_part_of n part) entries)
  has_first = go (number_of t n part) refl
    where
      go : (o : Option ℕ) → number_of t n part ≡ o
          → option_and_then (λ (at : ℕ). get_or places at None) o ≡ option_map address_of_entry (find sought entries)
      go None e = sym (ap (option_map address_of_entry) (find_none sought entries (unranked e)))
      go (Some at) e = found at e

-- ---- a column that is filled, entry by entry

or_none : (o : Option IndexedSection) → option_or o None ≡ o
or_none None = refl
or_none (Some x) = refl

pub none_is : (o : Option SectionAddress) (b : Bool) → is_some o ≡ not b → is_none o ≡ b
none_is None true e = refl
none_is None false e = absurd (false≢true e)
none_is (Some x) true e = absurd (false≢true (sym e))
none_is (Some x) false e = refl

-- what is found stays so where something has a place
kept_first : (o : Option IndexedSection) (place : Option SectionAddress) (e : IndexedSection)
    → place ≡ option_map address_of_entry o → is_none place ≡ false → option_or o (Some e) ≡ o
kept_first None place e is some = absurd (false≢true (sym some ∙ ap is_none is))
kept_first (Some x) place e is some = refl

-- and where nothing has one, it is the entry
new_first : (o : Option IndexedSection) (place : Option SectionAddress) (e : IndexedSection)
    → place ≡ option_map address_of_entry o → is_none place ≡ true → option_or o (Some e) ≡ Some e
new_first None place e is none = refl
new_first (Some x) place e is none = absurd (false≢true (sym (ap is_none is) ∙ none))

module _ (t : InputSectionTable) (before : List IndexedSection) (e : IndexedSection)
    (old : List (Option SectionAddress)) (was : IsColumn t before old) where
  abbrev firsts_now : ℕ → Option IndexedSection
  firsts_now at = find (has_number t at) (before ++ e ∷ [])

  abbrev firsts_before : ℕ → Option IndexedSection
  firsts_before at = find (has_number t at) before

  tested : (at : ℕ) (b : Bool) → has_number t at e ≡ b
      → firsts_now at ≡ option_or (firsts_before at) (cond b (Some e) None)
  tested at b h =
      find-append (has_number t at) before (e ∷ [])
      ∙ ap (λ b. option_or (firsts_before at) (cond b (Some e) None)) h

  other : (at : ℕ) → has_number t at e ≡ false → firsts_now at ≡ firsts_before at
  other at h = tested at false h ∙ or_none (firsts_before at)

  -- after an entry without a number
  pub none_added : number_of t e.object e.part ≡ None → IsColumn t (before ++ e ∷ []) old
  none_added none = record {
    long = was.long;
    firsts = λ at l.
        was.firsts at l ∙ ap (option_map address_of_entry) (sym (other at (ap (is_number at) none)));
  }

  module _ (own_at : ℕ) (number : number_of t e.object e.part ≡ Some own_at) (below : own_at < len_of t) where
    others : (at : ℕ) → at ≢ own_at → firsts_now at ≡ firsts_before at
    others at ne = other at (ap (is_number at) number ∙ ne_eqb at own_at ne)

    own : firsts_now own_at ≡ option_or (firsts_before own_at) (Some e)
    own = tested own_at true (ap (is_number own_at) number ∙ eq-eqb own_at own_at refl)

    place_is : (o : Option SectionAddress) → o ≡ get_or old own_at o → o
        ≡ option_map address_of_entry (firsts_before own_at)
    place_is o is = is ∙ get_or_default old own_at o None (omega (arith, was.long, below)) ∙ was.firsts own_at below

    -- after a later one of a number
    pub later_added : (o : Option SectionAddress) → o ≡ get_or old own_at o → is_none o ≡ false
        → IsColumn t (before ++ e ∷ []) old
    later_added o is some = record {
      long = was.long;
      firsts = λ at l. was.firsts at l ∙ ap (option_map address_of_entry) (⊎_elim
          (λ (same : at ≡ own_at). subst (λ i. firsts_before i ≡ firsts_now i) (sym same)
          (sym (own ∙ kept_first (firsts_before own_at) o e (place_is o is) some)))
          (λ (ne : at ≢ own_at). sym (others at ne))
          (cases_eq at own_at));
    }

    -- after the first one of a number
    pub first_added : (o : Option SectionAddress) → o ≡ get_or old own_at o → is_none o ≡ true
        → IsColumn t (before ++ e ∷ []) (set old own_at (Some e.address))
    first_added o is none = record {
      long = length-set old own_at (Some e.address) ∙ was.long;
      firsts = λ at l. ⊎_elim
          (λ (same : at ≡ own_at). subst (λ i. get_or (set old own_at (Some e.address)) i None
          ≡ option_map address_of_entry (firsts_now i)) (sym same)
          (get_or-set_same old own_at (Some e.address) None (omega (arith, was.long, below))
          ∙ ap (option_map address_of_entry) (sym (own
          ∙ new_first (firsts_before own_at) o e (place_is o is) none))))
          (λ (ne : at ≢ own_at). get_or-set_other old own_at at (Some e.address) None ne ∙ was.firsts at l
          ∙ ap (option_map address_of_entry) (sym (others at ne)))
          (cases_eq at own_at);
    }

-- ---- a column that is filled by several entries

-- some of these entries have been added, and the others are left
pub record Added (t : InputSectionTable) (old new : List (Option SectionAddress)) (left all : List IndexedSection)
    : Type 0 where
  pub done : List IndexedSection
  pub added : AddsEntries t old new done
  pub rest : done ++ left ≡ all

append_nil : (xs : List IndexedSection) → xs ++ [] ≡ xs
append_nil [] = refl
append_nil (x ∷ xs) = ap (λ l. x ∷ l) (append_nil xs)

-- nothing is added
pub nothing_added : (t : InputSectionTable) (column : List (Option SectionAddress)) → AddsEntries t column column []
nothing_added t column = λ before was. subst (λ l. IsColumn t l column) (sym (append_nil before)) was

-- first these and then those
pub added_both : (t : InputSectionTable) (a b c : List (Option SectionAddress)) (xs ys : List IndexedSection)
    → AddsEntries t a b xs → AddsEntries t b c ys → AddsEntries t a c (xs ++ ys)
added_both t a b c xs ys first second =
    λ before was. subst (λ l. IsColumn t l c) (append_assoc before xs ys) (second (before ++ xs) (first before was))

-- a column of some of these entries, where the others are left
pub record ColumnOf (t : InputSectionTable) (places : List (Option SectionAddress)) (left all : List IndexedSection)
    : Type 0 where
  pub done : List IndexedSection
  pub column : IsColumn t done places
  pub rest : done ++ left ≡ all
