-- Columns of places under the numbers of input sections.
use Rattle.gather.proofs.Common.{ArePlaces, Bool, GatheredSection, InputSectionTable, IsSome, List, None, Option}
use Rattle.gather.proofs.Common.{Project, SectionRef, Some, and_from, and_parts, ap, arith, cases_eq, cond, eq-eqb, eqb}
use Rattle.gather.proofs.Common.{eqb-true, false, false≢true, get_or, get_or-set_other, get_or-set_same, get_or_default}
use Rattle.gather.proofs.Common.{is_same_key, is_same_part, length, length-set, option_and_then, option_map, own_part}
use Rattle.gather.proofs.Common.{place_at, place_under, refl, same_Some, same_part, set, subst, sym, true, with_place}
use Rattle.gather.proofs.Common.{ℕ, ⊎_elim, ◌+◌, ◌<◌, ◌∙◌, ◌≡◌}
use Rattle.ldmodel.specs.declared.sections.Part.{Part}
use Rattle.gather.specs.SectionTable.{IsTableOf, len_of, number_of}
use Rattle.gather.specs.declared.input_section_table.SectionNumber.{SectionNumber}

same_key : (a b : SectionRef) → is_same_key a b ≡ true → a ≡ b
same_key a b h =
    let both = and_parts (eqb a.object.0 b.object.0) (is_same_part a.part b.part) h in
    ap (λ n. record { object = record { 0 = n }; part = a.part }) (eqb-true a.object.0 b.object.0 both.0)
    ∙ ap (λ q. record { object = b.object; part = q }) (same_part a.part b.part both.1)

key_itself : (a : SectionRef) → is_same_key a a ≡ true
key_itself a =
    and_from (eqb a.object.0 a.object.0) (is_same_part a.part a.part) (eq-eqb a.object.0 a.object.0 refl)
    (own_part a.part)

-- a column of a table, with one more place
module _ (p : Project) (t : InputSectionTable) (table : IsTableOf p t) (s : SectionRef) (n : ℕ) (old : List (Option ℕ))
    (long : length old ≡ len_of t) where
  module _ (at : ℕ) (is : number_of t s.object.0 s.part ≡ Some at) where
    own_place : (k : SectionRef) → k ≡ s → place_under t (set old at (Some n)) k ≡ Some n
    own_place k same =
        ap (place_under t (set old at (Some n))) same ∙ ap (option_and_then (place_at (set old at (Some n)))) is
        ∙ get_or-set_same old at (Some n) None (omega (arith, long, table.below s.object.0 s.part at is))

    elsewhere : (k : SectionRef) → is_same_key k s ≡ false
        → place_under t (set old at (Some n)) k ≡ place_under t old k
    elsewhere k differ = go (number_of t k.object.0 k.part) refl
      where
        go : (o : Option ℕ) → number_of t k.object.0 k.part ≡ o
            → option_and_then (place_at (set old at (Some n))) o ≡ option_and_then (place_at old) o
        go None e = refl
        go (Some m) e =
            get_or-set_other old at m (Some n) None (λ same.
            let both = table.apart k.object.0 s.object.0 k.part s.part at (e ∙ ap Some same) is in
            absurd (false≢true (sym differ ∙ and_from (eqb k.object.0 s.object.0) (is_same_part k.part s.part)
            (eq-eqb k.object.0 s.object.0 both.0)
            (subst (λ (q : Part). is_same_part k.part q ≡ true) both.1 (own_part k.part)))))

    put_at : (k : SectionRef) → place_under t (set old at (Some n)) k
        ≡ cond (is_same_key k s) (Some n) (place_under t old k)
    put_at k = go (is_same_key k s) refl
      where
        go : (b : Bool) → is_same_key k s ≡ b
            → place_under t (set old at (Some n)) k ≡ cond b (Some n) (place_under t old k)
        go true e = own_place k (same_key k s e)
        go false e = elsewhere k e

  is_none : (o : Option ℕ) → None ≡ o → IsSome o → ⊥
  is_none None e some = cc
  is_none (Some m) e some = cc

  pub put_under : (id : Option SectionNumber) → option_map (λ (i : SectionNumber). i.0) id
      ≡ number_of t s.object.0 s.part
      → IsSome (number_of t s.object.0 s.part) → (k : SectionRef)
      → place_under t (with_place id n old) k ≡ cond (is_same_key k s) (Some n) (place_under t old k)
  put_under None e some k = absurd (is_none (number_of t s.object.0 s.part) e some)
  put_under (Some i) e some k = put_at i.0 (sym e) k

-- one more section has its place
module _ (xs : List GatheredSection) (n : ℕ) (old new : SectionRef → Option ℕ) (s : GatheredSection) (low : n
    < length xs)
    (is : get_or xs n s ≡ s)
    (put : (k : SectionRef) → new k ≡ cond (is_same_key k s.section) (Some n) (old k))
    (before : ArePlaces xs n old) where
  other : (d : GatheredSection) → get_or xs n d ≡ s
  other d = get_or_default xs n d s low ∙ is

  below : (k : SectionRef) (m : ℕ) → new k ≡ Some m → m < n + 1
  below k m h = go (is_same_key k s.section) (sym (put k) ∙ h)
    where
      go : (b : Bool) → cond b (Some n) (old k) ≡ Some m → m < n + 1
      go true e = let same : n ≡ m = same_Some n m e in omega (arith, same)
      go false e = let less : m < n = before.below k m e in omega (arith, less)

  at_key : (k : SectionRef) (m : ℕ) (x : GatheredSection) → new k ≡ Some m → (get_or xs m x).section ≡ k
  at_key k m x h = go (is_same_key k s.section) refl (sym (put k) ∙ h)
    where
      go : (b : Bool) → is_same_key k s.section ≡ b → cond b (Some n) (old k) ≡ Some m
          → (get_or xs m x).section ≡ k
      go true same e =
          ap (λ i. (get_or xs i x).section) (sym (same_Some n m e))
          ∙ (ap (λ (y : GatheredSection). y.section) (other x) ∙ sym (same_key k s.section same))
      go false same e = before.is k m x e

  known : (k : SectionRef) → IsSome (old k) → IsSome (new k)
  known k h = subst (λ (o : Option ℕ). IsSome o) (sym (put k)) (go (is_same_key k s.section))
    where
      go : (b : Bool) → IsSome (cond b (Some n) (old k))
      go true = refl
      go false = h

  last_known : IsSome (new s.section)
  last_known = subst (λ (o : Option ℕ). IsSome o) (sym (put s.section
      ∙ ap (λ b. cond b (Some n) (old s.section)) (key_itself s.section))) refl

  all_known : (m : ℕ) (x : GatheredSection) → m < n + 1 → IsSome (new (get_or xs m x).section)
  all_known m x h = ⊎_elim
      (λ (e : m ≡ n). subst (λ (k : SectionRef). IsSome (new k))
      (sym (ap (λ i. (get_or xs i x).section) e ∙ ap (λ (y : GatheredSection). y.section) (other x))) last_known)
      (λ ne. known (get_or xs m x).section (before.all m x (omega (arith, h, ne))))
      (cases_eq m n)

  pub more_placed : ArePlaces xs (n + 1) new
  more_placed = record { below = below; is = at_key; all = all_known }

-- the same of the section at a place
pub next_placed : (xs : List GatheredSection) (n : ℕ) (d : GatheredSection) (old new : SectionRef → Option ℕ) → n
    < length xs
    → ((k : SectionRef) → new k
    ≡ cond (is_same_key k (get_or xs n d).section) (Some n) (old k))
    → ArePlaces xs n old → ArePlaces xs (n + 1) new
next_placed xs n d old new low put before =
    more_placed xs n old new (get_or xs n d) low (get_or_default xs n (get_or xs n d) d low) put before

-- the same of a column of a table
pub column_placed : (p : Project) (t : InputSectionTable) (xs : List GatheredSection) (n : ℕ) (d : GatheredSection)
    (id : Option SectionNumber)
    (old : List (Option ℕ)) → IsTableOf p t → length old ≡ len_of t → n < length xs
    → option_map (λ (i : SectionNumber). i.0) id
    ≡ number_of t (get_or xs n d).section.object.0 (get_or xs n d).section.part
    → IsSome (number_of t (get_or xs n d).section.object.0 (get_or xs n d).section.part)
    → ArePlaces xs n (place_under t old) → ArePlaces xs (n + 1) (place_under t (with_place id n old))
column_placed p t xs n d id old table long low is some before =
    next_placed xs n d (place_under t old) (place_under t (with_place id n old)) low
    (put_under p t table (get_or xs n d).section n old long id is some) before

pub long_with : (id : Option SectionNumber) (n : ℕ) (old : List (Option ℕ)) → length (with_place id n old) ≡ length old
long_with None n old = refl
long_with (Some i) n old = length-set old i.0 (Some n)
