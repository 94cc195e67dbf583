-- Columns of places under the keys of names.
use Rattle.gather.proofs.Common.{AreKeyPlaces, AreProjectPlaces, Bool, Case, HasCase, IsCaseOf, IsObjectAt, IsPlaceOf}
use Rattle.gather.proofs.Common.{List, NamedSymbol, None, ObjectData, ObjectPlace, Option, Project, SectionId}
use Rattle.gather.proofs.Common.{SectionRef, Some, [], ap, arith, case_at, cases_lt, cond, decision, decision_of, false}
use Rattle.gather.proofs.Common.{get_or, get_or-append-add, get_or_append_left, get_or_past, is_local, length}
use Rattle.gather.proofs.Common.{length-append, option_and_then, option_map, place_at, section_id, section_of_decision}
use Rattle.gather.proofs.Common.{section_of_place, section_of_symbol, subst, sym, ℕ, ⊎_elim, ◌++◌, ◌+◌, ◌<◌, ◌∙◌, ◌∷◌}
use Rattle.gather.proofs.Common.{◌≡◌, ◌≤◌}
use Rattle.symres.specs.SymbolTable.{IsNameAt, IsSymbolTable, SymbolTableState}
use Rattle.gather.proofs.Keyed.{place_of_key}
use Rattle.gather.proofs.Seen.{case_is}

-- the section that a case says
abbrev pub section_of : Project → Case ObjectPlace → Option SectionId
section_of p c = section_of_decision p (decision_of (λ key. key) c)

-- the keys below n have their places
pub record PlacesBelow (p : Project) (a : SymbolTableState) (n : ℕ) (column : List (Option ℕ)) : Type 0 where
  pub long : length column ≡ n
  pub are : (k : ℕ) (c : Case ObjectPlace) → k < n → case_at a.cases k ≡ Some c
      → IsPlaceOf p (section_of p c) (place_at column k)

pub none_below : (p : Project) (a : SymbolTableState) (column : List (Option ℕ)) → column ≡ []
    → PlacesBelow p a 0 column
none_below p a column empty = record { long = ap length empty; are = λ k c low. absurd (omega (arith, low)) }

-- one key more
module _ (p : Project) (a : SymbolTableState) (n : ℕ) (column new : List (Option ℕ)) (place : SectionRef → Option ℕ)
    (key : Option SectionRef) (number : Option ℕ) (are : AreProjectPlaces p place)
    (same : option_map (section_id (λ key. key)) key
    ≡ option_and_then (section_of_decision p) (option_map (decision_of (λ key. key)) (case_at a.cases n)))
    (is : number ≡ option_and_then place key) (pushed : new ≡ column ++ number ∷ [])
    (had : PlacesBelow p a n column) where
  earlier : (k : ℕ) → k < n → place_at new k ≡ place_at column k
  earlier k low =
      ap (λ (l : List (Option ℕ)). place_at l k) pushed
      ∙ get_or_append_left column (number ∷ []) None k (omega (arith, low, had.long))

  last : place_at new n ≡ number
  last =
      let at : length column + 0 ≡ n = omega (arith, had.long) in
      ap (λ (l : List (Option ℕ)). place_at l n) pushed
      ∙ (ap (λ i. place_at (column ++ number ∷ []) i) (sym at)
      ∙ get_or-append-add column (number ∷ []) 0 None)

  of_last : (c : Case ObjectPlace) → case_at a.cases n ≡ Some c → IsPlaceOf p (section_of p c) number
  of_last c case =
      place_of_key p place key (section_of p c) number are
      (same ∙ ap (λ o. option_and_then (section_of_decision p) (option_map (decision_of (λ key. key)) o)) case) is

  pub next_below : PlacesBelow p a (n + 1) new
  next_below = record {
    long = ap length pushed ∙ (length-append column (number ∷ []) ∙ ap (λ i. i + 1) had.long);
    are = λ k c low case. ⊎_elim
        (λ lt. subst (IsPlaceOf p (section_of p c)) (sym (earlier k lt)) (had.are k c lt case))
        (λ ge.
        let at : k ≡ n = omega (arith, ge, low) in
        subst (IsPlaceOf p (section_of p c)) (sym (ap (place_at new) at ∙ last))
        (of_last c (ap (case_at a.cases) (sym at) ∙ case)))
        (cases_lt k n);
  }

is_none : (c : Case ObjectPlace) → None ≡ Some c → ⊥
is_none c e = cc

case_within : (cases : List (Option (Case ObjectPlace))) (k n : ℕ) (c : Case ObjectPlace) → length cases ≤ n
    → case_at cases k ≡ Some c → k < n
case_within cases k n c many case = ⊎_elim
    (λ lt. lt)
    (λ ge. absurd (is_none c (sym (get_or_past cases k None (omega (arith, many, ge))) ∙ case)))
    (cases_lt k n)

-- all keys have theirs: past the table of cases none has a case
pub all_below : (p : Project) (a : SymbolTableState) (n : ℕ) (column : List (Option ℕ)) → length a.cases ≤ n
    → PlacesBelow p a n column → AreKeyPlaces p a column
all_below p a n column many had k c case = had.are k c (case_within a.cases k n c many case) case

-- the place under the key of a symbol of an object that isn't local
pub place_of_named : (p : Project) (a : SymbolTableState) (i n : ℕ) (object : ObjectData) (column : List (Option ℕ))
    (key : ℕ) (number : Option ℕ) (d : NamedSymbol) → IsSymbolTable p a → IsObjectAt p i object
    → AreKeyPlaces p a column → IsNameAt a i n key → HasCase a.cases key → number ≡ place_at column key
    → is_local (get_or object.symbols n d).symbol.binding ≡ false
    → IsPlaceOf p (section_of_symbol p i (get_or object.symbols n d)) number
place_of_named p a i n object column key number d table at are name has is seen =
    let s : NamedSymbol = get_or object.symbols n d in
    let case : IsCaseOf p s (Some has.0) =
    case_is p a i n object table at key (Some has.0) d name has (sym has.1) seen in
    subst (IsPlaceOf p (section_of_symbol p i s)) (sym is)
    (subst (λ (o : Option SectionId). IsPlaceOf p o (place_at column key)) (sym (of_case s has.0 case))
    (are key has.0 has.1))
  where
    of_case : (s : NamedSymbol) (c : Case ObjectPlace) → IsCaseOf p s (Some c)
        → section_of_symbol p i s ≡ section_of p c
    of_case s c h =
        ap (λ (b : Bool). cond b (section_of_place i s.symbol.place) (section_of_decision p (decision p s.name))) h.0
        ∙ ap (section_of_decision p) (sym h.1)
