-- Tables under the numbers of names find what a search by name does.
use Rattle.place_terms.proofs.Common.{AreInOrder, AreValuesOf, Bool, List, MemoryRegion, None, Option, Some, Statement}
use Rattle.place_terms.proofs.Common.{[], ap, arith, bytes_eq, cond, entry_under, eq-eqb, eqb-true, false, find}
use Rattle.place_terms.proofs.Common.{freed_from, get_or, get_or-set_at, get_or-set_other, length, map, option_and_then}
use Rattle.place_terms.proofs.Common.{option_map, other_name, refl, region_names, set, slice_get, suc, sym}
use Rattle.place_terms.proofs.Common.{symbol_number, true, value_of, zero, ℕ, ◌++◌, ◌+◌, ◌<◌, ◌==◌, ◌∙◌, ◌∷◌, ◌≡◌, ◌≢◌}
use Rattle.ldmodel.specs.Layout.{ScriptSymbol}
use Rattle.place_terms.proofs.Lists.{find-append, or_else, same_name, is_same_name}
use Rattle.place_terms.proofs.Numbers.{Tells, symbols_told}

-- names whose numbers follow one another from one on
abbrev InOrderFrom : (List ℕ → Option ℕ) → ℕ → List (List ℕ) → Type 0
InOrderFrom number n names = (k : ℕ) → k < length names → number (get_or names k []) ≡ Some (n + k)

first_in : (number : List ℕ → Option ℕ) (n : ℕ) (x : List ℕ) (names : List (List ℕ)) → InOrderFrom number n (x ∷ names)
    → number x ≡ Some n
first_in number n x names o = let h = o 0 (omega arith) in let e : n + 0 ≡ n = omega arith in h ∙ ap Some e

later_in : (number : List ℕ → Option ℕ) (n : ℕ) (x : List ℕ) (names : List (List ℕ)) → InOrderFrom number n (x ∷ names)
    → InOrderFrom number (suc n) names
later_in number n x names o k l = let h = o (suc k) (omega arith) in let e : n + suc k ≡ suc n + k = omega arith in h
    ∙ ap Some e

-- the element under a number, in a list whose numbers begin with another
abbrev at_number : {X : Type 0} → ℕ → List X → ℕ → Option X
at_number n [] k = None
at_number n (x ∷ xs) k = cond (k == n) (Some x) (at_number (suc n) xs k)

abbrev at_option : {X : Type 0} → ℕ → List X → Option ℕ → Option X
at_option n xs None = None
at_option n xs (Some k) = at_number n xs k

at_none : {X : Type 0} (n : ℕ) (r : Option ℕ) → at_option {X = X} n [] r ≡ None
at_none n None = refl
at_none n (Some k) = refl

at_number_is : {X : Type 0} (n : ℕ) (xs : List X) (j : ℕ) → at_number n xs (n + j) ≡ slice_get xs j
at_number_is n [] j = refl
at_number_is n (x ∷ xs) zero = let e : n + 0 ≡ n = omega arith in rw (eq-eqb (n + 0) n e) refl
at_number_is n (x ∷ xs) (suc j) =
    let ne : (n + suc j == n) ≡ false = grind arith in
    let e : n + suc j ≡ suc n + j = omega arith in
    rw ne (ap (at_number (suc n) xs) e ∙ at_number_is (suc n) xs j)

module _ {X : Type 0} (name_of : X → List ℕ) (number : List ℕ → Option ℕ) (told : Tells number) (name : List ℕ) where
  found_from : (n : ℕ) (xs : List X) → InOrderFrom number n (map name_of xs) → find (λ x. bytes_eq (name_of x) name) xs
      ≡ at_option n xs (number name)
  found_from n [] o = sym (at_none n (number name))
  found_from n (x ∷ xs) o =
      go (bytes_eq (name_of x) name) refl (number name) refl (first_in number n (name_of x) (map name_of xs) o)
      (found_from (suc n) xs (later_in number n (name_of x) (map name_of xs) o))
    where
      go : (b : Bool) → bytes_eq (name_of x) name ≡ b → (r : Option ℕ) → number name ≡ r → number (name_of x) ≡ Some n
          → find (λ y. bytes_eq (name_of y) name) xs ≡ at_option (suc n) xs (number name)
          → cond b (Some x) (find (λ y. bytes_eq (name_of y) name) xs) ≡ at_option n (x ∷ xs) r
      go true e None f first later = let same = ap number (same_name (name_of x) name e) in
          absurd (let no : ⊥ = cc in no)
      go true e (Some k) f first later =
          let same = ap number (same_name (name_of x) name e) in
          let k_is : k ≡ n = cc in rw (eq-eqb k n k_is) refl
      go false e None f first later = later ∙ ap (at_option (suc n) xs) f
      go false e (Some k) f first later = split (k == n) refl (later ∙ ap (at_option (suc n) xs) f)
        where
          split : (c : Bool) → (k == n) ≡ c → find (λ y. bytes_eq (name_of y) name) xs ≡ at_number (suc n) xs k
              → find (λ y. bytes_eq (name_of y) name) xs ≡ cond c (Some x) (at_number (suc n) xs k)
          split true q h =
              let k_is : k ≡ n = eqb-true k n q in
              let same : name_of x ≡ name = told.apart (name_of x) name n first (f ∙ ap Some k_is) in
              let yes = is_same_name (name_of x) name same in
              absurd (let no : ⊥ = cc in no)
          split false q h = h

  -- a search by name finds what stands under the number of the name
  pub found_under : (xs : List X) → AreInOrder number (map name_of xs) → find (λ x. bytes_eq (name_of x) name) xs
      ≡ option_and_then (λ k. slice_get xs k) (number name)
  found_under xs o = found_from 0 xs (λ k l. o k l ∙ ap Some (zero_more k)) ∙ go (number name)
    where
      zero_more : (k : ℕ) → k ≡ 0 + k
      zero_more k = omega arith

      go : (r : Option ℕ) → at_option 0 xs r ≡ option_and_then (λ k. slice_get xs k) r
      go None = refl
      go (Some k) = ap (at_number 0 xs) (zero_more k) ∙ at_number_is 0 xs k

-- the regions keep their next free addresses where none has the name
pub unfreed : (name : List ℕ) (next : ℕ) (rs : List MemoryRegion)
    → ((k : ℕ) → k < length (region_names rs) → get_or (region_names rs) k [] ≢ name) → freed_from (Some name) next rs
    ≡ rs
unfreed name next [] h = refl
unfreed name next (r ∷ rs) h =
    let e = other_name r.name name (h 0 (omega arith)) in
    rw (e, unfreed name next rs (λ k l. h (suc k) (omega arith))) refl

pub freed_at : (number : List ℕ → Option ℕ) → Tells number
    → (name : List ℕ) (next n : ℕ) (rs : List MemoryRegion) (j : ℕ) (d : MemoryRegion)
    → InOrderFrom number n (region_names rs) → number name ≡ Some (n + j) → j < length rs
    → freed_from (Some name) next rs ≡ set rs j (record (get_or rs j d) { next = next })
freed_at number told name next n [] j d o e l = absurd (omega arith)
freed_at number told name next n (r ∷ rs) zero d o e l =
    let first = first_in number n r.name (region_names rs) o in
    let n_is : n + 0 ≡ n = omega arith in
    let same = is_same_name r.name name (told.apart r.name name n first (e ∙ ap Some n_is)) in
    let rest = unfreed name next rs (λ k h s. let f = later_in number n r.name (region_names rs) o k h in let g =
    ap number s in let m : suc n + k ≡ n + 0 = cc in omega arith) in
    rw (same, rest) refl
freed_at number told name next n (r ∷ rs) (suc j) d o e l =
    let first = first_in number n r.name (region_names rs) o in
    let e' : n + suc j ≡ suc n + j = omega arith in
    let other = other_name r.name name (λ s. let g = ap number s in let m : n ≡ n + suc j = cc in omega arith) in
    let rest = freed_at number told name next (suc n) rs j d (later_in number n r.name (region_names rs) o) (e
    ∙ ap Some e') (omega arith) in
    rw (other, rest) refl

-- one more symbol, which counts where the name had none
value_more : (xs : List ScriptSymbol) (x : ScriptSymbol) (m : List ℕ) → value_of (xs ++ x ∷ []) m
    ≡ or_else (value_of xs m) (cond (bytes_eq x.name m) (Some x.value) None)
value_more xs x m = ap (option_map (λ (y : ScriptSymbol). y.value))
    (find-append (λ (y : ScriptSymbol). bytes_eq y.name m) xs (x ∷ []))
    ∙ go (find (λ (y : ScriptSymbol). bytes_eq y.name m) xs) (bytes_eq x.name m)
  where
    go : (o : Option ScriptSymbol) (b : Bool)
        → option_map (λ (y : ScriptSymbol). y.value) (or_else o (cond b (Some x) None))
        ≡ or_else (option_map (λ (y : ScriptSymbol). y.value) o) (cond b (Some x.value) None)
    go (Some y) b = refl
    go None true = refl
    go None false = refl

module _ (script : List Statement) (values : List (Option ℕ)) (xs : List ScriptSymbol) (x : ScriptSymbol) (k : ℕ)
    (known : symbol_number script x.name ≡ Some k) (tabled : AreValuesOf script values xs) where
  here_before : value_of xs x.name ≡ get_or values k None
  here_before = sym (tabled.found x.name) ∙ ap (entry_under values) known

  elsewhere : (vs : List (Option ℕ)) (m : List ℕ) → bytes_eq x.name m ≡ false
      → ((j : ℕ) → j ≢ k → get_or vs j None ≡ get_or values j None) → entry_under vs (symbol_number script m)
      ≡ value_of (xs ++ x ∷ []) m
  elsewhere vs m e same = go (symbol_number script m) refl (tabled.found m)
      ∙ (rest (value_of xs m) ∙ sym (rw e at (value_more xs x m)))
    where
      go : (o : Option ℕ) → symbol_number script m ≡ o → entry_under values (symbol_number script m) ≡ value_of xs m
          → entry_under vs (symbol_number script m) ≡ value_of xs m
      go None f h = ap (entry_under vs) f ∙ (sym (ap (entry_under values) f) ∙ h)
      go (Some j) f h =
          let other : j ≢ k = (λ s. let a =
          is_same_name x.name m ((symbols_told script).apart x.name m k known (f ∙ ap Some s)) in let no : ⊥ =
          cc in no) in
          ap (entry_under vs) f ∙ (same j other ∙ (sym (ap (entry_under values) f) ∙ h))

      rest : (o : Option ℕ) → o ≡ or_else o None
      rest None = refl
      rest (Some v) = refl

  -- the name had no value
  pub values_more : k < length values → get_or values k None ≡ None
      → AreValuesOf script (set values k (Some x.value)) (xs ++ x ∷ [])
  values_more l none = record { found = λ m. go m (bytes_eq x.name m) refl }
    where
      go : (m : List ℕ) (b : Bool) → bytes_eq x.name m ≡ b
          → entry_under (set values k (Some x.value)) (symbol_number script m) ≡ value_of (xs ++ x ∷ []) m
      go m true e =
          let same = same_name x.name m e in
          let number = ap (symbol_number script) (sym same) ∙ known in
          let before = ap (value_of xs) (sym same) ∙ (here_before ∙ none) in
          ap (entry_under (set values k (Some x.value))) number
          ∙ (get_or-set_at values k k (Some x.value) None refl l ∙ sym (value_more xs x m ∙ rw (before, e) refl))
      go m false e = elsewhere (set values k (Some x.value)) m e (λ j ne.
          get_or-set_other values k j (Some x.value) None ne)

  -- the name had one, which stays
  pub values_same : (v : ℕ) → get_or values k None ≡ Some v → AreValuesOf script values (xs ++ x ∷ [])
  values_same v some = record { found = λ m. go m (bytes_eq x.name m) refl }
    where
      go : (m : List ℕ) (b : Bool) → bytes_eq x.name m ≡ b → entry_under values (symbol_number script m)
          ≡ value_of (xs ++ x ∷ []) m
      go m true e =
          let same = same_name x.name m e in
          let number = ap (symbol_number script) (sym same) ∙ known in
          let before = ap (value_of xs) (sym same) ∙ (here_before ∙ some) in
          ap (entry_under values) number ∙ (some ∙ sym (value_more xs x m ∙ rw before refl))
      go m false e = elsewhere values m e (λ j ne. refl)

-- what stands at a place, whatever is given for a place past the end
pub at_place : {X : Type 0} (xs : List X) (k : ℕ) (r o d : X) → r ≡ get_or xs k r → r ≡ o → k < length xs
    → get_or xs k d ≡ o
at_place [] k r o d e f l = absurd (omega arith)
at_place (x ∷ xs) zero r o d e f l = sym e ∙ f
at_place (x ∷ xs) (suc k) r o d e f l = at_place xs k r o d e f (omega arith)
