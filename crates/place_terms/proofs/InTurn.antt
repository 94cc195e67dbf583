-- Symbols whose commands come in turn are found by the numbers of these.
use Rattle.place_terms.proofs.Common.{All, All-append, All-cons, All-nil, AreFound, AreInTurn, Bool, Err, IsFound, List}
use Rattle.place_terms.proofs.Common.{None, Numbered, Ok, Option, Rises, Some, Statement, [], ap, arith, bytes_eq}
use Rattle.place_terms.proofs.Common.{cases_lt, cond, drop, eq-eqb, eqb-true, false, find, get_or, get_or_default, inl}
use Rattle.place_terms.proofs.Common.{inr, le-ltb, length, ltb-false, map, name_given_by, nat_lt, option_and_then}
use Rattle.place_terms.proofs.Common.{option_map, refl, risen, slice_get, subst, suc, sym, symbol_number, symbol_of}
use Rattle.place_terms.proofs.Common.{take, take-append-drop, true, value_of, value_under, zero, ℕ, ◌++◌, ◌+◌, ◌-◌, ◌<◌}
use Rattle.place_terms.proofs.Common.{◌==◌, ◌∙◌, ◌∷◌, ◌≡◌, ◌≢◌, ◌≤◌}
use Rattle.std.specs.List.Sorted.{IsBinarySearchResult, IsNonDecreasingBy}
use Rattle.std.specs.Ordering.{nat_cmp, ordering_index}
use Rattle.std.proofs.lemmas.Bool.Decides.{nat_tests}
use Rattle.std.proofs.lemmas.Cmp.{ranked}
use Rattle.ldmodel.specs.Layout.{ScriptSymbol}
use Rattle.ldmodel.specs.declared.script_symbol.ScriptSymbol as code
use Rattle.place_terms.proofs.Lists.{same_name, is_same_name}
use Rattle.place_terms.proofs.Numbers.{symbols_told}

-- one list after another
pub risen_append : (n : ℕ) (xs ys : List code.ScriptSymbol) → risen n (xs ++ ys)
    ≡ option_and_then (λ m. risen m ys) (risen n xs)
risen_append n [] ys = refl
risen_append n (x ∷ xs) ys = go (nat_lt x.command.0 n) (risen_append (x.command.0 + 1) xs ys)
  where
    go : (b : Bool)
        → risen (x.command.0 + 1) (xs ++ ys) ≡ option_and_then (λ m. risen m ys) (risen (x.command.0 + 1) xs)
        → cond b None (risen (x.command.0 + 1) (xs ++ ys))
        ≡ option_and_then (λ m. risen m ys) (cond b None (risen (x.command.0 + 1) xs))
    go true h = refl
    go false h = h

-- the first one, and those after it
record First (n : ℕ) (x : code.ScriptSymbol) (xs : List code.ScriptSymbol) (m : ℕ) : Type 0 where
  pub least : n ≤ x.command.0
  pub later : risen (x.command.0 + 1) xs ≡ Some m

first : (n : ℕ) (x : code.ScriptSymbol) (xs : List code.ScriptSymbol) (m : ℕ) → risen n (x ∷ xs) ≡ Some m
    → First n x xs m
first n x xs m r = go (nat_lt x.command.0 n) refl r
  where
    go : (b : Bool) → nat_lt x.command.0 n ≡ b → cond b None (risen (x.command.0 + 1) xs) ≡ Some m → First n x xs m
    go true e h = absurd (let no : ⊥ = cc in no)
    go false e h = record { least = ltb-false x.command.0 n e; later = h }

at_least : (n : ℕ) (xs : List code.ScriptSymbol) (m : ℕ) → risen n xs ≡ Some m
    → (j : ℕ) (d : code.ScriptSymbol) → j < length xs → n ≤ (get_or xs j d).command.0
at_least n [] m r j d l = absurd (omega arith)
at_least n (x ∷ xs) m r zero d l = (first n x xs m r).least
at_least n (x ∷ xs) m r (suc j) d l =
    let f = first n x xs m r in
    let h = at_least (x.command.0 + 1) xs m f.later j d (omega arith) in
    omega (arith, h, f.least)

rises : (n : ℕ) (xs : List code.ScriptSymbol) (m : ℕ) → risen n xs ≡ Some m
    → IsNonDecreasingBy (λ (x : code.ScriptSymbol). x.command.0) xs
rises n [] m r i j d le l = absurd (omega arith)
rises n (x ∷ xs) m r zero zero d le l = omega arith
rises n (x ∷ xs) m r zero (suc j) d le l =
    let h = at_least (x.command.0 + 1) xs m (first n x xs m r).later j d (omega arith) in omega (arith, h)
rises n (x ∷ xs) m r (suc i) zero d le l = absurd (omega arith)
rises n (x ∷ xs) m r (suc i) (suc j) d le l =
    rises (x.command.0 + 1) xs m (first n x xs m r).later i j d (omega arith) (omega arith)

-- a symbol that is there
found_from : (n : ℕ) (xs : List code.ScriptSymbol) (m : ℕ) → risen n xs ≡ Some m
    → (i : ℕ) (x : code.ScriptSymbol) (k : ℕ) → i < length xs → x ≡ get_or xs i x → x.command.0 ≡ k
    → value_under xs k ≡ Some x.value
found_from n [] m r i x k l at is = absurd (omega arith)
found_from n (y ∷ ys) m r zero x k l at is =
    let e = eq-eqb y.command.0 k (ap (λ (z : code.ScriptSymbol). z.command.0) (sym at) ∙ is) in
    rw e (ap (λ (z : code.ScriptSymbol). Some z.value) (sym at))
found_from n (y ∷ ys) m r (suc i) x k l at is =
    let f = first n y ys m r in
    let h = at_least (y.command.0 + 1) ys m f.later i x (omega arith) in
    let same = ap (λ (z : code.ScriptSymbol). z.command.0) at in
    let ne : (y.command.0 == k) ≡ false = grind (arith, h, same, is) in
    rw ne (found_from (y.command.0 + 1) ys m f.later i x k (omega arith) at is)

-- none is there
none_under : (xs : List code.ScriptSymbol) (k : ℕ) → All (λ (x : code.ScriptSymbol). x.command.0 ≢ k) xs
    → value_under xs k ≡ None
none_under [] k a = refl
none_under (x ∷ xs) k a =
    go (x.command.0 == k) refl (none_under xs k (λ j d l. a (suc j) d (omega arith)))
  where
    go : (b : Bool) → (x.command.0 == k) ≡ b → value_under xs k ≡ None
        → option_map (λ (y : code.ScriptSymbol). y.value)
        (cond b (Some x) (find (λ (y : code.ScriptSymbol). y.command.0 == k) xs)) ≡ None
    go true e later = absurd (a 0 x (omega arith) (eqb-true x.command.0 k e))
    go false e later = later

module _ (xs : List code.ScriptSymbol) (up : Rises xs) (k : ℕ) where
  found_in_turn : (i : ℕ) (x : code.ScriptSymbol) → i < length xs → x ≡ get_or xs i x → x.command.0 ≡ k
      → value_under xs k ≡ Some x.value
  found_in_turn i x l at is = found_from 0 xs up.next up.is i x k l at is

  pub found_here : (i : ℕ) (x : code.ScriptSymbol) → slice_get xs i ≡ Some x → x.command.0 ≡ k
      → value_under xs k ≡ Some x.value
  found_here i x e is = let t = there xs i e in found_in_turn i x t.0 t.1 is
    where
      there : (ys : List code.ScriptSymbol) (j : ℕ) → slice_get ys j ≡ Some x → (j < length ys) × (x ≡ get_or ys j x)
      there [] j h = absurd (let no : ⊥ = cc in no)
      there (y ∷ ys) zero h = (omega arith, let same : x ≡ y = cc in same)
      there (y ∷ ys) (suc j) h = let t = there ys j h in (omega (arith, t.0), t.1)

  -- what a binary search says
  pub found_at : (i : ℕ) (d : code.ScriptSymbol)
      → IsBinarySearchResult (λ (y : code.ScriptSymbol). nat_cmp y.command.0 k) xs (Ok i) → i < length xs
      → value_under xs k ≡ Some (get_or xs i d).value
  found_at i d equal l =
      found_in_turn i (get_or xs i d) l (get_or_default xs i d (get_or xs i d) l) (ranked _ k _ (sym (equal d)))

  comparisons_rise : IsNonDecreasingBy (λ (y : code.ScriptSymbol). ordering_index (nat_cmp y.command.0 k)) xs
  comparisons_rise i j d le l =
      let h = rises 0 xs up.next up.is i j d le l in
      grind (arith, nat_tests, h)

  pub none_at : (i : ℕ) → IsBinarySearchResult (λ (y : code.ScriptSymbol). nat_cmp y.command.0 k) xs (Err i)
      → value_under xs k ≡ None
  none_at i parted = none_under xs k (λ j d l same. elim (cases_lt j i) [
    | inl m ↦
        let below = ranked _ k _ (sym ((parted comparisons_rise).0 j d (omega arith) m)) in
        omega (arith, below, same)
    | inr m ↦ let above = ranked _ k _ (sym ((parted comparisons_rise).1 j d m l)) in omega (arith, above, same)
  ])

-- a symbol is found by the number of its name
pub value_by_name : (script : List Statement) (xs : List code.ScriptSymbol) → AreFound script xs → (name : List ℕ)
    → value_of (map (symbol_of script) xs) name ≡ option_and_then (value_under xs) (symbol_number script name)
value_by_name script [] found name = go (symbol_number script name)
  where
    go : (o : Option ℕ) → None ≡ option_and_then (value_under []) o
    go None = refl
    go (Some k) = refl
value_by_name script (x ∷ xs) found name =
    go (bytes_eq called name) refl (symbol_number script name) refl
    (value_by_name script xs (λ j d l. found (suc j) d (omega arith)) name)
  where
    called : List ℕ
    called = name_given_by script x.command.0

    known : symbol_number script called ≡ Some x.command.0
    known = found 0 x (omega arith)

    go : (b : Bool) → bytes_eq called name ≡ b → (o : Option ℕ) → symbol_number script name ≡ o
        → value_of (map (symbol_of script) xs) name ≡ option_and_then (value_under xs) (symbol_number script name)
        → option_map (λ (y : ScriptSymbol). y.value)
        (cond b (Some (symbol_of script x))
        (find (λ (y : ScriptSymbol). bytes_eq y.name name) (map (symbol_of script) xs)))
        ≡ option_and_then (value_under (x ∷ xs)) o
    go true e None f later =
        let same = ap (symbol_number script) (same_name called name e) in
        let here = known in absurd (let no : ⊥ = cc in no)
    go true e (Some k) f later =
        let same = ap (symbol_number script) (same_name called name e) in
        let here = known in
        let is : x.command.0 ≡ k = cc in rw (eq-eqb x.command.0 k is) refl
    go false e None f later = later ∙ ap (option_and_then (value_under xs)) f
    go false e (Some k) f later = split (x.command.0 == k) refl
      where
        split : (c : Bool) → (x.command.0 == k) ≡ c → value_of (map (symbol_of script) xs) name
            ≡ option_map (λ (y : code.ScriptSymbol). y.value)
            (cond c (Some x) (find (λ (y : code.ScriptSymbol). y.command.0 == k) xs))
        split true q =
            let same = (symbols_told script).apart called name k (known ∙ ap Some (eqb-true x.command.0 k q)) f in
            let yes = is_same_name called name same in absurd (let no : ⊥ = cc in no)
        split false q = later ∙ ap (option_and_then (value_under xs)) f

-- the first ones
pub rises_first : (xs : List code.ScriptSymbol) (k : ℕ) → Rises xs → Rises (take k xs)
rises_first xs k up =
    go (risen 0 (take k xs)) refl
    (sym (risen_append 0 (take k xs) (drop k xs)) ∙ (ap (risen 0) (take-append-drop k xs) ∙ up.is))
  where
    go : (o : Option ℕ) → risen 0 (take k xs) ≡ o → option_and_then (λ m. risen m (drop k xs)) o ≡ Some up.next
        → Rises (take k xs)
    go None e h = absurd (let no : ⊥ = cc in no)
    go (Some m) e h = record { next = m; is = e }

-- the number after the last one
risen_last : (n : ℕ) (xs : List code.ScriptSymbol) (m i : ℕ) (x : code.ScriptSymbol) → risen n xs ≡ Some m
    → length xs ≡ suc i → Some x ≡ slice_get xs i → m ≡ x.command.0 + 1
risen_last n [] m i x r l at = absurd (omega (arith, l))
risen_last n (y ∷ []) m zero x r l at = let f = (first n y [] m r).later in let same : x ≡ y = cc in cc
risen_last n (y ∷ []) m (suc i) x r l at = absurd (omega (arith, l))
risen_last n (y ∷ z ∷ zs) m zero x r l at = absurd (omega (arith, l))
risen_last n (y ∷ z ∷ zs) m (suc i) x r l at =
    risen_last (y.command.0 + 1) (z ∷ zs) m i x (first n y (z ∷ zs) m r).later (omega (arith, l)) at

pub last_risen : (xs : List code.ScriptSymbol) (x : code.ScriptSymbol) → Rises xs
    → Some x ≡ slice_get xs (length xs - 1) → risen 0 xs ≡ Some (x.command.0 + 1)
last_risen [] x up at = absurd (let no : ⊥ = cc in no)
last_risen (y ∷ ys) x up at =
    let i : length (y ∷ ys) - 1 ≡ length ys = omega arith in
    up.is
    ∙ ap Some (risen_last 0 (y ∷ ys) up.next (length ys) x up.is (omega arith) (at ∙ ap (slice_get (y ∷ ys)) i))

-- one more symbol
pub turns_more : (s : Numbered) (next : ℕ) (x : code.ScriptSymbol) (list : List code.ScriptSymbol)
    → AreInTurn s next → IsFound s.script x → next ≤ x.command.0 → list ≡ s.list ++ x ∷ []
    → AreInTurn (record { script = s.script; list = list }) (x.command.0 + 1)
turns_more s next x list a f l e = record {
  found = subst (AreFound s.script) (sym e)
      (All-append (IsFound s.script) s.list (x ∷ []) a.found
      (All-cons (IsFound s.script) x [] f (All-nil (IsFound s.script))));
  turns = ap (risen 0) e
      ∙ (risen_append 0 s.list (x ∷ [])
      ∙ (ap (option_and_then (λ n. risen n (x ∷ []))) a.turns ∙ rw (le-ltb x.command.0 next l) refl));
}
