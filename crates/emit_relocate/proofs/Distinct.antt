-- The first of each run of alike names in a sorted list.
use Rattle.emit_relocate.proofs.Common.{Bool, Bor, IsSortedBy, IsStrictWeakOrder, List, [], ap, append-nil, arith}
use Rattle.emit_relocate.proofs.Common.{bytes_eq, bytes_eq-Decides, cases_lt, cond, distinct_first, false, false≢true}
use Rattle.emit_relocate.proofs.Common.{get_or, get_or-map, inl, inr, is_before, length, length-map, nat_list_cmp_total}
use Rattle.emit_relocate.proofs.Common.{nat_lt, ranks_by, refl, sorted_far, subst, suc, sym, texts, true, true≢false}
use Rattle.emit_relocate.proofs.Common.{zero, ℕ, ⊎_elim, ◌&&◌, ◌++◌, ◌+◌, ◌-◌, ◌<◌, ◌∙◌, ◌∷◌, ◌≡◌, ◌≢◌, ◌≤◌, ◌⊎◌}
use Rattle.emit_text.proofs.ByteOrder.{Asc, In, Lt, Name, append_asc, append_in, in_append, lt_from_not_before}
use Rattle.emit_text.proofs.ByteOrder.{lt_trans}
use Rattle.emit_relocate.specs.ScriptNames.{fresh, is_repeat}

pub before_order : IsStrictWeakOrder is_before
before_order = ranks_by nat_list_cmp_total (λ (x : Name). x)

-- the one text comes before the other in byte order
abbrev pub text_before : Bor Name → Bor Name → Bool
text_before x y = is_before x.now y.now

-- sorted texts
pub texts_up : (xs : List (Bor Name)) → IsSortedBy text_before xs → IsSortedBy is_before (texts xs)
texts_up [] h k d low high = absurd (omega (arith, high))
texts_up (x ∷ xs) h k d low high =
    let f : Bor Name → Name = λ (y : Bor Name). y.now in
    let all : List (Bor Name) = x ∷ xs in
    let within : k + 1 < length all = subst (λ n. k + 1 < n) (length-map all f) high in
    let later : get_or (texts all) (k + 1) d ≡ f (get_or all (k + 1) x) = get_or-map f all (k + 1) x d within in
    let here : get_or (texts all) k d ≡ f (get_or all k x) =
    get_or-map f all k x d (omega (arith, within)) in
    ap (λ (n : Name). is_before n (get_or (texts all) k d)) later
    ∙ (ap (λ (n : Name). is_before (f (get_or all (k + 1) x)) n) here ∙ h k x low within)

not_same : (a b : Name) → bytes_eq a b ≡ false → a ≢ b
not_same a b e same = true≢false (sym ((bytes_eq-Decides a b).1 same) ∙ e)

same_or_not : (a b : Name) → (a ≡ b) ⊎ (a ≢ b)
same_or_not a b = go (bytes_eq a b) refl
  where
    go : (c : Bool) → bytes_eq a b ≡ c → (a ≡ b) ⊎ (a ≢ b)
    go true e = inl ((bytes_eq-Decides a b).0 e)
    go false e = inr (not_same a b e)

both_true : (a b : Bool) → a && b ≡ true → (a ≡ true) × (b ≡ true)
both_true true b h = (refl, h)
both_true false b h = absurd (false≢true h)

one_false : (a b : Bool) → a && b ≡ false → a ≡ true → b ≡ false
one_false true b h e = h
one_false false b h e = absurd (false≢true e)

module _ (names : List Name) (up : IsSortedBy is_before names) where
  -- one that is no repeat comes after all before it
  after_all : (k n : ℕ) → k < n → n < length names → is_repeat names n ≡ false
      → Lt (get_or names k []) (get_or names n [])
  after_all k n below within fresh_here =
      let m : ℕ = n - 1 in
      let positive : nat_lt 0 n ≡ true = grind arith in
      let apart : get_or names m [] ≢ get_or names n [] =
      not_same (get_or names m []) (get_or names n [])
      (one_false (nat_lt 0 n) (bytes_eq (get_or names m []) (get_or names n [])) fresh_here positive) in
      let step : Lt (get_or names m []) (get_or names n []) =
      lt_from_not_before (get_or names n []) (get_or names m []) (λ e. apart (sym e))
      (sorted_far is_before before_order names up m n [] (omega arith) within) in
      ⊎_elim (λ e. subst (λ (z : Name). Lt z (get_or names n [])) e step)
      (λ ne. lt_trans (get_or names k []) (get_or names m []) (get_or names n [])
      (lt_from_not_before (get_or names m []) (get_or names k []) ne
      (sorted_far is_before before_order names up k m [] (omega (arith, below)) (omega (arith, within, below)))) step)
      (same_or_not (get_or names m []) (get_or names k []))

  pub in_first : (n : ℕ) (z : Name) → In z (distinct_first names n) → (k : ℕ) × (k < n) × (get_or names k [] ≡ z)
  in_first zero z i = absurd i
  in_first (suc n) z i =
      ⊎_elim (λ j. earlier (in_first n z j)) (λ j. here (is_repeat names n) j)
      (in_append z (distinct_first names n) (fresh names n) i)
    where
      earlier : (k : ℕ) × (k < n) × (get_or names k [] ≡ z) → (k : ℕ) × (k < suc n) × (get_or names k [] ≡ z)
      earlier f = let l : f.0 < suc n = omega (arith, f.1) in (f.0, l, f.2)

      here : (b : Bool) → In z (cond b [] (get_or names n [] ∷ [])) → (k : ℕ) × (k < suc n) × (get_or names k [] ≡ z)
      here true j = absurd j
      here false (inl e) = let l : n < suc n = omega arith in (n, l, sym e)
      here false (inr j) = absurd j

  pub first_in : (n k : ℕ) → k < n → In (get_or names k []) (distinct_first names n)
  first_in zero k below = absurd (omega (arith, below))
  first_in (suc n) k below =
      append_in (get_or names k []) (distinct_first names n) (fresh names n)
      (⊎_elim (λ lt. inl (first_in n k lt))
      (λ le.
      let e : n ≡ k = omega (arith, le, below) in
      subst (λ j. In (get_or names j []) (distinct_first names n) ⊎ In (get_or names j []) (fresh names n)) e
      (here (is_repeat names n) refl (λ j l. first_in n j l)))
      (cases_lt k n))
    where
      here : (b : Bool) → is_repeat names n ≡ b → ((j : ℕ) → j < n → In (get_or names j []) (distinct_first names n))
          → In (get_or names n []) (distinct_first names n)
          ⊎ In (get_or names n []) (cond b [] (get_or names n [] ∷ []))
      here false e earlier = inr (inl refl)
      here true e earlier =
          let both = both_true (nat_lt 0 n) (bytes_eq (get_or names (n - 1) []) (get_or names n [])) e in
          let positive : nat_lt 0 n ≡ true = both.0 in
          let l : n - 1 < n = grind arith in
          inl (subst (λ (z : Name). In z (distinct_first names n))
          ((bytes_eq-Decides (get_or names (n - 1) []) (get_or names n [])).0 both.1) (earlier (n - 1) l))

  pub first_asc : (n : ℕ) → n ≤ length names → Asc (distinct_first names n)
  first_asc zero within = tt
  first_asc (suc n) within = go (is_repeat names n) refl (first_asc n (omega (arith, within)))
    where
      go : (b : Bool) → is_repeat names n ≡ b → Asc (distinct_first names n)
          → Asc (distinct_first names n ++ cond b [] (get_or names n [] ∷ []))
      go true e h = subst Asc (sym (append-nil (distinct_first names n))) h
      go false e h =
          append_asc (distinct_first names n) (get_or names n []) [] h
          (λ z i.
          let f = in_first n z i in
          subst (λ (w : Name). Lt w (get_or names n [])) f.2 (after_all f.0 n f.1 (omega (arith, within)) e))
          (tt, tt)
