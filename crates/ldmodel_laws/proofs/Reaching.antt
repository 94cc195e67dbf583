-- What is reached in as many rounds as there are nodes is what paths lead to.
use Rattle.ldmodel_laws.proofs.Common.{Bool, Contains, List, Path, ap, arith, filter, inl, inr, length, list_any}
use Rattle.ldmodel_laws.proofs.Common.{or_cases, or_left, or_right, reached, reached_in, refl, start, step, subst, suc}
use Rattle.ldmodel_laws.proofs.Common.{sym, true, zero, ℕ, ⊎_elim, ◌+◌, ◌-◌, ◌<◌, ◌||◌, ◌↔◌, ◌∙◌, ◌≡◌, ◌≤◌, ◌⊎◌}
use Rattle.ldmodel_laws.proofs.Members.{Passes, in_filter, filter_in, in_any, any_in, filter_shorter, same_or_longer}

module _ {X : Type 0} (is_start : X → Bool) (leads : X → X → Bool) (nodes : List X) where
  abbrev rounds : ℕ → List X
  rounds n = reached_in n is_start leads nodes

  abbrev next_test : List X → X → Bool
  next_test live x = is_start x || list_any (λ y. leads y x) live

  abbrev next : List X → List X
  next live = filter (next_test live) nodes

  abbrev test : ℕ → X → Bool
  test zero = is_start
  test (suc n) = next_test (rounds n)

  is_filter : (n : ℕ) → rounds n ≡ filter (test n) nodes
  is_filter zero = refl
  is_filter (suc n) = refl

  in_round : (n : ℕ) (x : X) → Contains (rounds n) x → Contains nodes x × (test n x ≡ true)
  in_round n x c = in_filter (test n) nodes x (subst (λ l. Contains l x) (is_filter n) c)

  round_in : (n : ℕ) (x : X) → Contains nodes x → test n x ≡ true → Contains (rounds n) x
  round_in n x c h = subst (λ l. Contains l x) (sym (is_filter n)) (filter_in (test n) nodes x c h)

  grows : (n : ℕ) (x : X) → test n x ≡ true → test (suc n) x ≡ true
  grows zero x h = or_left (is_start x) (list_any (λ y. leads y x) (rounds zero)) h
  grows (suc n) x h = ⊎_elim
      (λ e. or_left (is_start x) (list_any (λ y. leads y x) (rounds (suc n))) e)
      (λ e. let y : Passes (λ y. leads y x) (rounds n) = in_any (λ y. leads y x) (rounds n) e in
      let was : Contains nodes y.member × (test n y.member ≡ true) = in_round n y.member y.among in
      let is : Contains (rounds (suc n)) y.member = round_in (suc n) y.member was.0 (grows n y.member was.1) in
      or_right (is_start x) (list_any (λ y. leads y x) (rounds (suc n)))
      (any_in (λ y. leads y x) (rounds (suc n)) y.member is y.passes))
      (or_cases (is_start x) (list_any (λ y. leads y x) (rounds n)) h)

  -- a round that adds nothing
  record Settled (n : ℕ) : Type 0 where
    round : ℕ
    within : round < n
    same : rounds round ≡ rounds (suc round)

  settles_at : (n : ℕ) → (rounds n ≡ rounds (suc n)) ⊎ (length (rounds n) < length (rounds (suc n)))
  settles_at n = subst (λ l. (l ≡ rounds (suc n)) ⊎ (length l < length (rounds (suc n)))) (sym (is_filter n))
      (same_or_longer (test n) (test (suc n)) nodes (grows n))

  settled_or_long : (n : ℕ) → Settled n ⊎ (n ≤ length (rounds n))
  settled_or_long zero = inr (omega arith)
  settled_or_long (suc n) = go (settled_or_long n) (settles_at n)
    where
      go : Settled n ⊎ (n ≤ length (rounds n)) → (rounds n ≡ rounds (suc n))
          ⊎ (length (rounds n) < length (rounds (suc n))) → Settled (suc n) ⊎ (suc n ≤ length (rounds (suc n)))
      go (inl s) more = inl (record { round = s.round; within = omega (arith, s.within); same = s.same })
      go (inr long) (inl same) = inl (record { round = n; within = omega arith; same = same })
      go (inr long) (inr less) = inr (omega (arith, long, less))

  settled : Settled (suc (length nodes))
  settled = ⊎_elim (λ s. s)
      (λ long. let short : length (rounds (suc (length nodes))) ≤ length nodes =
      filter_shorter (test (suc (length nodes))) nodes in absurd (omega (arith, long, short)))
      (settled_or_long (suc (length nodes)))

  stays : (j k m : ℕ) → rounds k ≡ rounds (suc k) → m ≡ j + k → rounds m ≡ rounds k
  stays zero k m same e = let is : m ≡ k = omega (arith, e) in ap rounds is
  stays (suc j) k m same e =
      let is : m ≡ suc (j + k) = omega (arith, e) in
      ap rounds is ∙ ap next (stays j k (j + k) same refl) ∙ sym same

  abbrev last : ℕ
  last = length nodes

  is_closed : next (rounds last) ≡ rounds last
  is_closed =
      let s : Settled (suc last) = settled in
      let e : last ≡ (last - s.round) + s.round = omega (arith, s.within) in
      let is : rounds last ≡ rounds s.round = stays (last - s.round) s.round last s.same e in
      ap next is ∙ sym s.same ∙ sym is

  has_path : (n : ℕ) (x : X) → Contains (rounds n) x → Path is_start leads nodes x
  has_path zero x c = let h : Contains nodes x × (is_start x ≡ true) = in_filter is_start nodes x c in start x h.0 h.1
  has_path (suc n) x c =
      let h : Contains nodes x × (next_test (rounds n) x ≡ true) = in_filter (next_test (rounds n)) nodes x c in
      ⊎_elim
      (λ e. start x h.0 e)
      (λ e. let y : Passes (λ y. leads y x) (rounds n) = in_any (λ y. leads y x) (rounds n) e in
      step y.member x (has_path n y.member y.among) h.0 y.passes)
      (or_cases (is_start x) (list_any (λ y. leads y x) (rounds n)) h.1)

  in_next : (x : X) → Contains nodes x → next_test (rounds last) x ≡ true → Contains (rounds last) x
  in_next x c h = subst (λ l. Contains l x) is_closed (filter_in (next_test (rounds last)) nodes x c h)

  all_found : (x : X) → Path is_start leads nodes x → Contains (rounds last) x
  all_found x (start y c h) = in_next y c (or_left (is_start y) (list_any (λ z. leads z y) (rounds last)) h)
  all_found x (step y z p c h) =
      in_next z c (or_right (is_start z) (list_any (λ w. leads w z) (rounds last))
      (any_in (λ w. leads w z) (rounds last) y (all_found y p) h))

  pub reached_by_path : (x : X) → Contains (reached is_start leads nodes) x ↔ Path is_start leads nodes x
  unfolding reached
  reached_by_path x = (has_path last x, all_found x)

  pub reached_in_order : (keep : X → Bool) × (reached is_start leads nodes ≡ filter keep nodes)
  unfolding reached
  reached_in_order = (test last, is_filter last)
