-- The numbers of the sections that are kept.
use Rattle.gather.proofs.Common.{AreGathered, Bool, Contains, Contains-append_left, Contains-push, Contains-push_cases}
use Rattle.gather.proofs.Common.{Facts, GatheredSection, InputSection, InputStatementAt, IsSectionAt, IsTrue, List}
use Rattle.gather.proofs.Common.{None, Option, Project, Some, [], ap, append-nil, arith, cond, facts, false}
use Rattle.gather.proofs.Common.{first_match, inl, input_sections, input_statements, inr, is_kept, is_kept_by}
use Rattle.gather.proofs.Common.{kept_numbers, map, option_to_list, refl, shown_facts, slice_get, subst, suc, sym}
use Rattle.gather.proofs.Common.{taken_by, true, zero, ℕ, ⊎_elim, ◌++◌, ◌+◌, ◌↔◌, ◌∙◌, ◌∷◌, ◌≡◌, ◌⊎◌}
use Rattle.gather.specs.Matches.{number_of}
use Rattle.ldmodel_laws.proofs.Members.{here, later, first_or_later, none_in_nil}

module _ (statements : List InputStatementAt) where
  abbrev keeps : GatheredSection → Bool
  keeps x = is_kept_by statements (number_of x.statement)

  -- a number that is found
  found_at : (n : ℕ) (xs : List GatheredSection) (k : ℕ) (x : GatheredSection) → slice_get xs k ≡ Some x → keeps x
      ≡ true
      → Contains (kept_numbers statements n xs) (n + k)
  found_at n [] k x e h = cc
  found_at n (y ∷ ys) zero x e h =
      let same : y ≡ x = cc in
      let first : n + 0 ≡ n = omega arith in
      let yes : keeps y ≡ true = ap keeps same ∙ h in
      subst (λ b. Contains (cond b (n ∷ kept_numbers statements (n + 1) ys) (kept_numbers statements (n + 1) ys))
      (n + 0)) (sym yes)
      (subst (Contains (n ∷ kept_numbers statements (n + 1) ys)) (sym first)
      (here n (kept_numbers statements (n + 1) ys)))
  found_at n (y ∷ ys) (suc k) x e h =
      go (keeps y) (let at : n + 1 + k ≡ n + suc k = omega arith in
      subst (Contains (kept_numbers statements (n + 1) ys)) at (found_at (n + 1) ys k x e h))
    where
      go : (b : Bool) → Contains (kept_numbers statements (n + 1) ys) (n + suc k)
          → Contains (cond b (n ∷ kept_numbers statements (n + 1) ys) (kept_numbers statements (n + 1) ys)) (n + suc k)
      go true c = later n (kept_numbers statements (n + 1) ys) (n + suc k) c
      go false c = c

  -- what is found is such a number
  at_found : (n : ℕ) (xs : List GatheredSection) (m : ℕ) → Contains (kept_numbers statements n xs) m → (k : ℕ)
      × (x : GatheredSection) × (m ≡ n + k) × (slice_get xs k ≡ Some x) × (keeps x ≡ true)
  at_found n [] m c = absurd (none_in_nil m c)
  at_found n (y ∷ ys) m c = go (keeps y) refl c (λ d. at_found (n + 1) ys m d)
    where
      abbrev_later : ((k : ℕ) × (x : GatheredSection) × (m ≡ n + 1 + k) × (slice_get ys k ≡ Some x) × (keeps x ≡ true))
          → (k : ℕ) × (x : GatheredSection) × (m ≡ n + k) × (slice_get (y ∷ ys) k ≡ Some x) × (keeps x ≡ true)
      abbrev_later r = let e : m ≡ n + suc r.0 = omega (arith, r.2) in (suc r.0, r.1, e, r.3, r.4)

      go : (b : Bool) → keeps y ≡ b
          → Contains (cond b (n ∷ kept_numbers statements (n + 1) ys) (kept_numbers statements (n + 1) ys)) m
          → (Contains (kept_numbers statements (n + 1) ys) m → (k : ℕ) × (x : GatheredSection) × (m ≡ n + 1 + k)
          × (slice_get ys k ≡ Some x) × (keeps x ≡ true))
          → (k : ℕ) × (x : GatheredSection) × (m ≡ n + k) × (slice_get (y ∷ ys) k ≡ Some x) × (keeps x ≡ true)
      go true e d rest = ⊎_elim (λ same. (let at : m ≡ n + 0 = omega (arith, same) in (0, y, at, refl, e))) (λ l.
          abbrev_later (rest l)) (first_or_later n (kept_numbers statements (n + 1) ys) m d)
      go false e d rest = abbrev_later (rest d)

-- the section of a number, as the code has it and as the definition does
statement_at : (p : Project) (xs : List GatheredSection) (ss : List InputSection) → map shown_facts xs
    ≡ map (facts p) ss → (k : ℕ) (x : GatheredSection) (s : InputSection)
    → slice_get xs k ≡ Some x → slice_get ss k ≡ Some s → number_of x.statement ≡ first_match p.script s.object s.name
statement_at p [] ss e k x s a b = cc
statement_at p (y ∷ ys) [] e k x s a b = cc
statement_at p (y ∷ ys) (t ∷ ts) e zero x s a b =
    let head : shown_facts y ≡ facts p t = cc in
    let same : y ≡ x = cc in
    let twin : t ≡ s = cc in
    ap (λ (z : GatheredSection). number_of z.statement) (sym same) ∙ ap (λ (f : Facts). f.statement) head
    ∙ ap (λ (z : InputSection). first_match p.script z.object z.name) twin
statement_at p (y ∷ ys) (t ∷ ts) e (suc k) x s a b =
    let tail : map shown_facts ys ≡ map (facts p) ts = cc in
    statement_at p ys ts tail k x s a b

-- both lists reach as far
also_there : (p : Project) (xs : List GatheredSection) (ss : List InputSection) → map shown_facts xs
    ≡ map (facts p) ss → (k : ℕ) (s : InputSection)
    → slice_get ss k ≡ Some s → (x : GatheredSection) × (slice_get xs k ≡ Some x)
also_there p xs [] e k s b = cc
also_there p [] (t ∷ ts) e k s b = cc
also_there p (y ∷ ys) (t ∷ ts) e zero s b = (y, refl)
also_there p (y ∷ ys) (t ∷ ts) e (suc k) s b = let tail : map shown_facts ys ≡ map (facts p) ts = cc in
    also_there p ys ts tail k s b

pub kept_are : (p : Project) (xs : List GatheredSection) (found : List ℕ) → found
    ≡ kept_numbers (input_statements p.script) 0 xs → AreGathered p xs
    → (k : ℕ) (s : InputSection) → IsSectionAt p k s → IsTrue (is_kept (taken_by p s)) ↔ Contains found k
kept_are p xs found is a k s at = (to, from)
  where
    mine : (x : GatheredSection) × (slice_get xs k ≡ Some x)
    mine = also_there p xs (input_sections p) a.facts k s at

    by_number : (x : GatheredSection) → slice_get xs k ≡ Some x → keeps (input_statements p.script) x
        ≡ is_kept (taken_by p s)
    by_number x e = ap (is_kept_by (input_statements p.script))
        (statement_at p xs (input_sections p) a.facts k x s e at)

    to : IsTrue (is_kept (taken_by p s)) → Contains found k
    to h =
        let first : 0 + k ≡ k = omega arith in
        subst (λ l. Contains l k) (sym is)
        (subst (Contains (kept_numbers (input_statements p.script) 0 xs)) first
        (found_at (input_statements p.script) 0 xs k mine.0 mine.1 (by_number mine.0 mine.1 ∙ h)))

    from : Contains found k → IsTrue (is_kept (taken_by p s))
    from c =
        let r = at_found (input_statements p.script) 0 xs k (subst (λ l. Contains l k) is c) in
        let same : r.0 ≡ k = omega (arith, r.2) in
        sym (by_number r.1 (ap (slice_get xs) (sym same) ∙ r.3)) ∙ r.4

-- with the number of the entry symbol's section
pub with_entry : (A : Type 0) (xs ys : List ℕ) (entry : Option ℕ) (k : ℕ) → ys ≡ xs ++ option_to_list entry
    → A ↔ Contains xs k → (A ⊎ (entry ≡ Some k)) ↔ Contains ys k
with_entry A xs ys None k is h = (
  ⊎_elim (λ a. subst (λ l. Contains l k) (sym (is ∙ append-nil xs)) (h.0 a)) (λ e. absurd (cc)),
  λ c. inl (h.1 (subst (λ l. Contains l k) (is ∙ append-nil xs) c)),
)
with_entry A xs ys (Some n) k is h = (
  λ either. subst (λ l. Contains l k) (sym is)
      (⊎_elim (λ a. Contains-append_left xs (n ∷ []) k (h.0 a)) (λ e.
      (let same : n ≡ k = cc in subst (Contains (xs ++ n ∷ [])) same (Contains-push xs n))) either),
  λ c. ⊎_elim (λ d. inl (h.1 d)) (λ e. inr (ap (λ j. Some j) e))
      (Contains-push_cases xs n k (subst (λ l. Contains l k) is c)),
)
