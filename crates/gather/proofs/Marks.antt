-- What a search from the roots has marked so far, and how a step keeps that.
use Rattle.gather.proofs.Common.{Bool, Contains, Contains-append_left, Contains-get_or, Contains-push}
use Rattle.gather.proofs.Common.{Contains-push_cases, Graph, IsIn, IsLive, IsMarked, IsVisit, LeadsTo, List, [], arith}
use Rattle.gather.proofs.Common.{cases_eq, cases_lt, cond, count_by, false, false≢true, from_live, from_root, get_or}
use Rattle.gather.proofs.Common.{get_or-set_other, get_or-set_same, get_or_past, inl, inr, length, length-append}
use Rattle.gather.proofs.Common.{length-set, not, refl, set, subst, sum_by-set, sym, true, ℕ, ⊎_elim, ◌++◌, ◌+◌, ◌<◌}
use Rattle.gather.proofs.Common.{◌||◌, ◌↔◌, ◌∙◌, ◌∷◌, ◌≡◌, ◌⊎◌}
use Rattle.std.proofs.lemmas.Grind.{get_or_default_zero}
use Rattle.ldmodel_laws.proofs.Members.{none_in_nil}

-- where the search stands: `at` is the section that is being expanded, or no section
pub record Marks (g : Graph) (live : List Bool) (stack : List ℕ) (at : ℕ) : Type 0 where
  pub long : length live ≡ length g.out
  pub sound : (s : ℕ) → IsMarked live s → IsLive g s
  pub on_stack : (s : ℕ) → Contains stack s → IsMarked live s
  pub closed : (a b : ℕ) → IsMarked live a → LeadsTo g a b → IsIn g b → IsMarked live b ⊎ (Contains stack a ⊎ (a ≡ at))

-- what stays to be done
abbrev pub work : List Bool → List ℕ → ℕ
work live stack = count_by not live + length stack

pub marked_within : (live : List Bool) (s : ℕ) → IsMarked live s → s < length live
marked_within live s m =
    ⊎_elim (λ h. h) (λ h. absurd (false≢true (sym (get_or_past live s false h) ∙ m))) (cases_lt s (length live))

-- what a visit keeps and adds
pub record Visited (g : Graph) (live : List Bool) (stack : List ℕ) (at next : ℕ) (live' : List Bool) (stack' : List ℕ)
    : Type 0 where
  pub marks : Marks g live' stack' at
  pub marked : IsIn g next → IsMarked live' next
  pub kept : (s : ℕ) → IsMarked live s → IsMarked live' s
  pub same_work : work live' stack' ≡ work live stack

marked_set : (live : List Bool) (next s : ℕ) → next < length live → IsMarked live s → IsMarked (set live next true) s
marked_set live next s h m = ⊎_elim
    (λ e. subst (λ k. get_or (set live next true) k false ≡ true) (sym e) (get_or-set_same live next true false h))
    (λ n. get_or-set_other live next s true false n ∙ m)
    (cases_eq s next)

marked_before : (live : List Bool) (next s : ℕ) → IsMarked (set live next true) s → (s ≡ next) ⊎ IsMarked live s
marked_before live next s m =
    ⊎_elim (λ e. inl e) (λ n. inr (sym (get_or-set_other live next s true false n) ∙ m)) (cases_eq s next)

visit_new : (g : Graph) (live : List Bool) (stack : List ℕ) (at next : ℕ) → Marks g live stack at
    → (IsIn g next → IsLive g next) → next < length live
    → IsIn g next → get_or live next false ≡ false
    → Visited g live stack at next (set live next true) (stack ++ next ∷ [])
visit_new g live stack at next m l h o u = record {
  marks = record {
    long = omega (arith, m.long, length-set live next true);
    sound = λ s k. ⊎_elim (λ e. subst (IsLive g) (sym e) (l o)) (m.sound s) (marked_before live next s k);
    on_stack = λ s k. ⊎_elim (λ p. marked_set live next s h (m.on_stack s p)) (λ e.
        subst (IsMarked (set live next true)) e (get_or-set_same live next true false h))
        (Contains-push_cases stack next s k);
    closed = λ a b k t i. ⊎_elim
        (λ e. inr (inl (subst (Contains (stack ++ next ∷ [])) (sym e) (Contains-push stack next))))
        (λ k'. ⊎_elim (λ p. inl (marked_set live next b h p))
        (⊎_elim (λ p. inr (inl (Contains-append_left stack (next ∷ []) a p))) (λ e. inr (inr e)))
        (m.closed a b k' t i))
        (marked_before live next a k);
  };
  marked = λ _. get_or-set_same live next true false h;
  kept = λ s k. marked_set live next s h k;
  same_work =
      let s = sum_by-set (λ b. cond (not b) 1 0) live next true false h in
      let s' = rw u at s in
      omega (arith, s', length-append stack (next ∷ []));
}

visit_old : (g : Graph) (live : List Bool) (stack : List ℕ) (at next : ℕ) → Marks g live stack at
    → (IsIn g next → IsMarked live next) → Visited g live stack at next live stack
visit_old g live stack at next m k = record { marks = m; marked = k; kept = λ _ x. x; same_work = refl }

-- a section that is not left out is one
in_within : (g : Graph) (s : ℕ) → IsIn g s → s < length g.out
in_within g s i =
    ⊎_elim (λ h. h) (λ h. absurd (false≢true (sym i ∙ get_or_past g.out s true h))) (cases_lt s (length g.out))

pub visited : (g : Graph) (live : List Bool) (stack : List ℕ) (at next : ℕ) (live' : List Bool) (stack' : List ℕ)
    → Marks g live stack at → (IsIn g next → IsLive g next)
    → IsVisit g.out next live stack live' stack' → Visited g live stack at next live' stack'
visited g live stack at next live' stack' m l v = go (get_or g.out next true) (get_or live next false) refl refl v
  where
    go : (o u : Bool) → get_or g.out next true ≡ o → get_or live next false ≡ u
        → cond (o || u) ((live' ≡ live) × (stack' ≡ stack)) ((live' ≡ set live next true)
        × (stack' ≡ stack ++ next ∷ []))
        → Visited g live stack at next live' stack'
    go true u eo eu p = rw (p.0, p.1) (visit_old g live stack at next m (λ i. absurd (false≢true (sym i ∙ eo))))
    go false true eo eu p = rw (p.0, p.1) (visit_old g live stack at next m (λ _. eu))
    go false false eo eu p =
        let inside : next < length g.out = in_within g next eo in
        rw (p.0, p.1) (visit_new g live stack at next m l (omega (arith, inside, m.long)) eo eu)

-- the last of the stack is taken to be expanded
pub marks_pop : (g : Graph) (live : List Bool) (stack rest : List ℕ) (s : ℕ) → stack ≡ rest ++ s ∷ []
    → Marks g live stack (length g.out) → Marks g live rest s
marks_pop g live stack rest s e m = record {
  long = m.long;
  sound = m.sound;
  on_stack = λ x h. m.on_stack x (rw e (Contains-append_left rest (s ∷ []) x h));
  closed = λ a b k t i. ⊎_elim (λ p. inl p)
      (⊎_elim
      (λ p. ⊎_elim (λ q. inr (inl q)) (λ q. inr (inr (sym q))) (Contains-push_cases rest s a (rw e at p)))
      (λ q. absurd (omega (arith, q, m.long, marked_within live a k))))
      (m.closed a b k t i);
}

-- all its targets were visited
pub marks_done : (g : Graph) (live : List Bool) (stack : List ℕ) (s : ℕ) → Marks g live stack s
    → ((b : ℕ) → LeadsTo g s b → IsIn g b → IsMarked live b) → Marks g live stack (length g.out)
marks_done g live stack s m d = record {
  long = m.long;
  sound = m.sound;
  on_stack = m.on_stack;
  closed = λ a b k t i. ⊎_elim (λ p. inl p)
      (⊎_elim (λ p. inr (inl p)) (λ q. inl (d b (subst (λ x. LeadsTo g x b) q t) i)))
      (m.closed a b k t i);
}

-- nothing is left on the stack
pub marks_end : (g : Graph) (live : List Bool) → Marks g live [] (length g.out)
    → ((r : ℕ) → Contains g.roots r → IsIn g r → IsMarked live r) → (s : ℕ) → IsMarked live s ↔ IsLive g s
marks_end g live m r s = (m.sound s, all s)
  where
    all : (x : ℕ) → IsLive g x → IsMarked live x
    all x (from_root s h i) = r s h i
    all x (from_live a b l t i) =
        ⊎_elim (λ p. p) (⊎_elim (λ p. absurd (none_in_nil a p)) (λ q.
        absurd (omega (arith, q, m.long, marked_within live a (all a l))))) (m.closed a b (all a l) t i)

-- these are the sections that section s refers to
abbrev pub AreTargets : Graph → ℕ → List ℕ → Type 0
AreTargets g s items = (b : ℕ) → b < length g.out → g.refers s b ↔ Contains items b

pub leads_in : (g : Graph) (s b : ℕ) (items : List ℕ) → AreTargets g s items → LeadsTo g s b → IsIn g b
    → Contains items b
leads_in g s b items are t i = (are b (in_within g b i)).0 t.1

pub leads_out : (g : Graph) (s k : ℕ) (items : List ℕ) → s < length g.out → AreTargets g s items → k < length items
    → IsIn g (get_or items k 0) → LeadsTo g s (get_or items k 0)
leads_out g s k items h are w i =
    (h, (are (get_or items k 0) (in_within g (get_or items k 0) i)).1 (Contains-get_or items k 0 w))

-- what holds of each place holds of each that is contained
pub each_contained : (xs : List ℕ) (P : ℕ → Type 0) → ((k : ℕ) → k < length xs → P (get_or xs k 0)) → (x : ℕ)
    → Contains xs x → P x
each_contained xs P f x c = subst P (sym (get_or_default_zero xs c.0 x c.1) ∙ c.2) (f c.0 c.1)
