-- Each declared name is in use and listed, so that the listed names in use are as many as the declared ones, each once.
use Rattle.symres_decisions.proofs.Common.{AllByRecursion, Bool, Contains-from_lookup, Declaration, IsDistinct}
use Rattle.symres_decisions.proofs.Common.{IsListing, IsNamed, List, Option, [], all_uses, ap, arith, bytes_eq}
use Rattle.symres_decisions.proofs.Common.{bytes_eq-Decides, cond, declarations_of, declared_names, distinct}
use Rattle.symres_decisions.proofs.Common.{entries_of, false, filter, get_or, is_member, is_of_name, is_used, length}
use Rattle.symres_decisions.proofs.Common.{length-le_from_is_member, list_any, lt-ltb, map, nat_lt, not, refl, subst}
use Rattle.symres_decisions.proofs.Common.{suc, sym, true, true≢false, zero, ℕ, ⊎_elim, ◌<◌, ◌||◌, ◌∙◌, ◌∷◌, ◌≡◌, ◌≤◌}
use Rattle.symres_decisions.proofs.Declared.{Table, distinct_filtered, names_declared, used_count, used_names, uses_few}
use Rattle.symres_decisions.proofs.Distinct.{bytes_laws}
use Rattle.symres_decisions.proofs.KnownNames.{known_or_not}
use Rattle.symres_decisions.proofs.Listed.{Listed}

or_true : (b : Bool) → (b || true) ≡ true
or_true true = refl
or_true false = refl

not_true : (b : Bool) → not b ≡ true → b ≡ false
not_true true h = absurd (cc)
not_true false h = refl

-- ---- a list of names, each once

apart_kept : (x : List ℕ) (ys : List (List ℕ))
    → AllByRecursion (λ (y : List ℕ). bytes_eq x y ≡ false) (filter (λ (y : List ℕ). not (bytes_eq x y)) ys)
apart_kept x [] = tt
apart_kept x (y ∷ ys) = go (not (bytes_eq x y)) (not_true (bytes_eq x y)) (apart_kept x ys)
  where
    go : (b : Bool) → (b ≡ true → bytes_eq x y ≡ false)
        → AllByRecursion (λ (y : List ℕ). bytes_eq x y ≡ false) (filter (λ (y : List ℕ). not (bytes_eq x y)) ys)
        → AllByRecursion (λ (y : List ℕ). bytes_eq x y ≡ false)
        (cond b (y ∷ filter (λ (y : List ℕ). not (bytes_eq x y)) ys) (filter (λ (y : List ℕ). not (bytes_eq x y)) ys))
    go true f h = (f refl, h)
    go false f h = h

distinct_once : (xs : List (List ℕ)) → IsDistinct bytes_eq (distinct xs)
unfolding IsDistinct
distinct_once [] = tt
distinct_once (x ∷ xs) = (
  apart_kept x (distinct xs),
  distinct_filtered bytes_eq (λ (y : List ℕ). not (bytes_eq x y)) (distinct xs) (distinct_once xs),
)

any_filtered : (f p : List ℕ → Bool) (xs : List (List ℕ)) → list_any f (filter p xs) ≡ true → list_any f xs ≡ true
any_filtered f p [] h = h
any_filtered f p (x ∷ xs) h = go (p x) h (any_filtered f p xs)
  where
    at : (b : Bool) → f x ≡ b → (f x || list_any f (filter p xs)) ≡ true
        → (list_any f (filter p xs) ≡ true → list_any f xs ≡ true) → (f x || list_any f xs) ≡ true
    at true e h rest = ap (λ (b : Bool). b || list_any f xs) e
    at false e h rest =
        ap (λ (b : Bool). b || list_any f xs) e
        ∙ rest (sym (ap (λ (b : Bool). b || list_any f (filter p xs)) e) ∙ h)

    go : (b : Bool) → list_any f (cond b (x ∷ filter p xs) (filter p xs)) ≡ true
        → (list_any f (filter p xs) ≡ true → list_any f xs ≡ true) → (f x || list_any f xs) ≡ true
    go true h rest = at (f x) refl h rest
    go false h rest = ap (λ (b : Bool). f x || b) (rest h) ∙ or_true (f x)

-- a name of the list with each once is one of the list
member_listed : (xs : List (List ℕ)) (q : List ℕ) → is_member bytes_eq (distinct xs) q ≡ true
    → is_member bytes_eq xs q ≡ true
member_listed [] q h = h
member_listed (x ∷ xs) q h = go (bytes_eq q x) refl h (member_listed xs q)
  where
    rest : List (List ℕ)
    rest = filter (λ (y : List ℕ). not (bytes_eq x y)) (distinct xs)

    go : (b : Bool) → bytes_eq q x ≡ b → (bytes_eq q x || list_any (bytes_eq q) rest) ≡ true
        → (is_member bytes_eq (distinct xs) q ≡ true → is_member bytes_eq xs q ≡ true)
        → is_member bytes_eq (x ∷ xs) q ≡ true
    go true e h f = ap (λ (b : Bool). b || is_member bytes_eq xs q) e
    go false e h f =
        ap (λ (b : Bool). b || is_member bytes_eq xs q) e
        ∙ f
        (any_filtered (bytes_eq q) (λ (y : List ℕ). not (bytes_eq x y)) (distinct xs)
        (sym (ap (λ (b : Bool). b || list_any (bytes_eq q) rest) e) ∙ h))

-- ---- declared names are used

among_used : (q : List ℕ) (ds : List Declaration)
    → is_member bytes_eq (map (λ (d : Declaration). d.name) ds) q ≡ true
    → nat_lt 0 (length (filter (is_of_name q) ds)) ≡ true
among_used q [] h = absurd (cc)
among_used q (d ∷ ds) h = go (bytes_eq q d.name) refl h (among_used q ds)
  where
    go : (b : Bool) → bytes_eq q d.name ≡ b
        → (bytes_eq q d.name || is_member bytes_eq (map (λ (d : Declaration). d.name) ds) q) ≡ true
        → (is_member bytes_eq (map (λ (d : Declaration). d.name) ds) q ≡ true
        → nat_lt 0 (length (filter (is_of_name q) ds)) ≡ true)
        → nat_lt 0 (length (cond (bytes_eq q d.name) (d ∷ filter (is_of_name q) ds) (filter (is_of_name q) ds))) ≡ true
    go true e h f =
        ap (λ (b : Bool). nat_lt 0 (length (cond b (d ∷ filter (is_of_name q) ds) (filter (is_of_name q) ds)))) e
        ∙ lt-ltb 0 (length (d ∷ filter (is_of_name q) ds)) (omega arith)
    go false e h f =
        ap (λ (b : Bool). nat_lt 0 (length (cond b (d ∷ filter (is_of_name q) ds) (filter (is_of_name q) ds)))) e
        ∙ f (sym (ap (λ (b : Bool). b || is_member bytes_eq (map (λ (d : Declaration). d.name) ds) q) e) ∙ h)

declared_used : (tables : List Table) (q : List ℕ) → is_member bytes_eq (declared_names tables) q ≡ true
    → is_used tables q ≡ true
declared_used tables q h =
    among_used q (declarations_of tables)
    (subst (λ (ns : List (List ℕ)). is_member bytes_eq ns q ≡ true) (sym (names_declared tables)) h)

-- ---- and listed

same_bytes : (x y : List ℕ) → bytes_eq x y ≡ true → x ≡ y
same_bytes x y = (bytes_eq-Decides x y).0

kept_listed : (tables : List Table) (q : List ℕ) (k : ℕ) (es : List Listed) (i : ℕ) → i < length es
    → get_or es i (q, k) ≡ (q, k) → is_used tables q ≡ true → is_member bytes_eq (used_names tables es) q ≡ true
kept_listed tables q k [] i l same u = absurd (omega (arith, l))
kept_listed tables q k (e ∷ es) zero l same u =
    ap (λ (b : Bool).
    is_member bytes_eq (map (λ (e : Listed). e.0) (cond b (e ∷ filter (λ (e : Listed). is_used tables e.0) es)
    (filter (λ (e : Listed). is_used tables e.0) es))) q) (ap (λ (x : Listed). is_used tables x.0) same ∙ u)
    ∙ ap (λ (b : Bool). b || is_member bytes_eq (used_names tables es) q)
    ((bytes_eq-Decides q e.0).1 (sym (ap (λ (x : Listed). x.0) same)))
kept_listed tables q k (e ∷ es) (suc i) l same u =
    go (is_used tables e.0) (kept_listed tables q k es i (omega (arith, l)) same u)
  where
    go : (b : Bool) → is_member bytes_eq (used_names tables es) q ≡ true
        → is_member bytes_eq (map (λ (e : Listed). e.0) (cond b (e ∷ filter (λ (e : Listed). is_used tables e.0) es)
        (filter (λ (e : Listed). is_used tables e.0) es))) q ≡ true
    go true h = ap (λ (b : Bool). bytes_eq q e.0 || b) h ∙ or_true (bytes_eq q e.0)
    go false h = h

module _ (names : List (Option (List ℕ))) (tables : List Table) (order : List Listed) (l : IsListing names order)
    (unknown : (name : List ℕ) → ((k : ℕ) → IsNamed names k name → ⊥) → entries_of name tables ≡ []) where
  used_listed : (q : List ℕ) → is_used tables q ≡ true → is_member bytes_eq (used_names tables order) q ≡ true
  used_listed q u =
      ⊎_elim
      (λ key.
      let found = Contains-from_lookup {eq = bytes_eq} same_bytes q key.0 order (l.complete key.0 q key.1) in
      kept_listed tables q key.0 order found.0 found.1 found.2 u)
      (λ none.
      absurd (true≢false (sym u ∙ ap (λ (ds : List Declaration). nat_lt 0 (length ds)) (unknown q none))))
      (known_or_not names order q l)

  uses_many : length (distinct (declared_names tables)) ≤ length (used_names tables order)
  uses_many =
      length-le_from_is_member bytes_laws (distinct (declared_names tables)) (used_names tables order)
      (distinct_once (declared_names tables))
      (λ q m. used_listed q (declared_used tables q (member_listed (declared_names tables) q m)))

  pub uses_all : all_uses tables order ≡ length (distinct (declared_names tables))
  uses_all = omega (arith, used_count tables order, uses_few names tables order l, uses_many)
