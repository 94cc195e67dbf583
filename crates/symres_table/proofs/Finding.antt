-- The place of a key in a sorted list of places.
use Rattle.symres_table.proofs.Common.{AreSorted, IsBelow, List, None, PlacedKey, Some, [], ap, arith, cases_eq}
use Rattle.symres_table.proofs.Common.{cases_lt, cond, eq-eqb, get_or, get_or_default, length, ne_eqb, place_of, refl}
use Rattle.symres_table.proofs.Common.{subst, suc, sym, zero, ℕ, ⊎_elim, ◌+◌, ◌<◌, ◌∙◌, ◌∷◌, ◌≡◌, ◌≢◌, ◌≤◌}

-- a key that none has
pub place_none : (ps : List PlacedKey) (key : ℕ) → ((k : ℕ) (d : PlacedKey) → k < length ps
    → (get_or ps k d).key.0 ≢ key)
    → place_of ps key ≡ None
place_none [] key h = refl
place_none (p ∷ ps) key h = ap (λ b. cond b (Some p.at) (place_of ps key)) (ne_eqb p.key.0 key (h 0 p (omega arith)))
    ∙ place_none ps key (λ k d l. h (suc k) d (omega (arith, l)))

-- the first that has it
pub place_at : (ps : List PlacedKey) (key n : ℕ) (p : PlacedKey)
    → ((k : ℕ) (d : PlacedKey) → k < n → (get_or ps k d).key.0 ≢ key)
    → n < length ps → get_or ps n p ≡ p → p.key.0 ≡ key → place_of ps key ≡ Some p.at
place_at [] key n p h l e q = absurd (omega (arith, l))
place_at (x ∷ ps) key zero p h l e q =
    let k : x.key.0 ≡ key = ap (λ (y : PlacedKey). y.key.0) e ∙ q in
    ap (λ b. cond b (Some x.at) (place_of ps key)) (eq-eqb x.key.0 key k) ∙ ap (λ (y : PlacedKey). Some y.at) e
place_at (x ∷ ps) key (suc n) p h l e q =
    ap (λ b. cond b (Some x.at) (place_of ps key)) (ne_eqb x.key.0 key (h 0 x (omega arith)))
    ∙ place_at ps key n p (λ k d m. h (suc k) d (omega (arith, m))) (omega (arith, l)) e q

pub found_here : (ps : List PlacedKey) (key n : ℕ) (p : PlacedKey) → IsBelow ps key n → n < length ps
    → p ≡ get_or ps n p
    → p.key.0 ≡ key → Some p.at ≡ place_of ps key
found_here ps key n p b l e q =
    sym (place_at ps key n p (λ k d h s. let lt = b.below k d h in omega (arith, lt, s)) l (sym e) q)

pub found_other : (ps : List PlacedKey) (key n : ℕ) (p : PlacedKey) → AreSorted ps → IsBelow ps key n
    → n < length ps → p
    ≡ get_or ps n p → p.key.0 ≢ key → None ≡ place_of ps key
found_other ps key n p so b l e q = sym (place_none ps key (λ k d h. ⊎_elim
    (λ low same. let lt = b.below k d low in absurd (omega (arith, lt, same)))
    (λ high. ⊎_elim
    (λ at same. q (ap (λ (y : PlacedKey). y.key.0) (e ∙ get_or_default ps n p d l ∙ ap (λ j. get_or ps j d) (sym at))
    ∙ same))
    (λ ne same.
    let lt : (get_or ps n d).key.0 < (get_or ps k d).key.0 = so n k d (omega (arith, high, ne)) h in
    let le = b.rest n d (omega arith) l in absurd (omega (arith, lt, le, same)))
    (cases_eq k n))
    (cases_lt k n)))

pub found_past : (ps : List PlacedKey) (key n : ℕ) → IsBelow ps key n → length ps ≤ n → None ≡ place_of ps key
found_past ps key n b l =
    sym (place_none ps key (λ k d h same. let lt = b.below k d (omega (arith, h, l)) in
    absurd (omega (arith, lt, same))))

pub below_middle : (ps : List PlacedKey) (key m : ℕ) → AreSorted ps → m < length ps
    → ((d : PlacedKey) → (get_or ps m d).key.0 < key) → (k : ℕ) (d : PlacedKey) → k < m + 1
    → (get_or ps k d).key.0 < key
below_middle ps key m so l h k d low = ⊎_elim
    (λ less. let lt = so k m d less l in let at = h d in omega (arith, lt, at))
    (λ not. let same : m ≡ k = omega arith in ap_lt same (h d))
    (cases_lt k m)
  where
    ap_lt : {k : ℕ} → m ≡ k → (get_or ps m d).key.0 < key → (get_or ps k d).key.0 < key
    ap_lt e q = subst (λ j. (get_or ps j d).key.0 < key) e q

pub above_middle : (ps : List PlacedKey) (key m : ℕ) → AreSorted ps
    → ((d : PlacedKey) → m < length ps → key ≤ (get_or ps m d).key.0) → (k : ℕ) (d : PlacedKey) → m ≤ k → k < length ps
    → key ≤ (get_or ps k d).key.0
above_middle ps key m so h k d low l = ⊎_elim
    (λ more. let lt = so m k d more l in let at = h d (omega arith) in omega (arith, lt, at))
    (λ not. let same : m ≡ k = omega arith in subst (λ j. key ≤ (get_or ps j d).key.0) same (h d (omega arith)))
    (cases_lt m k)
