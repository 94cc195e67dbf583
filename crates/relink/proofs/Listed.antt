-- Names that stand in one text.
use Rattle.relink.proofs.Common.{List, [], ap, arith, drop, drop-append-le, drop_more, get_or, length, length-drop}
use Rattle.relink.proofs.Common.{names_in, refl, suc, sum_by, sum_by-cons, sym, take, take-append-le, take_all, ℕ, ◌++◌}
use Rattle.relink.proofs.Common.{◌+◌, ◌-◌, ◌<◌, ◌∙◌, ◌∷◌, ◌≡◌, ◌≤◌}

-- one more name
pub names_more : (text : List ℕ) (ns : List ℕ) (name : List ℕ) → sum_by (λ (n : ℕ). n) ns ≡ length text
    → names_in (text ++ name) (ns ++ length name ∷ []) ≡ names_in text ns ++ name ∷ []
names_more [] [] name h = ap (λ (l : List ℕ). l ∷ []) (take_all (length name) name (omega arith))
names_more (x ∷ text) [] name h = absurd (omega (arith, h))
names_more text (n ∷ ns) name h =
    let both = sum_by-cons (λ (k : ℕ). k) n ns in
    let few : n ≤ length text = omega (arith, h, both) in
    let left : length (drop n text) ≡ length text - n = length-drop n text in
    let rest : sum_by (λ (k : ℕ). k) ns ≡ length (drop n text) = omega (arith, h, left, both) in
    ap (λ (l : List ℕ). l ∷ names_in (drop n (text ++ name)) (ns ++ length name ∷ [])) (take-append-le n text name few)
    ∙ ap (λ (l : List ℕ). take n text ∷ names_in l (ns ++ length name ∷ [])) (drop-append-le n text name few)
    ∙ ap (λ (l : List (List ℕ)). take n text ∷ l) (names_more (drop n text) ns name rest)

pub count_names : (text : List ℕ) (ns : List ℕ) → length (names_in text ns) ≡ length ns
count_names text [] = refl
count_names text (n ∷ ns) = ap (λ (k : ℕ). suc k) (count_names (drop n text) ns)

-- what is left of a text begins with the name at its place, and goes on with those after it
pub record StandsAt (names : List (List ℕ)) (rest : List ℕ) (ns : List ℕ) (k : ℕ) : Type 0 where
  pub first : take (get_or ns k 0) rest ≡ get_or names k []
  pub others : names_in (drop (get_or ns k 0) rest) (drop (k + 1) ns) ≡ drop (k + 1) names

pub stands_at : (names : List (List ℕ)) (rest : List ℕ) (ns : List ℕ) (k : ℕ)
    → names_in rest (drop k ns) ≡ drop k names → k < length ns → StandsAt names rest ns k
stands_at names rest ns k h few =
    let n = get_or ns k 0 in
    let cut = ap (names_in rest) (sym (drop_more ns k 0 few)) ∙ h in
    let count = ap length cut in
    let left = length-drop k names in
    let within : k < length names = omega (arith, count, left) in
    let both = cut ∙ drop_more names k [] within in
    record {
      first = ap (λ (l : List (List ℕ)). get_or l 0 []) both;
      others = ap (λ (l : List (List ℕ)). drop 1 l) both;
    }
