-- The symbols of an object that others see.
use Rattle.symres_table.proofs.Common.{Bool, IsNamed, List, NamedSymbol, Numbered, Option, SpellsSeen, [], ap, arith}
use Rattle.symres_table.proofs.Common.{cond, drop, drop_more, false, filter, filter-append, get_or, get_or-append_right}
use Rattle.symres_table.proofs.Common.{is_local, is_seen, length, length-append, length-map, length-take-le, refl}
use Rattle.symres_table.proofs.Common.{spell_symbol, sym, take, take-append-drop, true, ℕ, ◌++◌, ◌+◌, ◌-◌, ◌<◌, ◌∙◌}
use Rattle.symres_table.proofs.Common.{◌∷◌, ◌≡◌, ◌≤◌}
use Rattle.std.proofs.lemmas.List.{get_or-map}
use Rattle.std.proofs.lemmas.List.Filters.{length-filter_more}
use Rattle.symres_table.proofs.Naming.{visible_is}
use Rattle.symres_table.proofs.Repeating.{named_of}

-- what passes a test stands among what passes it after those that pass it in front
seen_split : (xs : List NamedSymbol) (i : ℕ) (d : NamedSymbol) → i < length xs → is_seen (get_or xs i d) ≡ true
    → filter is_seen xs
    ≡ filter is_seen (take i xs) ++ get_or xs i d ∷ filter is_seen (drop (i + 1) xs)
seen_split xs i d l v =
    ap (filter is_seen) (sym (take-append-drop i xs) ∙ ap (λ t. take i xs ++ t) (drop_more xs i d l))
    ∙ filter-append is_seen (take i xs) (get_or xs i d ∷ drop (i + 1) xs)
    ∙ ap (λ b. filter is_seen (take i xs)
    ++ cond b (get_or xs i d ∷ filter is_seen (drop (i + 1) xs)) (filter is_seen (drop (i + 1) xs))) v

pub seen_within : (xs : List NamedSymbol) (i : ℕ) (d : NamedSymbol) → i < length xs → is_seen (get_or xs i d) ≡ true
    → length (filter is_seen (take i xs)) < length (filter is_seen xs)
seen_within xs i d l v =
    omega (
      arith,
      ap length (seen_split xs i d l v),
      length-append (filter is_seen (take i xs)) (get_or xs i d ∷ filter is_seen (drop (i + 1) xs)),
    )

seen_at : (xs : List NamedSymbol) (i : ℕ) (d : NamedSymbol) → i < length xs → is_seen (get_or xs i d) ≡ true
    → get_or (filter is_seen xs) (length (filter is_seen (take i xs))) d ≡ get_or xs i d
seen_at xs i d l v =
    let k = length (filter is_seen (take i xs)) in
    let none : k - k ≡ 0 = omega arith in
    ap (λ ys. get_or ys k d) (seen_split xs i d l v)
    ∙ get_or-append_right (filter is_seen (take i xs)) (get_or xs i d ∷ filter is_seen (drop (i + 1) xs)) k k d refl
    (omega arith)
    ∙ ap (λ j. get_or (get_or xs i d ∷ filter is_seen (drop (i + 1) xs)) j d) none

pub seen_long : (names : List (Option (List ℕ))) (ss : List Numbered) (xs : List NamedSymbol) → SpellsSeen names ss xs
    → length ss ≡ length (filter is_seen xs)
seen_long names ss xs p = sym (length-map ss (spell_symbol names)) ∙ ap length p.spelled

-- the number of the next symbol that others see is that of its name
pub seen_named : (names : List (Option (List ℕ))) (ss : List Numbered) (xs : List NamedSymbol) (i k : ℕ) (s : Numbered)
    (d : NamedSymbol) → SpellsSeen names ss xs → i < length xs → is_seen (get_or xs i d) ≡ true
    → k ≡ length (filter is_seen (take i xs)) → IsNamed names (get_or ss k s).name (get_or xs i d).name
seen_named names ss xs i k s d p l v e =
    let lt : k < length ss = omega (arith, e, seen_within xs i d l v, seen_long names ss xs p) in
    let is : spell_symbol names (get_or ss k s) ≡ get_or xs i d =
    sym (get_or-map (spell_symbol names) ss k s d lt) ∙ ap (λ ys. get_or ys k d) p.spelled
    ∙ ap (λ j. get_or (filter is_seen xs) j d) e ∙ seen_at xs i d l v in
    named_of names (get_or ss k s) (get_or xs i d) is (p.named k s lt)
    (visible_is (is_local (get_or ss k s).symbol.binding) (sym (p.seen k s lt)))

-- the place of the next one
pub seen_next : (xs : List NamedSymbol) (i at at' : ℕ) (d : NamedSymbol) → i < length xs
    → at ≡ length (filter is_seen (take i xs)) → at' ≡ at + cond (is_seen (get_or xs i d)) 1 0
    → at' ≡ length (filter is_seen (take (i + 1) xs))
seen_next xs i at at' d l e n = n ∙ ap (λ k. k + cond (is_seen (get_or xs i d)) 1 0) e
    ∙ sym (length-filter_more is_seen xs i d l)

few : (xs : List NamedSymbol) → length (filter is_seen xs) ≤ length xs
few [] = omega arith
few (x ∷ xs) = go (is_seen x) (few xs)
  where
    go : (b : Bool) → length (filter is_seen xs) ≤ length xs
        → length (cond b (x ∷ filter is_seen xs) (filter is_seen xs)) ≤ length (x ∷ xs)
    go true h = omega (arith, h)
    go false h = omega (arith, h)

pub seen_few : (xs : List NamedSymbol) (i : ℕ) → i < length xs → length (filter is_seen (take i xs)) ≤ i
seen_few xs i l = omega (arith, few (take i xs), length-take-le i xs (omega (arith, l)))
