-- The first of a rank: where ranks are sorted it is the first that is not before that rank.
use Rattle.gather.proofs.Common.{Bool, Equal, Greater, Less, List, None, Ordering, Some, ap, arith, cases_lt, cond}
use Rattle.gather.proofs.Common.{false, get_or, inl, inr, is_eq, is_lt, is_ranked, le-ltb, length, lt-ltb, nat_lt}
use Rattle.gather.proofs.Common.{ordering_reverse, position, position_or_len_is, rank_cmp, rank_self, ranks_by, refl}
use Rattle.gather.proofs.Common.{sorted_far, sym, true, true≢false, ℕ, ◌<◌, ◌∙◌, ◌≡◌, ◌≤◌, ◌⊎◌}
use Rattle.std.specs.List.Sorted.{IsPartitionPoint, IsPartitionedBy, IsSortedByKey}
use Rattle.gather.proofs.Ranks.{rank_total}

abbrev Rank : Type 0
Rank = ℕ × Bool × ℕ

abbrev precedes : Rank → Rank → Bool
precedes k r = is_lt (rank_cmp r k)

abbrev is_before : Rank → Rank → Bool
is_before x y = is_lt (rank_cmp (rank_self x) (rank_self y))

-- the ranks before i come before a rank, and the others do not
abbrev pub Parts : Rank → List Rank → ℕ → Type 0
Parts k xs i = IsPartitionPoint (λ r. precedes k r ≡ true) (λ r. precedes k r ≡ false) xs i

-- sorted ranks are parted so by any rank
below_of : (k x y : Rank) → is_lt (rank_cmp y x) ≡ false → is_lt (rank_cmp y k) ≡ true → is_lt (rank_cmp x k) ≡ true
below_of k x y after less = go (is_lt (rank_cmp x k)) refl
  where
    go : (b : Bool) → is_lt (rank_cmp x k) ≡ b → is_lt (rank_cmp x k) ≡ true
    go true e = e
    go false e =
        absurd (true≢false (sym less ∙ (ranks_by rank_total (λ (r : Rank). r)).chain y x k after e))

pub parted : (k : Rank) (xs : List Rank) → IsSortedByKey rank_self rank_cmp xs → IsPartitionedBy (precedes k) xs
parted k xs sorted i j d l h less =
    below_of k (get_or xs i d) (get_or xs j d)
    (sorted_far is_before (ranks_by rank_total rank_self) xs sorted i j d l h) less

less_is_unequal : (o : Ordering) → is_lt o ≡ true → is_eq o ≡ false
less_is_unequal Less e = refl
less_is_unequal Equal e = absurd (true≢false (sym e))
less_is_unequal Greater e = refl

-- the first of a rank stands where those before the rank end
pub found : (k : Rank) (xs : List Rank) (i : ℕ) (r : Rank) → Parts k xs i → i < length xs → r ≡ get_or xs i r
    → is_ranked k r ≡ true → position (is_ranked k) xs ≡ Some i
found k xs i r parts inside at same =
    let here : is_ranked k (get_or xs i r) ≡ true = ap (is_ranked k) (sym at) ∙ same in
    let is = position_or_len_is (is_ranked k) xs i r (omega arith)
    (λ j h. less_is_unequal (rank_cmp (get_or xs j r) k) (parts.0 j r (omega arith) h)) (λ h. here) in
    ap (λ n. cond (nat_lt n (length xs)) (Some n) None) is
    ∙ ap (λ b. cond b (Some i) None) (lt-ltb i (length xs) inside)

is_greater : (o : Ordering) → is_lt o ≡ false → is_eq o ≡ false → o ≡ Greater
is_greater Less l e = absurd (true≢false l)
is_greater Equal l e = absurd (true≢false e)
is_greater Greater l e = refl

-- past one of a greater rank there is none of the rank
none_past : (k x y : Rank) → is_lt (rank_cmp y x) ≡ false → rank_cmp x k ≡ Greater → is_eq (rank_cmp y k) ≡ false
none_past k x y after greater = go (rank_cmp y k) refl
  where
    go : (o : Ordering) → rank_cmp y k ≡ o → is_eq o ≡ false
    go Less e = refl
    go Equal e =
        let below : rank_cmp y x ≡ Less =
        rank_total.congr y k x e ∙ rank_total.antisymm k x ∙ ap ordering_reverse greater in
        absurd (true≢false (sym (ap is_lt below) ∙ after))
    go Greater e = refl

none_of : (k : Rank) (xs : List Rank) (d : Rank)
    → ((j : ℕ) → j < length xs → is_ranked k (get_or xs j d) ≡ false) → position (is_ranked k) xs ≡ None
none_of k xs d h =
    let is = position_or_len_is (is_ranked k) xs (length xs) d (omega arith) h (λ l. absurd (omega arith)) in
    ap (λ n. cond (nat_lt n (length xs)) (Some n) None) is
    ∙ ap (λ b. cond b (Some (length xs)) None) (le-ltb (length xs) (length xs) (omega arith))

-- there is none where another stands there
pub missed : (k : Rank) (xs : List Rank) (i : ℕ) (r : Rank) → IsSortedByKey rank_self rank_cmp xs → Parts k xs i
    → i < length xs → r ≡ get_or xs i r → is_ranked k r ≡ false → position (is_ranked k) xs ≡ None
missed k xs i r sorted parts inside at other =
    none_of k xs r (λ j h. each j h (cases_lt j i))
  where
    greater : rank_cmp (get_or xs i r) k ≡ Greater
    greater =
        is_greater (rank_cmp (get_or xs i r) k) (parts.1 i r (omega arith) inside)
        (ap (is_ranked k) (sym at) ∙ other)

    each : (j : ℕ) → j < length xs → (j < i) ⊎ (i ≤ j) → is_ranked k (get_or xs j r) ≡ false
    each j h (inl l) = less_is_unequal (rank_cmp (get_or xs j r) k) (parts.0 j r (omega arith) l)
    each j h (inr l) =
        none_past k (get_or xs i r) (get_or xs j r)
        (sorted_far is_before (ranks_by rank_total rank_self) xs sorted i j r l h) greater

-- nor where none does
pub missed_at_end : (k : Rank) (xs : List Rank) (i : ℕ) → Parts k xs i → length xs ≤ i
    → position (is_ranked k) xs ≡ None
missed_at_end k xs i parts past =
    none_of k xs k (λ j h. less_is_unequal (rank_cmp (get_or xs j k) k) (parts.0 j k (omega arith) (omega arith)))
