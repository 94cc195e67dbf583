-- Keys compare as the names do.
use Rattle.symres_table.proofs.Common.{List, [], ap, arith, get_or, nat_list_cmp_total, refl, slice_cmp, suc, sym, zero}
use Rattle.symres_table.proofs.Common.{ℕ, ◌+◌, ◌-◌, ◌<◌, ◌^◌, ◌∙◌, ◌∷◌, ◌≡◌, ◌≢◌}
use Rattle.std.proofs.Common.{◌*◌}
use Rattle.std.proofs.Math.Nat.{pow-suc, mul-le-mul_left}
use Rattle.std.proofs.lemmas.Cmp.{by_ranked, ranked}
use Rattle.std.specs.Int.{byte_worth, from_be_bytes, sum_through, w128}
use Rattle.std.specs.Ordering.{nat_cmp, ordering_then, ordering_reverse}
use Rattle.std.specs.declared.cmp.Ordering.{Ordering}
use Rattle.std.specs.declared.cmp.Ordering.TheVariants.{Less}
use Rattle.symres_table.specs.PrefixKeys.{IsPrefixKey, prefix_number}

-- each member of the list is a byte
abbrev AreBytes : List ℕ → Type 0
AreBytes xs = (k : ℕ) → get_or xs k 0 < 256

rest : (x : ℕ) (xs : List ℕ) → AreBytes (x ∷ xs) → AreBytes xs
rest x xs b k = b (suc k)

positive : (n : ℕ) → 0 < 256 ^ n
positive zero = omega arith
positive (suc n) = let h = positive n in rw (pow-suc 256 n) (omega arith)

next_below : (p x r : ℕ) → x < 256 → r < p → x * p + r < p * 256
next_below p x r a b = let h = mul-le-mul_left p a in omega (arith, h)

below : (n : ℕ) (xs : List ℕ) → AreBytes xs → prefix_number n xs < 256 ^ n
unfolding prefix_number
below zero xs b = omega arith
below (suc n) [] b = positive (suc n)
below (suc n) (x ∷ xs) b = rw (pow-suc 256 n) (next_below (256 ^ n) x _ (b 0) (below n xs (rest x xs b)))

not_past : (p x y a b : ℕ) → b < p → x * p + a < y * p + b → y < x → ⊥
not_past p x y a b small h up = let m = mul-le-mul_left p up in absurd (omega (arith, m))

less : (n : ℕ) (xs ys : List ℕ) → AreBytes xs → AreBytes ys → prefix_number n xs < prefix_number n ys
    → slice_cmp nat_cmp xs ys ≡ Less
unfolding prefix_number
less zero xs ys a b h = absurd (omega (arith, h))
less (suc n) [] [] a b h = absurd (omega (arith, h))
less (suc n) [] (y ∷ ys) a b h = refl
less (suc n) (x ∷ xs) [] a b h = absurd (omega (arith, h))
less (suc n) (x ∷ xs) (y ∷ ys) a b h =
    by_ranked (x < y) (x ≡ y) (y < x) (nat_cmp x y) (ranked x y (nat_cmp x y) refl)
    (λ is up. ap (λ o. ordering_then o (slice_cmp nat_cmp xs ys)) is)
    (λ is same. ap (λ o. ordering_then o (slice_cmp nat_cmp xs ys)) is
    ∙ less n xs ys (rest x xs a) (rest y ys b) (let e = ap (λ z. z * 256 ^ n) same in omega (arith, h, e)))
    (λ is down. absurd (not_past (256 ^ n) x y _ _ (below n ys (rest y ys b)) h down))

-- names with their keys in front of them compare as they do without
pub keyed : (one other : ℕ) (xs ys : List ℕ) → IsPrefixKey one xs → IsPrefixKey other ys
    → slice_cmp nat_cmp (one ∷ xs) (other ∷ ys) ≡ slice_cmp nat_cmp xs ys
keyed one other xs ys a b =
    by_ranked (one < other) (one ≡ other) (other < one) (nat_cmp one other) (ranked one other (nat_cmp one other) refl)
    (λ is up. ap (λ o. ordering_then o (slice_cmp nat_cmp xs ys)) is
    ∙ sym (less 16 xs ys a.bytes b.bytes (omega (arith, a.is, b.is, up))))
    (λ is same. ap (λ o. ordering_then o (slice_cmp nat_cmp xs ys)) is)
    (λ is down. ap (λ o. ordering_then o (slice_cmp nat_cmp xs ys)) is
    ∙ sym (nat_list_cmp_total.antisymm xs ys
    ∙ ap ordering_reverse (less 16 ys xs b.bytes a.bytes (omega (arith, a.is, b.is, down)))))

-- a sum without its first member
first_of_sum : (f : ℕ → ℕ) (n : ℕ) → sum_through f (suc n) ≡ f 0 + sum_through (λ i. f (suc i)) n
first_of_sum f zero = refl
first_of_sum f (suc n) = let h = first_of_sum f n in omega (arith, h)

same_sum : (f g : ℕ → ℕ) (n : ℕ) → ((i : ℕ) → f i ≡ g i) → sum_through f n ≡ sum_through g n
same_sum f g zero h = h 0
same_sum f g (suc n) h = let a = same_sum f g n h in let b = h (suc n) in omega (arith, a, b)

worth : (i b : ℕ) → byte_worth i b ≡ b * 256 ^ i
worth zero b = omega arith
worth (suc i) b = refl

same_worth : (i j b : ℕ) → i ≡ j → byte_worth i b ≡ byte_worth j b
same_worth i j b e = ap (λ m. byte_worth m b) e

none_worth : (i : ℕ) → byte_worth i 0 ≡ 0
none_worth zero = refl
none_worth (suc i) = omega arith

sum_of_none : (f : ℕ → ℕ) (n : ℕ) → ((i : ℕ) → f i ≡ 0) → sum_through f n ≡ 0
sum_of_none f zero h = h 0
sum_of_none f (suc n) h = let a = sum_of_none f n h in let b = h (suc n) in omega (arith, a, b)

-- the number that bytes spell, as the method has it
spelled : (n : ℕ) (xs : List ℕ) → sum_through (λ i. byte_worth (n - i) (get_or xs i 0)) n ≡ prefix_number (suc n) xs
unfolding prefix_number
spelled n [] = sum_of_none _ n (λ i. none_worth (n - i))
spelled zero (x ∷ xs) = omega arith
spelled (suc n) (x ∷ xs) =
    let digits = sum_through (λ i. byte_worth (suc n - suc i) (get_or xs i 0)) n in
    let e : suc n - 0 ≡ suc n = omega arith in
    first_of_sum (λ i. byte_worth (suc n - i) (get_or (x ∷ xs) i 0)) n
    ∙ ap (λ m. byte_worth m x + digits) e
    ∙ ap (λ w. w + digits) (worth (suc n) x)
    ∙ ap (λ t. x * 256 ^ suc n + t)
    (same_sum _ (λ i. byte_worth (n - i) (get_or xs i 0)) n
    (λ i. same_worth (suc n - suc i) (n - i) (get_or xs i 0) (omega arith)) ∙ spelled n xs)

pub from_bytes : (xs : List ℕ) → from_be_bytes w128 xs ≡ prefix_number 16 xs
from_bytes xs = spelled 15 xs

prefix_of_none : (n : ℕ) → prefix_number n [] ≡ 0
unfolding prefix_number
prefix_of_none zero = refl
prefix_of_none (suc n) = refl

pub same_prefix : (n : ℕ) (xs ys : List ℕ) → ((k : ℕ) → k < n → get_or xs k 0 ≡ get_or ys k 0)
    → prefix_number n xs ≡ prefix_number n ys
unfolding prefix_number
same_prefix zero xs ys h = refl
same_prefix (suc n) [] [] h = refl
same_prefix (suc n) [] (y ∷ ys) h =
    let e = ap (λ z. z * 256 ^ n) (h 0 (omega arith)) in
    let r = same_prefix n [] ys (λ k l. h (suc k) (omega arith)) in
    omega (arith, e, r, prefix_of_none n)
same_prefix (suc n) (x ∷ xs) [] h =
    let e = ap (λ z. z * 256 ^ n) (h 0 (omega arith)) in
    let r = same_prefix n xs [] (λ k l. h (suc k) (omega arith)) in
    omega (arith, e, r, prefix_of_none n)
same_prefix (suc n) (x ∷ xs) (y ∷ ys) h =
    let e = ap (λ z. z * 256 ^ n) (h 0 (omega arith)) in
    let r = same_prefix n xs ys (λ k l. h (suc k) (omega arith)) in
    omega (arith, e, r)

-- names whose keys differ compare as the keys do
pub keys_apart : (one other : ℕ) (xs ys : List ℕ) → IsPrefixKey one xs → IsPrefixKey other ys → (one ≢ other)
    → nat_cmp one other ≡ slice_cmp nat_cmp xs ys
keys_apart one other xs ys a b apart = then_apart one other _ apart ∙ keyed one other xs ys a b
  where
    then_apart : (x y : ℕ) (o : Ordering) → (x ≢ y) → nat_cmp x y ≡ ordering_then (nat_cmp x y) o
    then_apart x y o n =
        by_ranked (x < y) (x ≡ y) (y < x) (nat_cmp x y) (ranked x y (nat_cmp x y) refl)
        (λ is h. is ∙ sym (ap (λ q. ordering_then q o) is)) (λ is h. absurd (n h))
        (λ is h. is ∙ sym (ap (λ q. ordering_then q o) is))
