-- Members of lists: what holds of all, and the one that is found.
use Rattle.emit.proofs.Common.{All, All-append, All-cons, All-head, All-nil, All-tail, Bool, Contains, IfSome, List}
use Rattle.emit.proofs.Common.{None, Option, Some, [], ap, arith, cond, cons_option, count_by, enumerate_from, false}
use Rattle.emit.proofs.Common.{filter_map, find, first_or_later, flat_map, get_or_from_slice_get, inl, inr, insert_by}
use Rattle.emit.proofs.Common.{map, none_in_nil, refl, slice_get, slice_get_within, sort_by, subst, suc, sum_by-cons}
use Rattle.emit.proofs.Common.{sym, true, zero, ℕ, ◌+◌, ◌<◌, ◌∙◌, ◌∷◌, ◌≡◌, ◌≤◌, ◌⊎◌}

pub all_flat_map : {X Y : Type 0} (P : Y → Type 0) (f : X → List Y) (xs : List X) → All (λ x. All P (f x)) xs
    → All P (flat_map f xs)
all_flat_map P f [] h = All-nil P
all_flat_map P f (x ∷ xs) h =
    All-append P (f x) (flat_map f xs) (All-head (λ x. All P (f x)) x xs h)
    (all_flat_map P f xs (All-tail (λ x. All P (f x)) x xs h))

pub all_filter_map : {X Y : Type 0} (P : Y → Type 0) (f : X → Option Y) (xs : List X) → ((x : X) → IfSome (f x) P)
    → All P (filter_map f xs)
all_filter_map P f [] h = All-nil P
all_filter_map {X} {Y} P f (x ∷ xs) h = go (f x) (h x) (all_filter_map P f xs h)
  where
    go : (m : Option Y) → IfSome m P → All P (filter_map f xs) → All P (cons_option m (filter_map f xs))
    go None i rest = rest
    go (Some y) i rest = All-cons P y (filter_map f xs) i rest

-- what holds of the values of a function at all members
pub all_of_map : {X Y : Type 0} (P : Y → Type 0) (f : X → Y) (xs : List X) → All P (map f xs) → All (λ x. P (f x)) xs
all_of_map P f [] h = All-nil (λ x. P (f x))
all_of_map P f (x ∷ xs) h =
    All-cons (λ x. P (f x)) x xs (All-head P (f x) (map f xs) h) (all_of_map P f xs (All-tail P (f x) (map f xs) h))

pub all_second : {X : Type 0} (P : X → Type 0) (n : ℕ) (xs : List X) → All P xs
    → All (λ (e : ℕ × X). P e.1) (enumerate_from n xs)
all_second {X} P n [] h = All-nil (λ (e : ℕ × X). P e.1)
all_second {X} P n (x ∷ xs) h =
    All-cons (λ (e : ℕ × X). P e.1) (n, x) (enumerate_from (n + 1) xs) (All-head P x xs h)
    (all_second P (n + 1) xs (All-tail P x xs h))

all_inserted : {X : Type 0} (P : X → Type 0) (less : X → X → Bool) (x : X) (xs : List X) → P x → All P xs
    → All P (insert_by less x xs)
all_inserted P less x [] own h = All-cons P x [] own (All-nil P)
all_inserted P less x (y ∷ ys) own h = go (less y x) (all_inserted P less x ys own (All-tail P y ys h))
  where
    go : (b : Bool) → All P (insert_by less x ys) → All P (cond b (y ∷ insert_by less x ys) (x ∷ y ∷ ys))
    go true rest = All-cons P y (insert_by less x ys) (All-head P y ys h) rest
    go false rest = All-cons P x (y ∷ ys) own h

pub all_sorted : {X : Type 0} (P : X → Type 0) (less : X → X → Bool) (xs : List X) → All P xs
    → All P (sort_by less xs)
unfolding sort_by
all_sorted P less [] h = All-nil P
all_sorted P less (x ∷ xs) h =
    all_inserted P less x (sort_by less xs) (All-head P x xs h) (all_sorted P less xs (All-tail P x xs h))

-- the member that is found
pub found : {X : Type 0} (P : X → Type 0) (test : X → Bool) (xs : List X) (y : X) → All P xs
    → find test xs ≡ Some y → P y
found P test [] y h e = absurd (let no : ⊥ = cc in no)
found P test (x ∷ xs) y h e = go (test x) e (found P test xs y (All-tail P x xs h))
  where
    go : (b : Bool) → cond b (Some x) (find test xs) ≡ Some y → (find test xs ≡ Some y → P y) → P y
    go true k rest = let is : x ≡ y = cc in subst P is (All-head P x xs h)
    go false k rest = rest k

pub found_passes : {X : Type 0} (test : X → Bool) (xs : List X) (y : X) → find test xs ≡ Some y → test y ≡ true
found_passes test [] y e = absurd (let no : ⊥ = cc in no)
found_passes test (x ∷ xs) y e = go (test x) refl e (found_passes test xs y)
  where
    go : (b : Bool) → test x ≡ b → cond b (Some x) (find test xs) ≡ Some y → (find test xs ≡ Some y → test y ≡ true)
        → test y ≡ true
    go true t k rest = let is : x ≡ y = cc in subst (λ z. test z ≡ true) is t
    go false t k rest = rest k

abbrev one_if : Bool → ℕ
one_if b = cond b 1 0

counted : {X : Type 0} (test : X → Bool) (xs : List X) (x : X) → Contains xs x → test x ≡ true → 0 < count_by test xs
counted test [] x c e = absurd (none_in_nil x c)
counted {X} test (y ∷ ys) x c e = go (first_or_later y ys x c) (λ d. counted test ys x d e)
  where
    go : (y ≡ x) ⊎ Contains ys x → (Contains ys x → 0 < count_by test ys) → 0 < count_by test (y ∷ ys)
    go (inl is) rest =
        let split = sum_by-cons (λ (z : X). one_if (test z)) y ys in
        let first : one_if (test y) ≡ 1 = ap one_if (ap test is ∙ e) in
        omega (arith, split, first)
    go (inr d) rest = let split = sum_by-cons (λ (z : X). one_if (test z)) y ys in omega (arith, split, rest d)

-- where one member at most passes a test, two that do are one
pub one_passes : {X : Type 0} (test : X → Bool) (xs : List X) (x y : X) → count_by test xs ≤ 1 → Contains xs x
    → Contains xs y → test x ≡ true → test y ≡ true → x ≡ y
one_passes test [] x y few c d s t = absurd (none_in_nil x c)
one_passes {X} test (z ∷ zs) x y few c d s t =
    go (first_or_later z zs x c) (first_or_later z zs y d) (λ a b. one_passes test zs x y less a b s t)
  where
    split : count_by test (z ∷ zs) ≡ one_if (test z) + count_by test zs
    split = sum_by-cons (λ (w : X). one_if (test w)) z zs

    less : count_by test zs ≤ 1
    less = omega (arith, few, split)

    two : {w v : X} → z ≡ w → test w ≡ true → Contains zs v → test v ≡ true → ⊥
    two {w} {v} is a b e =
        let one : one_if (test z) ≡ 1 = ap one_if (ap test is ∙ a) in
        let more : 0 < count_by test zs = counted test zs v b e in
        omega (arith, few, split, one, more)

    go : (z ≡ x) ⊎ Contains zs x → (z ≡ y) ⊎ Contains zs y → (Contains zs x → Contains zs y → x ≡ y) → x ≡ y
    go (inl a) (inl b) rest = sym a ∙ b
    go (inl a) (inr b) rest = absurd (two a s b t)
    go (inr a) (inl b) rest = absurd (two b t a s)
    go (inr a) (inr b) rest = rest a b

-- then it has one place
pub one_place : {X : Type 0} (test : X → Bool) (xs : List X) (x : X) → count_by test xs ≤ 1 → test x ≡ true
    → (i j : ℕ) → slice_get xs i ≡ Some x → slice_get xs j ≡ Some x → i ≡ j
one_place test [] x few s i j e f = cc
one_place {X} test (z ∷ zs) x few s i j e f = at i j e f (one_place test zs x less s)
  where
    split : count_by test (z ∷ zs) ≡ one_if (test z) + count_by test zs
    split = sum_by-cons (λ (w : X). one_if (test w)) z zs

    less : count_by test zs ≤ 1
    less = omega (arith, few, split)

    two : (k : ℕ) → Some z ≡ Some x → slice_get zs k ≡ Some x → ⊥
    two k a b =
        let is : z ≡ x = cc in
        let one : one_if (test z) ≡ 1 = ap one_if (ap test is ∙ s) in
        let more : 0 < count_by test zs =
        counted test zs x (k, slice_get_within zs k x b, get_or_from_slice_get zs k x x b) s in
        omega (arith, few, split, one, more)

    at : (k n : ℕ) → slice_get (z ∷ zs) k ≡ Some x → slice_get (z ∷ zs) n ≡ Some x
        → ((a b : ℕ) → slice_get zs a ≡ Some x → slice_get zs b ≡ Some x → a ≡ b) → k ≡ n
    at zero zero a b rest = refl
    at zero (suc n) a b rest = absurd (two n a b)
    at (suc k) zero a b rest = absurd (two k b a)
    at (suc k) (suc n) a b rest = ap (λ m. suc m) (rest k n a b)

-- what a member of a mapped list comes of
pub record Source {X Y : Type 0} (f : X → Y) (xs : List X) (y : Y) : Type 0 where
  pub source : X
  pub among : Contains xs source
  pub gives : f source ≡ y

pub in_mapped : {X Y : Type 0} (f : X → Y) (xs : List X) (y : Y) → Contains (map f xs) y → Source f xs y
in_mapped f [] y c = absurd (none_in_nil y c)
in_mapped {X} {Y} f (x ∷ xs) y c = go (first_or_later (f x) (map f xs) y c) (λ d. in_mapped f xs y d)
  where
    go : (f x ≡ y) ⊎ Contains (map f xs) y → (Contains (map f xs) y → Source f xs y) → Source f (x ∷ xs) y
    go (inl same) rest = record { source = x; among = (zero, omega arith, refl); gives = same }
    go (inr d) rest =
        let h : Source f xs y = rest d in
        record {
          source = h.source;
          among = (suc h.among.0, omega (arith, h.among.1), h.among.2);
          gives = h.gives;
        }
