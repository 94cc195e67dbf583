-- What holds of each member of a list, or of each two, in lists that are made of others.
use Rattle.ldmodel_laws.proofs.Common.{All, AllPairs, AllZip, Bool, Each, EachLater, List, Some, [], ap, arith, cond}
use Rattle.ldmodel_laws.proofs.Common.{false, filter, flat_map, insert_by, list_any, map, refl, slice_get, sort_by, suc}
use Rattle.ldmodel_laws.proofs.Common.{true, zero, ℕ, ◌++◌, ◌||◌, ◌∙◌, ◌∷◌, ◌≡◌}

pub each_always : {X : Type 0} (P : X → Type 0) → ((x : X) → P x) → (xs : List X) → Each P xs
each_always P h [] = tt
each_always P h (x ∷ xs) = (h x, each_always P h xs)

pub each_imply : {X : Type 0} (P Q : X → Type 0) → ((x : X) → P x → Q x) → (xs : List X) → Each P xs → Each Q xs
each_imply P Q f [] h = tt
each_imply P Q f (x ∷ xs) h = (f x h.0, each_imply P Q f xs h.1)

pub each_and : {X : Type 0} (P Q R : X → Type 0) → ((x : X) → P x → Q x → R x) → (xs : List X) → Each P xs → Each Q xs
    → Each R xs
each_and P Q R f [] h k = tt
each_and P Q R f (x ∷ xs) h k = (f x h.0 k.0, each_and P Q R f xs h.1 k.1)

pub each_append : {X : Type 0} (P : X → Type 0) (xs ys : List X) → Each P xs → Each P ys → Each P (xs ++ ys)
each_append P [] ys h k = k
each_append P (x ∷ xs) ys h k = (h.0, each_append P xs ys h.1 k)

pub each_parts : {X : Type 0} (P : X → Type 0) (xs ys : List X) → Each P (xs ++ ys) → Each P xs × Each P ys
each_parts P [] ys h = (tt, h)
each_parts P (x ∷ xs) ys h = let rest = each_parts P xs ys h.1 in ((h.0, rest.0), rest.1)

pub each_filter : {X : Type 0} (P : X → Type 0) (test : X → Bool) (xs : List X) → Each P xs → Each P (filter test xs)
each_filter P test [] h = tt
each_filter P test (x ∷ xs) h = go (test x) (each_filter P test xs h.1)
  where
    go : (b : Bool) → Each P (filter test xs) → Each P (cond b (x ∷ filter test xs) (filter test xs))
    go true rest = (h.0, rest)
    go false rest = rest

pub each_of_map : {X Y : Type 0} (P : Y → Type 0) (f : X → Y) (xs : List X) → Each P (map f xs) → Each (λ x. P (f x)) xs
each_of_map P f [] h = tt
each_of_map P f (x ∷ xs) h = (h.0, each_of_map P f xs h.1)

pub each_into_map : {X Y : Type 0} (P : Y → Type 0) (f : X → Y) (xs : List X) → Each (λ x. P (f x)) xs
    → Each P (map f xs)
each_into_map P f [] h = tt
each_into_map P f (x ∷ xs) h = (h.0, each_into_map P f xs h.1)

pub each_flat : {X Y : Type 0} (P : Y → Type 0) (f : X → List Y) (xs : List X) → Each (λ x. Each P (f x)) xs
    → Each P (flat_map f xs)
each_flat P f [] h = tt
each_flat P f (x ∷ xs) h = each_append P (f x) (flat_map f xs) h.0 (each_flat P f xs h.1)

pub each_inserted : {X : Type 0} (P : X → Type 0) (below : X → X → Bool) (x : X) (xs : List X) → P x → Each P xs
    → Each P (insert_by below x xs)
each_inserted P below x [] h k = (h, tt)
each_inserted P below x (y ∷ ys) h k = go (below y x) (each_inserted P below x ys h k.1)
  where
    go : (b : Bool) → Each P (insert_by below x ys) → Each P (cond b (y ∷ insert_by below x ys) (x ∷ y ∷ ys))
    go true rest = (k.0, rest)
    go false rest = (h, k)

pub each_sorted : {X : Type 0} (P : X → Type 0) (below : X → X → Bool) (xs : List X) → Each P xs
    → Each P (sort_by below xs)
unfolding sort_by
each_sorted P below [] h = tt
each_sorted P below (x ∷ xs) h = each_inserted P below x (sort_by below xs) h.0 (each_sorted P below xs h.1)

pub none_any : {X : Type 0} (p : X → Bool) (xs : List X) → Each (λ x. p x ≡ false) xs → list_any p xs ≡ false
none_any p [] h = refl
none_any p (x ∷ xs) h = ap (λ b. b || list_any p xs) h.0 ∙ none_any p xs h.1

-- ---- by places

pub each_by : {X : Type 0} (P : X → Type 0) (xs : List X) → ((k : ℕ) (x : X) → slice_get xs k ≡ Some x → P x)
    → Each P xs
each_by P [] h = tt
each_by P (x ∷ xs) h = (h 0 x refl, each_by P xs (λ k y e. h (suc k) y e))

pub each_of_all : {X : Type 0} (P : X → Type 0) (xs : List X) → All P xs → Each P xs
each_of_all P [] h = tt
each_of_all P (x ∷ xs) h = (h 0 x (omega arith), each_of_all P xs (λ k d l. h (suc k) d (omega (arith, l))))

pub all_of_each : {X : Type 0} (P : X → Type 0) (xs : List X) → Each P xs → All P xs
all_of_each P [] h k d l = absurd (omega (arith, l))
all_of_each P (x ∷ xs) h zero d l = h.0
all_of_each P (x ∷ xs) h (suc k) d l = all_of_each P xs h.1 k d (omega (arith, l))

pub later_of_pairs : {X : Type 0} (R : X → X → Type 0) (xs : List X) → AllPairs R xs → EachLater R xs
later_of_pairs R [] h = tt
later_of_pairs R (x ∷ xs) h = (
  each_of_all (R x) xs (λ k d l. h 0 (suc k) d (omega arith) (omega (arith, l))),
  later_of_pairs R xs (λ i j d k l. h (suc i) (suc j) d (omega (arith, k)) (omega (arith, l))),
)

pub pairs_of_later : {X : Type 0} (R : X → X → Type 0) (xs : List X) → EachLater R xs → AllPairs R xs
pairs_of_later R [] h i j d k l = absurd (omega (arith, l))
pairs_of_later R (x ∷ xs) h i zero d k l = absurd (omega (arith, k))
pairs_of_later R (x ∷ xs) h zero (suc j) d k l = all_of_each (R x) xs h.0 j d (omega (arith, l))
pairs_of_later R (x ∷ xs) h (suc i) (suc j) d k l = pairs_of_later R xs h.1 i j d (omega (arith, k)) (omega (arith, l))

-- ---- of each two

pub later_imply : {X : Type 0} (R S : X → X → Type 0) → ((x y : X) → R x y → S x y) → (xs : List X) → EachLater R xs
    → EachLater S xs
later_imply R S f [] h = tt
later_imply R S f (x ∷ xs) h = (each_imply (R x) (S x) (f x) xs h.0, later_imply R S f xs h.1)

pub later_filter : {X : Type 0} (R : X → X → Type 0) (test : X → Bool) (xs : List X) → EachLater R xs
    → EachLater R (filter test xs)
later_filter R test [] h = tt
later_filter R test (x ∷ xs) h = go (test x) (later_filter R test xs h.1)
  where
    go : (b : Bool) → EachLater R (filter test xs) → EachLater R (cond b (x ∷ filter test xs) (filter test xs))
    go true rest = (each_filter (R x) test xs h.0, rest)
    go false rest = rest

-- members of a mapped list that differ come of members that do
pub later_of_map : {X Y : Type 0} (R : Y → Y → Type 0) (f : X → Y) (xs : List X) → EachLater R (map f xs)
    → EachLater (λ x y. R (f x) (f y)) xs
later_of_map R f [] h = tt
later_of_map R f (x ∷ xs) h = (each_of_map (R (f x)) f xs h.0, later_of_map R f xs h.1)

-- each of some differs from each of others
pub across : {X : Type 0} (R : X → X → Type 0) (xs ys : List X) → EachLater R (xs ++ ys) → Each (λ x. Each (R x) ys) xs
across R [] ys h = tt
across R (x ∷ xs) ys h = ((each_parts (R x) xs ys h.0).1, across R xs ys h.1)

pub last_part : {X : Type 0} (R : X → X → Type 0) (xs ys : List X) → EachLater R (xs ++ ys) → EachLater R ys
last_part R [] ys h = h
last_part R (x ∷ xs) ys h = last_part R xs ys h.1

-- ---- of two lists side by side

pub zip_more : {X Y : Type 0} (R : X → Y → Type 0) (xs : List X) (ys : List Y) (x : X) (y : Y) → AllZip R xs ys → R x y
    → AllZip R (xs ++ x ∷ []) (ys ++ y ∷ [])
zip_more R [] [] x y all one = (one, tt)
zip_more R [] (z ∷ zs) x y all one = absurd all
zip_more R (w ∷ ws) [] x y all one = absurd all
zip_more R (w ∷ ws) (z ∷ zs) x y all one = (all.0, zip_more R ws zs x y all.1 one)
