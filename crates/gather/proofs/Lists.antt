-- Lists of objects and of symbols with their numbers.
use Rattle.gather.proofs.Common.{All, All-append, All-cons, All-head, All-nil, All-tail, AllZip, List, None, Option}
use Rattle.gather.proofs.Common.{Some, [], ap, arith, cons_option, enumerate_from, filter_map, flat_map, flat_map-cons}
use Rattle.gather.proofs.Common.{get_or, get_or-enumerate_from, get_or_from_slice_get, length, length-enumerate_from}
use Rattle.gather.proofs.Common.{option_to_list, refl, slice_get, slice_get-get_or, slice_get_within, subst, suc, sym}
use Rattle.gather.proofs.Common.{take, take-suc, zero, ℕ, ◌++◌, ◌+◌, ◌<◌, ◌∙◌, ◌∷◌, ◌≡◌}
use Rattle.std.proofs.lemmas.Slice.Zip.{all_zipped_more}

-- one more member, and what belongs to it
pub zip_next : {X Y : Type 0} (R : X → Y → Type 0) (os : List X) (xs : List Y) (n : ℕ) (o : X) (x : Y)
    → slice_get os n ≡ Some o → R o x → AllZip R (take n os) xs → AllZip R (take (n + 1) os) (xs ++ x ∷ [])
zip_next R os xs n o x e r h =
    let within : n < length os = slice_get_within os n o e in
    let suc_is : suc n ≡ n + 1 = omega arith in
    let more : take (n + 1) os ≡ take n os ++ o ∷ [] =
    ap (λ (k : ℕ). take k os) (sym suc_is)
    ∙ (take-suc os n o within ∙ ap (λ y. take n os ++ y ∷ []) (get_or_from_slice_get os n o o e)) in
    subst (λ l. AllZip R l (xs ++ x ∷ [])) (sym more) (all_zipped_more R (take n os) xs o x h r)

-- a member with its number
pub numbered : {X : Type 0} (xs : List X) (n : ℕ) (x : X) (d : ℕ × X) → slice_get xs n ≡ Some x
    → get_or (enumerate_from 0 xs) n d ≡ (n, x)
numbered {X} xs n x d e =
    let from_0 : 0 + n ≡ n = omega arith in
    get_or-enumerate_from 0 xs n d (slice_get_within xs n x e)
    ∙ (ap (λ (k : ℕ). let y : ℕ × X = (k, get_or xs n d.1) in y) from_0
    ∙ ap (λ (v : X). let y : ℕ × X = (n, v) in y) (get_or_from_slice_get xs n x d.1 e))

zip_get : {A B : Type 0} (R : A → B → Type 0) (xs : List A) (ys : List B) (k : ℕ) (d : A) (e : B) → AllZip R xs ys
    → k < length xs → R (get_or xs k d) (get_or ys k e)
zip_get R [] [] k d e h l = absurd (omega (arith, l))
zip_get R [] (y ∷ ys) k d e h l = absurd h
zip_get R (x ∷ xs) [] k d e h l = absurd h
zip_get R (x ∷ xs) (y ∷ ys) zero d e h l = h.0
zip_get R (x ∷ xs) (y ∷ ys) (suc k) d e h l = zip_get R xs ys k d e h.1 (omega (arith, l))

-- what belongs to a member
pub zip_member : {X Y : Type 0} (R : X → Y → Type 0) (os : List X) (xs : List Y) (n : ℕ) (o : X) (d : Y)
    → slice_get os n ≡ Some o → AllZip R os xs → R o (get_or xs n d)
zip_member R os xs n o d e h =
    subst (λ y. R y (get_or xs n d)) (get_or_from_slice_get os n o o e)
    (zip_get R os xs n o d h (slice_get_within os n o e))

-- the same where it has its number
pub zip_at : {X Y : Type 0} (R : ℕ × X → Y → Type 0) (os : List X) (xs : List Y) (n : ℕ) (o : X) (d : Y)
    → slice_get os n ≡ Some o → AllZip R (enumerate_from 0 os) xs → R (n, o) (get_or xs n d)
zip_at {X} R os xs n o d e h =
    let t : ℕ × X = (n, o) in
    subst (λ (y : ℕ × X). R y (get_or xs n d)) (numbered os n o t e)
    (zip_get R (enumerate_from 0 os) xs n t d h
    (omega (arith, length-enumerate_from 0 os, slice_get_within os n o e)))

pub all_numbered : {X : Type 0} (P : ℕ × X → Type 0) (xs : List X)
    → ((n : ℕ) (x : X) → slice_get xs n ≡ Some x → P (n, x)) → All P (enumerate_from 0 xs)
all_numbered P xs h = λ k d low.
    let within : k < length xs = omega (arith, low, length-enumerate_from 0 xs) in
    let is = slice_get-get_or xs k d.1 within in
    subst P (sym (numbered xs k (get_or xs k d.1) d is)) (h k (get_or xs k d.1) is)

pub all_flat_map : {X Y : Type 0} (P : Y → Type 0) (f : X → List Y) (xs : List X) → All (λ x. All P (f x)) xs
    → All P (flat_map f xs)
all_flat_map P f [] h = All-nil P
all_flat_map P f (x ∷ xs) h =
    subst (All P) (sym (flat_map-cons f x xs))
    (All-append P (f x) (flat_map f xs) (All-head (λ x. All P (f x)) x xs h)
    (all_flat_map P f xs (All-tail (λ x. All P (f x)) x xs h)))

pub all_filter_map : {X Y : Type 0} (P : Y → Type 0) (f : X → Option Y) (xs : List X)
    → ((x : X) (y : Y) → f x ≡ Some y → P y) → All P (filter_map f xs)
all_filter_map P f [] h = All-nil P
all_filter_map {X} {Y} P f (x ∷ xs) h = go (f x) refl (all_filter_map P f xs h)
  where
    go : (o : Option Y) → f x ≡ o → All P (filter_map f xs) → All P (cons_option o (filter_map f xs))
    go None e rest = rest
    go (Some y) e rest = All-cons P y (filter_map f xs) (h x y e) rest

pub filter_map_one : {X Y : Type 0} (f : X → Option Y) (x : X) → filter_map f (x ∷ []) ≡ option_to_list (f x)
filter_map_one {X} {Y} f x = go (f x)
  where
    go : (o : Option Y) → cons_option o [] ≡ option_to_list o
    go None = refl
    go (Some y) = refl
