-- Joined lists: of pairs in either order, of the one member that passes a test, and of those that pass and the others.
use Rattle.ldmodel_laws.proofs.Common.{Bool, Contains, Each, EachLater, IsPermutation, List, Some, [], ap, append_assoc}
use Rattle.ldmodel_laws.proofs.Common.{cond, false, filter, filter-append, find, flat_map, not, option_map_or, refl}
use Rattle.ldmodel_laws.proofs.Common.{subst, sym, true, ◌&&◌, ◌++◌, ◌∙◌, ◌∷◌, ◌≡◌}
use Rattle.std.proofs.lemmas.List.Sorted.{IsPermutation-append, IsPermutation-append_comm, IsPermutation-append_left}
use Rattle.std.proofs.lemmas.List.Sorted.{IsPermutation-append_right, IsPermutation-refl, IsPermutation-sym}
use Rattle.std.proofs.lemmas.List.Sorted.{IsPermutation-trans}
use Rattle.ldmodel_laws.proofs.Finding.{NotBoth}
use Rattle.ldmodel_laws.proofs.Members.{here, later}

-- ---- members that give the same, or nothing

pub joined_same : {X Y : Type 0} (f g : X → List Y) (xs : List X) → ((x : X) → Contains xs x → f x ≡ g x)
    → flat_map f xs ≡ flat_map g xs
joined_same f g [] h = refl
joined_same f g (x ∷ xs) h =
    ap (λ l. l ++ flat_map f xs) (h x (here x xs))
    ∙ ap (λ l. g x ++ l) (joined_same f g xs (λ y c. h y (later x xs y c)))

pub joined_none : {X Y : Type 0} (f : X → List Y) (xs : List X) → Each (λ x. f x ≡ []) xs → flat_map f xs ≡ []
joined_none f [] h = refl
joined_none f (x ∷ xs) h = ap (λ l. l ++ flat_map f xs) h.0 ∙ joined_none f xs h.1

-- ---- what a test keeps

pub filter_all : {X : Type 0} (xs : List X) → filter (λ x. true) xs ≡ xs
filter_all [] = refl
filter_all (x ∷ xs) = ap (λ l. x ∷ l) (filter_all xs)

pub filter_joined : {X Y : Type 0} (test : Y → Bool) (f : X → List Y) (xs : List X) → filter test (flat_map f xs)
    ≡ flat_map (λ x. filter test (f x)) xs
filter_joined test f [] = refl
filter_joined test f (x ∷ xs) = filter-append test (f x) (flat_map f xs)
    ∙ ap (λ l. filter test (f x) ++ l) (filter_joined test f xs)

pub filter_both : {X : Type 0} (f g : X → Bool) (xs : List X) → filter (λ x. f x && g x) xs ≡ filter g (filter f xs)
filter_both f g [] = refl
filter_both {X} f g (x ∷ xs) = go (f x) (filter_both f g xs)
  where
    go : (b : Bool) → filter (λ y. f y && g y) xs ≡ filter g (filter f xs)
        → cond (b && g x) (x ∷ filter (λ y. f y && g y) xs) (filter (λ y. f y && g y) xs)
        ≡ filter g (cond b (x ∷ filter f xs) (filter f xs))
    go true h = ap (λ l. cond (g x) (x ∷ l) l) h
    go false h = h

-- all that a member gives, or nothing
pub filter_parts : {X Y : Type 0} (test : Y → Bool) (keeps : X → Bool) (f : X → List Y) (xs : List X)
    → ((x : X) (y : Y) → Contains xs x → Contains (f x) y → test y ≡ keeps x)
    → filter test (flat_map f xs) ≡ flat_map f (filter keeps xs)
filter_parts test keeps f [] h = refl
filter_parts {X} {Y} test keeps f (x ∷ xs) h =
    filter-append test (f x) (flat_map f xs)
    ∙ go (keeps x) (λ y c. h x y (here x xs) c) (filter_parts test keeps f xs (λ z y c d. h z y (later x xs z c) d))
  where
    kept : (b : Bool) (ys : List Y) → ((y : Y) → Contains ys y → test y ≡ b) → filter test ys ≡ cond b ys []
    kept true [] k = refl
    kept false [] k = refl
    kept true (y ∷ ys) k =
        ap (λ c. cond c (y ∷ filter test ys) (filter test ys)) (k y (here y ys))
        ∙ ap (λ l. y ∷ l) (kept true ys (λ z c. k z (later y ys z c)))
    kept false (y ∷ ys) k =
        ap (λ c. cond c (y ∷ filter test ys) (filter test ys)) (k y (here y ys))
        ∙ kept false ys (λ z c. k z (later y ys z c))

    go : (b : Bool) → ((y : Y) → Contains (f x) y → test y ≡ b)
        → filter test (flat_map f xs) ≡ flat_map f (filter keeps xs)
        → filter test (f x) ++ filter test (flat_map f xs)
        ≡ flat_map f (cond b (x ∷ filter keeps xs) (filter keeps xs))
    go true k e = ap (λ l. l ++ filter test (flat_map f xs)) (kept true (f x) k) ∙ ap (λ l. f x ++ l) e
    go false k e = ap (λ l. l ++ filter test (flat_map f xs)) (kept false (f x) k) ∙ e

-- ---- what one member gives that passes a test, where no other one does

pub found_joined : {X Y : Type 0} (test : X → Bool) (g : X → List Y) (xs : List X) → EachLater (NotBoth test) xs
    → option_map_or g (find test xs) [] ≡ flat_map (λ x. cond (test x) (g x) []) xs
found_joined test g [] h = refl
found_joined {X} {Y} test g (x ∷ xs) h = go (test x) refl (found_joined test g xs h.1)
  where
    rest : List Y
    rest = flat_map (λ y. cond (test y) (g y) []) xs

    failing : test x ≡ true → (ys : List X) → Each (NotBoth test x) ys → Each (λ y. cond (test y) (g y) [] ≡ []) ys
    failing e [] k = tt
    failing e (y ∷ ys) k = (
      ap (λ b. cond b (g y) []) (ap (λ b. b && test y) (sym e) ∙ k.0),
      failing e ys k.1,
    )

    append_nil : (l : List Y) → l ≡ l ++ []
    append_nil [] = refl
    append_nil (y ∷ ys) = ap (λ l. y ∷ l) (append_nil ys)

    go : (b : Bool) → test x ≡ b → option_map_or g (find test xs) [] ≡ rest
        → option_map_or g (cond b (Some x) (find test xs)) [] ≡ cond b (g x) [] ++ rest
    go true e k = append_nil (g x)
        ∙ ap (λ l. g x ++ l) (sym (joined_none (λ y. cond (test y) (g y) []) xs (failing e xs h.0)))
    go false e k = k

-- ---- permutations of joined lists

pub joined_permuted : {X Y : Type 0} (f g : X → List Y) (xs : List X) → ((x : X) → IsPermutation (f x) (g x))
    → IsPermutation (flat_map f xs) (flat_map g xs)
joined_permuted f g [] h = IsPermutation-refl []
joined_permuted f g (x ∷ xs) h =
    IsPermutation-append (f x) (g x) (flat_map f xs) (flat_map g xs) (h x) (joined_permuted f g xs h)

-- two in the middle change places
middle_moved : {Y : Type 0} (a b c d : List Y) → IsPermutation ((a ++ b) ++ (c ++ d)) ((a ++ c) ++ (b ++ d))
middle_moved a b c d =
    let moved : IsPermutation ((b ++ c) ++ d) ((c ++ b) ++ d) = IsPermutation-append_left d (b ++ c) (c ++ b)
    (IsPermutation-append_comm b c) in
    let before : a ++ ((b ++ c) ++ d) ≡ (a ++ b) ++ (c ++ d) = simp append_assoc in
    let after : a ++ ((c ++ b) ++ d) ≡ (a ++ c) ++ (b ++ d) = simp append_assoc in
    subst (λ l. IsPermutation l ((a ++ c) ++ (b ++ d))) before
    (subst (λ l. IsPermutation (a ++ ((b ++ c) ++ d)) l) after
    (IsPermutation-append_right a ((b ++ c) ++ d) ((c ++ b) ++ d) moved))

both_joined : {X Y : Type 0} (f g : X → List Y) (xs : List X)
    → IsPermutation (flat_map (λ x. f x ++ g x) xs) (flat_map f xs ++ flat_map g xs)
both_joined f g [] = IsPermutation-refl []
both_joined f g (x ∷ xs) =
    IsPermutation-trans _ ((f x ++ g x) ++ (flat_map f xs ++ flat_map g xs)) _
    (IsPermutation-append_right (f x ++ g x) _ _ (both_joined f g xs))
    (middle_moved (f x) (g x) (flat_map f xs) (flat_map g xs))

-- what pairs give, by the first and then the second, and the other way round
pub exchanged : {X Y Z : Type 0} (f : X → Y → List Z) (xs : List X) (ys : List Y)
    → IsPermutation (flat_map (λ x. flat_map (λ y. f x y) ys) xs) (flat_map (λ y. flat_map (λ x. f x y) xs) ys)
exchanged {X} {Y} {Z} f [] ys =
    subst (IsPermutation []) (sym (joined_none (λ (y : Y). []) ys (nothing ys))) (IsPermutation-refl [])
  where
    nothing : (zs : List Y) → Each (λ (y : Y). (let l : List Z = [] in l) ≡ []) zs
    nothing [] = tt
    nothing (z ∷ zs) = (refl, nothing zs)
exchanged f (x ∷ xs) ys =
    IsPermutation-trans _ (flat_map (f x) ys ++ flat_map (λ y. flat_map (λ z. f z y) xs) ys) _
    (IsPermutation-append_right (flat_map (f x) ys) _ _ (exchanged f xs ys))
    (IsPermutation-sym _ _ (both_joined (f x) (λ y. flat_map (λ z. f z y) xs) ys))

-- those that pass a test, and the others
pub parted : {X Y : Type 0} (f : X → List Y) (test : X → Bool) (xs : List X)
    → IsPermutation (flat_map f xs) (flat_map f (filter test xs) ++ flat_map f (filter (λ x. not (test x)) xs))
parted f test [] = IsPermutation-refl []
parted {X} {Y} f test (x ∷ xs) = go (test x) (parted f test xs)
  where
    passing : List X
    passing = filter test xs

    others : List X
    others = filter (λ y. not (test y)) xs

    go : (b : Bool) → IsPermutation (flat_map f xs) (flat_map f passing ++ flat_map f others)
        → IsPermutation (f x ++ flat_map f xs)
        (flat_map f (cond b (x ∷ passing) passing) ++ flat_map f (cond (not b) (x ∷ others) others))
    go true h =
        subst (IsPermutation (f x ++ flat_map f xs)) (sym (append_assoc (f x) (flat_map f passing) (flat_map f others)))
        (IsPermutation-append_right (f x) _ _ h)
    go false h =
        IsPermutation-trans _ (f x ++ (flat_map f passing ++ flat_map f others)) _
        (IsPermutation-append_right (f x) _ _ h)
        (middle_moved [] (f x) (flat_map f passing) (flat_map f others))
