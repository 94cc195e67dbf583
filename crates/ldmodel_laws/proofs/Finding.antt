-- The one member of a list that passes a test is the one that is found.
use Rattle.ldmodel_laws.proofs.Common.{Bool, Contains, Contains-append_cases, Contains-append_left}
use Rattle.ldmodel_laws.proofs.Common.{Contains-append_right, Each, EachLater, List, None, Option, Some, [], ap, cond}
use Rattle.ldmodel_laws.proofs.Common.{cons_option, false, filter, filter_map, find, flat_map, inl, inr, map}
use Rattle.ldmodel_laws.proofs.Common.{option_map, refl, subst, sym, true, ⊎_elim, ◌&&◌, ◌∙◌, ◌∷◌, ◌≡◌, ◌⊎◌}
use Rattle.ldmodel_laws.proofs.Members.{here, later, first_or_later, none_in_nil}

pub member_of : {X : Type 0} (P : X → Type 0) (xs : List X) (x : X) → Each P xs → Contains xs x → P x
member_of P [] x h c = absurd (none_in_nil x c)
member_of P (y ∷ ys) x h c =
    ⊎_elim (λ same. subst P same h.0) (λ in_rest. member_of P ys x h.1 in_rest) (first_or_later y ys x c)

pub each_member : {X : Type 0} (P : X → Type 0) (xs : List X) → ((x : X) → Contains xs x → P x) → Each P xs
each_member P [] h = tt
each_member P (y ∷ ys) h = (h y (here y ys), each_member P ys (λ x c. h x (later y ys x c)))

-- the tests of two are not both passed
abbrev pub NotBoth : {X : Type 0} → (X → Bool) → X → X → Type 0
NotBoth test x y = (test x && test y) ≡ false

and_true : (b : Bool) → (b && true) ≡ false → b ≡ false
and_true true e = e
and_true false e = refl

pub find_only : {X : Type 0} (test : X → Bool) (xs : List X) (x : X) → EachLater (NotBoth test) xs → Contains xs x
    → test x ≡ true → find test xs ≡ Some x
find_only test [] x h c e = absurd (none_in_nil x c)
find_only test (y ∷ ys) x h c e = go (first_or_later y ys x c) (λ in_rest. find_only test ys x h.1 in_rest e)
  where
    go : (y ≡ x) ⊎ Contains ys x → (Contains ys x → find test ys ≡ Some x) → cond (test y) (Some y) (find test ys)
        ≡ Some x
    go (inl same) rest = ap (λ b. cond b (Some y) (find test ys)) (ap test same ∙ e) ∙ ap Some same
    go (inr in_rest) rest =
        let apart : (test y && true) ≡ false = ap (λ b. test y && b) (sym e)
        ∙ member_of (NotBoth test y) ys x h.0 in_rest in
        ap (λ b. cond b (Some y) (find test ys)) (and_true (test y) apart) ∙ rest in_rest

pub find_filter : {X : Type 0} (f g : X → Bool) (xs : List X) → find (λ x. f x && g x) xs ≡ find g (filter f xs)
find_filter f g [] = refl
find_filter f g (x ∷ xs) = go (f x) (find_filter f g xs)
  where
    go : (b : Bool) → find (λ y. f y && g y) xs ≡ find g (filter f xs)
        → cond (b && g x) (Some x) (find (λ y. f y && g y) xs) ≡ find g (cond b (x ∷ filter f xs) (filter f xs))
    go true h = ap (λ r. cond (g x) (Some x) r) h
    go false h = h

-- what a member of a mapped list comes of
pub record Comes {X Y : Type 0} (f : X → Y) (xs : List X) (y : Y) : Type 0 where
  pub origin : X
  pub among : Contains xs origin
  pub gives : f origin ≡ y

pub in_map : {X Y : Type 0} (f : X → Y) (xs : List X) (y : Y) → Contains (map f xs) y → Comes f xs y
in_map f [] y c = absurd (none_in_nil y c)
in_map f (x ∷ xs) y c =
    ⊎_elim (λ same. record { origin = x; among = here x xs; gives = same })
    (λ in_rest. let k = in_map f xs y in_rest in
    record { origin = k.origin; among = later x xs k.origin k.among; gives = k.gives })
    (first_or_later (f x) (map f xs) y c)

pub map_in : {X Y : Type 0} (f : X → Y) (xs : List X) (x : X) → Contains xs x → Contains (map f xs) (f x)
map_in f [] x c = absurd (none_in_nil x c)
map_in f (y ∷ ys) x c =
    ⊎_elim (λ same. subst (λ z. Contains (map f (y ∷ ys)) (f z)) same (here (f y) (map f ys))) (λ in_rest.
    later (f y) (map f ys) (f x) (map_in f ys x in_rest)) (first_or_later y ys x c)

-- what a member of a joined list comes of
pub record ComesOf {X Y : Type 0} (f : X → List Y) (xs : List X) (y : Y) : Type 0 where
  pub origin : X
  pub among : Contains xs origin
  pub gives : Contains (f origin) y

pub in_flat_map : {X Y : Type 0} (f : X → List Y) (xs : List X) (y : Y) → Contains (flat_map f xs) y → ComesOf f xs y
in_flat_map f [] y c = absurd (none_in_nil y c)
in_flat_map f (x ∷ xs) y c =
    ⊎_elim (λ own. record { origin = x; among = here x xs; gives = own })
    (λ in_rest. let k = in_flat_map f xs y in_rest in
    record { origin = k.origin; among = later x xs k.origin k.among; gives = k.gives })
    (Contains-append_cases (f x) (flat_map f xs) y c)

pub flat_map_in : {X Y : Type 0} (f : X → List Y) (xs : List X) (x : X) (y : Y) → Contains xs x → Contains (f x) y
    → Contains (flat_map f xs) y
flat_map_in f [] x y c d = absurd (none_in_nil x c)
flat_map_in f (z ∷ zs) x y c d =
    ⊎_elim (λ same. Contains-append_left (f z) (flat_map f zs) y (subst (λ w. Contains (f w) y) (sym same) d))
    (λ in_rest. Contains-append_right (f z) (flat_map f zs) y (flat_map_in f zs x y in_rest d))
    (first_or_later z zs x c)

-- what a member of a filtered and mapped list comes of
pub record ComesSome {X Y : Type 0} (f : X → Option Y) (xs : List X) (y : Y) : Type 0 where
  pub origin : X
  pub among : Contains xs origin
  pub gives : f origin ≡ Some y

pub in_filter_map : {X Y : Type 0} (f : X → Option Y) (xs : List X) (y : Y) → Contains (filter_map f xs) y
    → ComesSome f xs y
in_filter_map f [] y c = absurd (none_in_nil y c)
in_filter_map {X} {Y} f (x ∷ xs) y c = go (f x) refl c (in_filter_map f xs y)
  where
    go : (m : Option Y) → f x ≡ m → Contains (cons_option m (filter_map f xs)) y
        → (Contains (filter_map f xs) y → ComesSome f xs y) → ComesSome f (x ∷ xs) y
    go None e d rest = let k = rest d in
        record { origin = k.origin; among = later x xs k.origin k.among; gives = k.gives }
    go (Some z) e d rest =
        ⊎_elim (λ is. record { origin = x; among = here x xs; gives = e ∙ ap Some is })
        (λ in_rest. let k = rest in_rest in
        record { origin = k.origin; among = later x xs k.origin k.among; gives = k.gives })
        (first_or_later z (filter_map f xs) y d)

pub none_in : {X Y : Type 0} (f : X → Option Y) (xs : List X) (x : X) → filter_map f xs ≡ [] → Contains xs x
    → f x ≡ None
none_in f [] x e c = absurd (none_in_nil x c)
none_in {X} {Y} f (y ∷ ys) x e c = go (f y) refl e (first_or_later y ys x c) (λ l. none_in f ys x l)
  where
    go : (m : Option Y) → f y ≡ m → cons_option m (filter_map f ys) ≡ [] → (y ≡ x) ⊎ Contains ys x
        → (filter_map f ys ≡ [] → Contains ys x → f x ≡ None) → f x ≡ None
    go (Some u) a b d rest = absurd (let none : ⊥ = cc in none)
    go None a b (inl is) rest = ap f (sym is) ∙ a
    go None a b (inr in_rest) rest = rest b in_rest

pub filter_map_in : {X Y : Type 0} (f : X → Option Y) (xs : List X) (x : X) (y : Y) → Contains xs x → f x ≡ Some y
    → Contains (filter_map f xs) y
filter_map_in f [] x y c e = absurd (none_in_nil x c)
filter_map_in {X} {Y} f (z ∷ zs) x y c e = go (f z) refl (first_or_later z zs x c) (λ k. filter_map_in f zs x y k e)
  where
    go : (m : Option Y) → f z ≡ m → (z ≡ x) ⊎ Contains zs x → (Contains zs x → Contains (filter_map f zs) y)
        → Contains (cons_option m (filter_map f zs)) y
    go None a (inl is) rest = absurd (let both : None ≡ Some y = sym a ∙ ap f is ∙ e in let none : ⊥ = cc in none)
    go None a (inr k) rest = rest k
    go (Some u) a (inl is) rest =
        let both : Some u ≡ Some y = sym a ∙ ap f is ∙ e in
        let one : u ≡ y = cc in
        subst (λ v. Contains (u ∷ filter_map f zs) v) one (here u (filter_map f zs))
    go (Some u) a (inr k) rest = later u (filter_map f zs) y (rest k)

pub found_passes : {X : Type 0} (test : X → Bool) (xs : List X) (x : X) → find test xs ≡ Some x → test x ≡ true
found_passes test [] x e = absurd (let none : ⊥ = cc in none)
found_passes test (y ∷ ys) x e = go (test y) refl e (found_passes test ys x)
  where
    go : (b : Bool) → test y ≡ b → cond b (Some y) (find test ys) ≡ Some x → (find test ys ≡ Some x → test x ≡ true)
        → test x ≡ true
    go true k f rest = let same : y ≡ x = cc in subst (λ z. test z ≡ true) same k
    go false k f rest = rest f

-- what is found by what a list is mapped to
pub find_mapped : {X Y : Type 0} (f : Y → Bool) (g : X → Y) (xs : List X) → find f (map g xs)
    ≡ option_map g (find (λ x. f (g x)) xs)
find_mapped f g [] = refl
find_mapped {X} {Y} f g (x ∷ xs) = go (f (g x)) (find_mapped f g xs)
  where
    go : (b : Bool) → find f (map g xs) ≡ option_map g (find (λ y. f (g y)) xs)
        → cond b (Some (g x)) (find f (map g xs)) ≡ option_map g (cond b (Some x) (find (λ y. f (g y)) xs))
    go true e = refl
    go false e = e
