-- What a test keeps of a list, and members of two lists that are related one by one.
use Rattle.emit_relocate.proofs.Common.{AllZip, Bool, Contains, List, Option, [], ap, arith, cond, cons_option, false}
use Rattle.emit_relocate.proofs.Common.{filter, filter_map, first_or_later, here, later, length, none_in_nil, not, refl}
use Rattle.emit_relocate.proofs.Common.{subst, sym, true, ⊎_elim, ◌&&◌, ◌+◌, ◌||◌, ◌∙◌, ◌∷◌, ◌≡◌}
use Rattle.std.proofs.Common.{None}

-- what tests keep
pub filter_where : {X : Type 0} (p q : X → Bool) (xs : List X) → ((x : X) → Contains xs x → p x ≡ q x)
    → filter p xs ≡ filter q xs
filter_where p q [] h = refl
filter_where p q (x ∷ xs) h =
    ap (λ b. cond b (x ∷ filter p xs) (filter p xs)) (h x (here x xs))
    ∙ ap (λ ys. cond (q x) (x ∷ ys) ys) (filter_where p q xs (λ y c. h y (later x xs y c)))

pub filter_whole : {X : Type 0} (p : X → Bool) (xs : List X) → ((x : X) → Contains xs x → p x ≡ true)
    → xs ≡ filter p xs
filter_whole p [] h = refl
filter_whole p (x ∷ xs) h =
    ap (λ ys. x ∷ ys) (filter_whole p xs (λ y c. h y (later x xs y c)))
    ∙ ap (λ b. cond b (x ∷ filter p xs) (filter p xs)) (sym (h x (here x xs)))

pub filter_nothing : {X : Type 0} (xs : List X) → filter (λ x. false) xs ≡ []
filter_nothing [] = refl
filter_nothing (x ∷ xs) = filter_nothing xs

-- where a test leaves out only what gives nothing
pub filter_map_kept : {X Y : Type 0} (p : X → Bool) (f : X → Option Y) (xs : List X)
    → ((x : X) → Contains xs x → p x ≡ false → f x ≡ None) → filter_map f (filter p xs) ≡ filter_map f xs
filter_map_kept p f [] h = refl
filter_map_kept {X} {Y} p f (x ∷ xs) h =
    go (p x) (h x (here x xs)) (filter_map_kept p f xs (λ y c. h y (later x xs y c)))
  where
    go : (b : Bool) → (b ≡ false → f x ≡ None) → filter_map f (filter p xs) ≡ filter_map f xs
        → filter_map f (cond b (x ∷ filter p xs) (filter p xs)) ≡ cons_option (f x) (filter_map f xs)
    go true k e = ap (cons_option (f x)) e
    go false k e = e ∙ ap (λ m. cons_option m (filter_map f xs)) (sym (k refl))

-- those that fail a test or pass another are those that fail it, and those that pass both
pub count_either : {X : Type 0} (p q : X → Bool) (xs : List X)
    → length (filter (λ x. not (p x) || q x) xs)
    ≡ length (filter (λ x. not (p x)) xs) + length (filter (λ x. p x && q x) xs)
count_either p q [] = omega arith
count_either {X} p q (x ∷ xs) = go (p x) (q x) (count_either p q xs)
  where
    either : List X
    either = filter (λ y. not (p y) || q y) xs

    failing : List X
    failing = filter (λ y. not (p y)) xs

    both : List X
    both = filter (λ y. p y && q y) xs

    go : (a b : Bool) → length either ≡ length failing + length both
        → length (cond (not a || b) (x ∷ either) either)
        ≡ length (cond (not a) (x ∷ failing) failing) + length (cond (a && b) (x ∷ both) both)
    go true true e = omega (arith, e)
    go true false e = e
    go false b e = omega (arith, e)

-- members of two lists that are related one by one
pub record Partner {X Y : Type 0} (R : X → Y → Type 0) (xs : List X) (y : Y) : Type 0 where
  pub partner : X
  pub among : Contains xs partner
  pub related : R partner y

pub partner_of : {X Y : Type 0} (R : X → Y → Type 0) (xs : List X) (ys : List Y) (y : Y) → AllZip R xs ys
    → Contains ys y → Partner R xs y
partner_of R [] [] y h c = absurd (none_in_nil y c)
partner_of R [] (z ∷ zs) y h c = absurd h
partner_of R (x ∷ xs) [] y h c = absurd (none_in_nil y c)
partner_of R (x ∷ xs) (z ∷ zs) y h c = ⊎_elim
    (λ same. record { partner = x; among = here x xs; related = subst (R x) same h.0 })
    (λ in_rest. let k : Partner R xs y = partner_of R xs zs y h.1 in_rest in
    record { partner = k.partner; among = later x xs k.partner k.among; related = k.related })
    (first_or_later z zs y c)

pub partner_in : {X Y : Type 0} (R : X → Y → Type 0) (xs : List X) (ys : List Y) (x : X) → AllZip R xs ys
    → Contains xs x → Partner (λ (y : Y) (z : X). R z y) ys x
partner_in R [] [] x h c = absurd (none_in_nil x c)
partner_in R [] (y ∷ ys) x h c = absurd h
partner_in R (z ∷ zs) [] x h c = absurd h
partner_in {X} {Y} R (z ∷ zs) (y ∷ ys) x h c = ⊎_elim
    (λ same. record { partner = y; among = here y ys; related = subst (λ w. R w y) same h.0 })
    (λ in_rest. let k : Partner (λ (v : Y) (w : X). R w v) ys x = partner_in R zs ys x h.1 in_rest in
    record { partner = k.partner; among = later y ys k.partner k.among; related = k.related })
    (first_or_later z zs x c)
