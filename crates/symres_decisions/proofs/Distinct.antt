-- How many names a list has, each counted once.
use Rattle.symres_decisions.proofs.Common.{Bool, IsDistinct, List, [], any-filter_same, ap, append-nil, append_assoc}
use Rattle.symres_decisions.proofs.Common.{arith, bytes_eq, bytes_eq-Decides, cond, distinct, false, filter}
use Rattle.symres_decisions.proofs.Common.{filter-append, is_member, length, length-append, length-le_from_is_member}
use Rattle.symres_decisions.proofs.Common.{list_any, not, refl, sym, true, ℕ, ◌++◌, ◌+◌, ◌||◌, ◌∙◌, ◌∷◌, ◌≡◌, ◌≤◌}
use Rattle.std.proofs.lemmas.Bool.Decides.{same_from_decides}
use Rattle.std.specs.Cmp.{IsEquivalence}

symmetric : (x y : List ℕ) → bytes_eq x y ≡ bytes_eq y x
symmetric x y =
    same_from_decides (bytes_eq x y) (bytes_eq y x) (bytes_eq-Decides x y)
    (λ h. sym ((bytes_eq-Decides y x).0 h), λ e. (bytes_eq-Decides y x).1 (sym e))

pub bytes_laws : IsEquivalence bytes_eq
bytes_laws = record {
  refl = λ x. (bytes_eq-Decides x x).1 refl;
  symm = symmetric;
  congr = λ x y z h. ap (λ (n : List ℕ). bytes_eq n z) ((bytes_eq-Decides x y).0 h);
}

-- each name of the list stays
pub member_distinct : (xs : List (List ℕ)) (q : List ℕ) → is_member bytes_eq xs q ≡ true
    → is_member bytes_eq (distinct xs) q ≡ true
member_distinct [] q h = h
member_distinct (x ∷ xs) q h = go (bytes_eq q x) refl h (member_distinct xs q)
  where
    kept : bytes_eq q x ≡ false → list_any (bytes_eq q) (filter (λ (y : List ℕ). not (bytes_eq x y)) (distinct xs))
        ≡ list_any (bytes_eq q) (distinct xs)
    kept e =
        any-filter_same (bytes_eq q) (λ (y : List ℕ). not (bytes_eq x y)) true
        (λ k same.
        let is : q ≡ k = (bytes_eq-Decides q k).0 same in
        ap (λ (n : List ℕ). not (bytes_eq x n)) (sym is) ∙ ap not (symmetric x q ∙ e)) (distinct xs)

    go : (b : Bool) → bytes_eq q x ≡ b → (b || list_any (bytes_eq q) xs) ≡ true
        → (is_member bytes_eq xs q ≡ true → is_member bytes_eq (distinct xs) q ≡ true)
        → is_member bytes_eq (distinct (x ∷ xs)) q ≡ true
    go true e h f =
        ap (λ (b : Bool).
        b || list_any (bytes_eq q) (filter (λ (y : List ℕ). not (bytes_eq x y)) (distinct xs))) e
    go false e h f =
        ap (λ (b : Bool).
        b || list_any (bytes_eq q) (filter (λ (y : List ℕ). not (bytes_eq x y)) (distinct xs))) e ∙ kept e ∙ f h

-- names that differ, each in the list, are at most as many
pub at_most : (ns xs : List (List ℕ)) → IsDistinct bytes_eq ns
    → ((q : List ℕ) → is_member bytes_eq ns q ≡ true → is_member bytes_eq xs q ≡ true)
    → length ns ≤ length (distinct xs)
at_most ns xs d h =
    length-le_from_is_member bytes_laws ns (distinct xs) d (λ q m. member_distinct xs q (h q m))

or_false : (b : Bool) → (b || false) ≡ b
or_false true = refl
or_false false = refl

or_assoc : (a b c : Bool) → (a || (b || c)) ≡ ((a || b) || c)
or_assoc true b c = refl
or_assoc false b c = refl

pub member_append : (xs ys : List (List ℕ)) (q : List ℕ) → is_member bytes_eq (xs ++ ys) q
    ≡ (is_member bytes_eq xs q || is_member bytes_eq ys q)
member_append [] ys q = refl
member_append (x ∷ xs) ys q =
    ap (λ (b : Bool). bytes_eq q x || b) (member_append xs ys q)
    ∙ or_assoc (bytes_eq q x) (is_member bytes_eq xs q) (is_member bytes_eq ys q)

pub member_pushed : (xs : List (List ℕ)) (x q : List ℕ) → is_member bytes_eq (xs ++ x ∷ []) q
    ≡ (is_member bytes_eq xs q || bytes_eq q x)
member_pushed xs x q =
    member_append xs (x ∷ []) q ∙ ap (λ (b : Bool). is_member bytes_eq xs q || b) (or_false (bytes_eq q x))

or_left : (a b : Bool) → (a || b) ≡ false → a ≡ false
or_left true b h = absurd (cc)
or_left false b h = refl

or_right : (a b : Bool) → (a || b) ≡ false → b ≡ false
or_right true b h = absurd (cc)
or_right false b h = h

-- a name that is new
pub new_pushed : (xs : List (List ℕ)) (x : List ℕ) → is_member bytes_eq xs x ≡ false
    → distinct (xs ++ x ∷ []) ≡ distinct xs ++ x ∷ []
new_pushed [] x h = refl
new_pushed (y ∷ ys) x h =
    let p : List ℕ → Bool = λ (z : List ℕ). not (bytes_eq y z) in
    let apart : bytes_eq y x ≡ false = symmetric y x ∙ or_left (bytes_eq x y) (is_member bytes_eq ys x) h in
    ap (λ (ns : List (List ℕ)). y ∷ filter p ns)
    (new_pushed ys x (or_right (bytes_eq x y) (is_member bytes_eq ys x) h))
    ∙ ap (λ (ns : List (List ℕ)). y ∷ ns) (filter-append p (distinct ys) (x ∷ []))
    ∙ ap (λ (b : Bool). y ∷ (filter p (distinct ys) ++ cond (not b) (x ∷ []) [])) apart

-- one that is there
pub old_pushed : (xs : List (List ℕ)) (x : List ℕ) → is_member bytes_eq xs x ≡ true
    → distinct (xs ++ x ∷ []) ≡ distinct xs
old_pushed [] x h = absurd (cc)
old_pushed (y ∷ ys) x h = go (bytes_eq x y) (is_member bytes_eq ys x) refl refl h (old_pushed ys x)
  where
    there : is_member bytes_eq ys x ≡ true → (is_member bytes_eq ys x ≡ true → distinct (ys ++ x ∷ []) ≡ distinct ys)
        → distinct ((y ∷ ys) ++ x ∷ []) ≡ distinct (y ∷ ys)
    there m f = ap (λ (ns : List (List ℕ)). y ∷ filter (λ (z : List ℕ). not (bytes_eq y z)) ns) (f m)

    go : (b m : Bool) → bytes_eq x y ≡ b → is_member bytes_eq ys x ≡ m
        → (bytes_eq x y || is_member bytes_eq ys x) ≡ true
        → (is_member bytes_eq ys x ≡ true → distinct (ys ++ x ∷ []) ≡ distinct ys)
        → distinct ((y ∷ ys) ++ x ∷ []) ≡ distinct (y ∷ ys)
    go b true e m h f = there m f
    go true false e m h f =
        ap (λ (ns : List (List ℕ)). y ∷ filter (λ (z : List ℕ). not (bytes_eq y z)) ns) (new_pushed ys x m)
        ∙ ap (λ (ns : List (List ℕ)). y ∷ ns)
        (filter-append (λ (z : List ℕ). not (bytes_eq y z)) (distinct ys) (x ∷ []))
        ∙ ap (λ (b : Bool).
        y ∷ (filter (λ (z : List ℕ). not (bytes_eq y z)) (distinct ys) ++ cond (not b) (x ∷ []) []))
        (symmetric y x ∙ e)
        ∙ ap (λ (ns : List (List ℕ)). y ∷ ns) (append-nil (filter (λ (z : List ℕ). not (bytes_eq y z)) (distinct ys)))
    go false false e m h f =
        let no : (bytes_eq x y || is_member bytes_eq ys x) ≡ false =
        ap (λ (b : Bool). b || is_member bytes_eq ys x) e ∙ m in
        absurd (cc)

pub pushed_new : (xs : List (List ℕ)) (x : List ℕ) → is_member bytes_eq xs x ≡ false
    → length (distinct (xs ++ x ∷ [])) ≡ length (distinct xs) + 1
pushed_new xs x h = ap length (new_pushed xs x h) ∙ length-append (distinct xs) (x ∷ [])

pub pushed_more : (xs : List (List ℕ)) (x : List ℕ) → length (distinct xs) ≤ length (distinct (xs ++ x ∷ []))
pushed_more xs x = go (is_member bytes_eq xs x) refl
  where
    go : (b : Bool) → is_member bytes_eq xs x ≡ b → length (distinct xs) ≤ length (distinct (xs ++ x ∷ []))
    go true e = omega (arith, ap length (old_pushed xs x e))
    go false e = omega (arith, pushed_new xs x e)

pub appended_more : (xs ys : List (List ℕ)) → length (distinct xs) ≤ length (distinct (xs ++ ys))
appended_more xs [] = omega (arith, ap (λ (ns : List (List ℕ)). length (distinct ns)) (append-nil xs))
appended_more xs (y ∷ ys) =
    omega (
      arith,
      pushed_more xs y,
      appended_more (xs ++ y ∷ []) ys,
      ap (λ (ns : List (List ℕ)). length (distinct ns)) (append_assoc xs (y ∷ []) ys),
    )
