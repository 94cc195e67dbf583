-- Lists of names in byte order, each name once: such a list is known by its members.
use Rattle.emit_text.proofs.Common.{Bool, Contains, List, [], ap, arith, bytes_eq, cond, false, filter, get_or, inl}
use Rattle.emit_text.proofs.Common.{inr, is_before, length, not, refl, subst, suc, sym, true, zero, ℕ, ⊎_elim, ◌++◌}
use Rattle.emit_text.proofs.Common.{◌<◌, ◌∙◌, ◌∷◌, ◌≡◌, ◌≢◌, ◌⊎◌}
use Rattle.std.specs.Cmp.Lexicographic.{slice_cmp, nat_list_cmp_total}
use Rattle.std.specs.Ordering.{is_lt, is_eq, nat_cmp, ordering_reverse}
use Rattle.std.specs.declared.cmp.Ordering.{Ordering}
use Rattle.std.specs.declared.cmp.Ordering.TheVariants.{Less, Equal, Greater}
use Rattle.std.proofs.lemmas.Map.Text.{is_eq-slice_cmp}
use Rattle.std.proofs.lemmas.Slice.Eq.{bytes_eq-Decides}
use Rattle.std.proofs.lemmas.Bool.{false≢true, true≢false}
use Rattle.ldmodel.specs.Names.{distinct}
use Rattle.ldmodel.specs.Sorting.{insert_by, sort_by}

abbrev pub Name : Type 0
Name = List ℕ

abbrev pub order : Name → Name → Ordering
order a b = slice_cmp nat_cmp a b

abbrev pub Lt : Name → Name → Type 0
Lt a b = order a b ≡ Less

pub lt_trans : (a b c : Name) → Lt a b → Lt b c → Lt a c
lt_trans a b c h k = nat_list_cmp_total.trans a b c h k

not_itself : (o : Ordering) → o ≡ Less → o ≡ Greater → ⊥
not_itself Less h k = absurd (cc)
not_itself Equal h k = absurd (cc)
not_itself Greater h k = absurd (cc)

reversed_less : (o p : Ordering) → o ≡ ordering_reverse p → p ≡ Less → o ≡ Greater
reversed_less o Less e h = e
reversed_less o Equal e h = absurd (cc)
reversed_less o Greater e h = absurd (cc)

reversed_greater : (o p : Ordering) → o ≡ ordering_reverse p → p ≡ Greater → o ≡ Less
reversed_greater o Less e h = absurd (cc)
reversed_greater o Equal e h = absurd (cc)
reversed_greater o Greater e h = e

pub lt_one_way : (a b : Name) → Lt a b → Lt b a → ⊥
lt_one_way a b h k = not_itself (order a b) h
    (reversed_less (order a b) (order b a) (nat_list_cmp_total.antisymm a b) k)

pub lt_from_greater : (a b : Name) → order a b ≡ Greater → Lt b a
lt_from_greater a b h = reversed_greater (order b a) (order a b) (nat_list_cmp_total.antisymm b a) h

is_eq_equal : (o : Ordering) → o ≡ Equal → is_eq o ≡ true
is_eq_equal Less h = absurd (cc)
is_eq_equal Equal h = refl
is_eq_equal Greater h = absurd (cc)

pub same_from_equal : (a b : Name) → order a b ≡ Equal → a ≡ b
same_from_equal a b h = (bytes_eq-Decides a b).0 (sym (is_eq-slice_cmp a b) ∙ is_eq_equal (order a b) h)

is_lt_less : (o : Ordering) → is_lt o ≡ true → o ≡ Less
is_lt_less Less h = refl
is_lt_less Equal h = absurd (false≢true h)
is_lt_less Greater h = absurd (false≢true h)

pub lt_from_before : (a b : Name) → is_before a b ≡ true → Lt a b
lt_from_before a b h = is_lt_less (order a b) h

not_before_cases : (a b : Name) → a ≢ b → (o : Ordering) → order a b ≡ o → is_lt o ≡ false → Lt b a
not_before_cases a b n Less e h = absurd (true≢false h)
not_before_cases a b n Equal e h = absurd (n (same_from_equal a b e))
not_before_cases a b n Greater e h = lt_from_greater a b e

pub lt_from_not_before : (a b : Name) → a ≢ b → is_before a b ≡ false → Lt b a
lt_from_not_before a b n h = not_before_cases a b n (order a b) refl h

-- before all of a list
abbrev pub Below : Name → List Name → Type 0
Below a [] = Unit {0}
Below a (x ∷ xs) = Lt a x × Below a xs

-- in byte order, each name once
abbrev pub Asc : List Name → Type 0
Asc [] = Unit {0}
Asc (x ∷ xs) = Below x xs × Asc xs

abbrev pub In : Name → List Name → Type 0
In z [] = ⊥
In z (x ∷ xs) = (z ≡ x) ⊎ In z xs

pub below_in : (a z : Name) (xs : List Name) → Below a xs → In z xs → Lt a z
below_in a z [] b i = absurd i
below_in a z (x ∷ xs) b (inl e) = subst (λ w. Lt a w) (sym e) b.0
below_in a z (x ∷ xs) b (inr i) = below_in a z xs b.1 i

pub below_all : (a : Name) (xs : List Name) → ((z : Name) → In z xs → Lt a z) → Below a xs
below_all a [] h = tt
below_all a (x ∷ xs) h = (h x (inl refl), below_all a xs (λ z i. h z (inr i)))

rest_of : (a : Name) (xs ys : List Name) → Below a xs → ((z : Name) → In z xs → (z ≡ a) ⊎ In z ys) → (z : Name)
    → In z xs → In z ys
rest_of a xs ys b h z i = ⊎_elim
    (λ e. let l = subst (λ w. Lt a w) e (below_in a z xs b i) in absurd (lt_one_way a a l l))
    (λ j. j) (h z i)

-- the same members, the same list
pub same_list : (xs ys : List Name) → Asc xs → Asc ys → ((z : Name) → In z xs → In z ys)
    → ((z : Name) → In z ys → In z xs) → xs ≡ ys
same_list [] [] s t f g = refl
same_list [] (y ∷ ys) s t f g = absurd (g y (inl refl))
same_list (x ∷ xs) [] s t f g = absurd (f x (inl refl))
same_list (x ∷ xs) (y ∷ ys) s t f g =
    both (λ f2 g2. same_list xs ys s.1 t.1 f2 g2) (f x (inl refl))
  where
    here : (((z : Name) → In z xs → In z ys) → ((z : Name) → In z ys → In z xs) → xs ≡ ys) → x ≡ y → x ∷ xs ≡ y ∷ ys
    here rest e =
        let f2 : (z : Name) → In z xs → In z ys =
        rest_of x xs ys s.0 (λ z i. ⊎_elim (λ d. inl (d ∙ sym e)) (λ j. inr j) (f z (inr i))) in
        let g2 : (z : Name) → In z ys → In z xs =
        rest_of y ys xs t.0 (λ z i. ⊎_elim (λ d. inl (d ∙ e)) (λ j. inr j) (g z (inr i))) in
        ap (λ w. w ∷ xs) e ∙ ap (λ zs. y ∷ zs) (rest f2 g2)

    both : (((z : Name) → In z xs → In z ys) → ((z : Name) → In z ys → In z xs) → xs ≡ ys) → (x ≡ y) ⊎ In x ys → x ∷ xs
        ≡ y ∷ ys
    both rest (inl e) = here rest e
    both rest (inr i) = ⊎_elim (λ e. here rest (sym e)) (λ j.
        absurd (lt_one_way x y (below_in x y xs s.0 j) (below_in y x ys t.0 i))) (g y (inl refl))

-- ---- sorting

pub in_inserted : (z x : Name) (ys : List Name) → In z (insert_by is_before x ys) → (z ≡ x) ⊎ In z ys
in_inserted z x [] i = i
in_inserted z x (y ∷ ys) i = go (is_before y x) i (in_inserted z x ys)
  where
    go : (b : Bool) → In z (cond b (y ∷ insert_by is_before x ys) (x ∷ y ∷ ys))
        → (In z (insert_by is_before x ys) → (z ≡ x) ⊎ In z ys) → (z ≡ x) ⊎ In z (y ∷ ys)
    go true (inl e) rest = inr (inl e)
    go true (inr j) rest = ⊎_elim (λ e. inl e) (λ k. inr (inr k)) (rest j)
    go false j rest = j

pub inserted_in : (z x : Name) (ys : List Name) → (z ≡ x) ⊎ In z ys → In z (insert_by is_before x ys)
inserted_in z x [] i = i
inserted_in z x (y ∷ ys) i = go (is_before y x) i (inserted_in z x ys)
  where
    go : (b : Bool) → (z ≡ x) ⊎ In z (y ∷ ys) → ((z ≡ x) ⊎ In z ys → In z (insert_by is_before x ys))
        → In z (cond b (y ∷ insert_by is_before x ys) (x ∷ y ∷ ys))
    go true (inl e) rest = inr (rest (inl e))
    go true (inr (inl e)) rest = inl e
    go true (inr (inr j)) rest = inr (rest (inr j))
    go false j rest = j

pub inserted_asc : (x : Name) (ys : List Name) → Asc ys → (In x ys → ⊥) → Asc (insert_by is_before x ys)
inserted_asc x [] s n = (tt, tt)
inserted_asc x (y ∷ ys) s n = go (is_before y x) refl (inserted_asc x ys s.1 (λ i. n (inr i)))
  where
    go : (b : Bool) → is_before y x ≡ b → Asc (insert_by is_before x ys)
        → Asc (cond b (y ∷ insert_by is_before x ys) (x ∷ y ∷ ys))
    go true e rest = (
      below_all y (insert_by is_before x ys) (λ z i.
          ⊎_elim (λ d. subst (λ w. Lt y w) (sym d) (lt_from_before y x e)) (λ j.
          below_in y z ys s.0 j) (in_inserted z x ys i)),
      rest,
    )
    go false e rest =
        let l : Lt x y = lt_from_not_before y x (λ d. n (inl (sym d))) e in
        ((l, below_all x ys (λ z i. lt_trans x y z l (below_in y z ys s.0 i))), s)

-- each name once
abbrev pub Once : List Name → Type 0
Once [] = Unit {0}
Once (x ∷ xs) = (In x xs → ⊥) × Once xs

pub in_sorted : (z : Name) (xs : List Name) → In z (sort_by is_before xs) → In z xs
unfolding sort_by
in_sorted z [] i = i
in_sorted z (x ∷ xs) i = ⊎_elim (λ e. inl e) (λ j. inr (in_sorted z xs j)) (in_inserted z x (sort_by is_before xs) i)

pub sorted_in : (z : Name) (xs : List Name) → In z xs → In z (sort_by is_before xs)
unfolding sort_by
sorted_in z [] i = i
sorted_in z (x ∷ xs) (inl e) = inserted_in z x (sort_by is_before xs) (inl e)
sorted_in z (x ∷ xs) (inr i) = inserted_in z x (sort_by is_before xs) (inr (sorted_in z xs i))

pub sorted_asc : (xs : List Name) → Once xs → Asc (sort_by is_before xs)
unfolding sort_by
sorted_asc [] o = tt
sorted_asc (x ∷ xs) o = inserted_asc x (sort_by is_before xs) (sorted_asc xs o.1) (λ i. o.0 (in_sorted x xs i))

-- ---- filters

pub in_filtered : (p : Name → Bool) (z : Name) (xs : List Name) → In z (filter p xs) → In z xs × (p z ≡ true)
in_filtered p z [] i = absurd i
in_filtered p z (x ∷ xs) i = go (p x) refl i (in_filtered p z xs)
  where
    go : (b : Bool) → p x ≡ b → In z (cond b (x ∷ filter p xs) (filter p xs))
        → (In z (filter p xs) → In z xs × (p z ≡ true)) → In z (x ∷ xs) × (p z ≡ true)
    go true e (inl d) rest = (inl d, subst (λ w. p w ≡ true) (sym d) e)
    go true e (inr j) rest = (inr (rest j).0, (rest j).1)
    go false e j rest = (inr (rest j).0, (rest j).1)

pub filtered_in : (p : Name → Bool) (z : Name) (xs : List Name) → In z xs → p z ≡ true → In z (filter p xs)
filtered_in p z [] i h = absurd i
filtered_in p z (x ∷ xs) i h = go (p x) refl i (λ j. filtered_in p z xs j h)
  where
    go : (b : Bool) → p x ≡ b → (z ≡ x) ⊎ In z xs → (In z xs → In z (filter p xs))
        → In z (cond b (x ∷ filter p xs) (filter p xs))
    go true e (inl d) rest = inl d
    go true e (inr j) rest = inr (rest j)
    go false e (inl d) rest = absurd (true≢false (sym (subst (λ w. p w ≡ true) d h) ∙ e))
    go false e (inr j) rest = rest j

pub filtered_asc : (p : Name → Bool) (xs : List Name) → Asc xs → Asc (filter p xs)
filtered_asc p [] s = tt
filtered_asc p (x ∷ xs) s = go (p x) (filtered_asc p xs s.1)
  where
    go : (b : Bool) → Asc (filter p xs) → Asc (cond b (x ∷ filter p xs) (filter p xs))
    go true rest = (below_all x (filter p xs) (λ z i. below_in x z xs s.0 (in_filtered p z xs i).0), rest)
    go false rest = rest

filtered_once : (p : Name → Bool) (xs : List Name) → Once xs → Once (filter p xs)
filtered_once p [] o = tt
filtered_once p (x ∷ xs) o = go (p x) (filtered_once p xs o.1)
  where
    go : (b : Bool) → Once (filter p xs) → Once (cond b (x ∷ filter p xs) (filter p xs))
    go true rest = ((λ i. o.0 (in_filtered p x xs i).0), rest)
    go false rest = rest

abbrev other : Name → Name → Bool
other x y = not (bytes_eq x y)

not_other : (x : Name) → other x x ≡ true → ⊥
not_other x h = go (bytes_eq x x) refl h
  where
    go : (b : Bool) → bytes_eq x x ≡ b → not b ≡ true → ⊥
    go true e h = absurd (false≢true h)
    go false e h = absurd (true≢false (sym ((bytes_eq-Decides x x).1 refl) ∙ e))

other_of : (x z : Name) → x ≢ z → other x z ≡ true
other_of x z n = go (bytes_eq x z) refl
  where
    go : (b : Bool) → bytes_eq x z ≡ b → not b ≡ true
    go true e = absurd (n ((bytes_eq-Decides x z).0 e))
    go false e = refl

pub distinct_once : (xs : List Name) → Once (distinct xs)
distinct_once [] = tt
distinct_once (x ∷ xs) = (
  (λ i. not_other x (in_filtered (other x) x (distinct xs) i).1),
  filtered_once (other x) (distinct xs) (distinct_once xs),
)

pub in_distinct : (z : Name) (xs : List Name) → In z (distinct xs) → In z xs
in_distinct z [] i = i
in_distinct z (x ∷ xs) (inl e) = inl e
in_distinct z (x ∷ xs) (inr i) = inr (in_distinct z xs (in_filtered (other x) z (distinct xs) i).0)

pub distinct_in : (z : Name) (xs : List Name) → In z xs → In z (distinct xs)
distinct_in z [] i = i
distinct_in z (x ∷ xs) (inl e) = inl e
distinct_in z (x ∷ xs) (inr i) = go (bytes_eq x z) refl (distinct_in z xs i)
  where
    go : (b : Bool) → bytes_eq x z ≡ b → In z (distinct xs) → (z ≡ x) ⊎ In z (filter (other x) (distinct xs))
    go true e j = inl (sym ((bytes_eq-Decides x z).0 e))
    go false e j = inr (filtered_in (other x) z (distinct xs) j (ap not e))

-- ---- one list after another

pub in_append : (z : Name) (xs ys : List Name) → In z (xs ++ ys) → In z xs ⊎ In z ys
in_append z [] ys i = inr i
in_append z (x ∷ xs) ys (inl e) = inl (inl e)
in_append z (x ∷ xs) ys (inr i) = ⊎_elim (λ j. inl (inr j)) (λ j. inr j) (in_append z xs ys i)

pub append_in : (z : Name) (xs ys : List Name) → In z xs ⊎ In z ys → In z (xs ++ ys)
append_in z [] ys (inl i) = absurd i
append_in z [] ys (inr i) = i
append_in z (x ∷ xs) ys (inl (inl e)) = inl e
append_in z (x ∷ xs) ys (inl (inr i)) = inr (append_in z xs ys (inl i))
append_in z (x ∷ xs) ys (inr i) = inr (append_in z xs ys (inr i))

pub append_asc : (xs : List Name) (m : Name) (ys : List Name) → Asc xs → ((z : Name) → In z xs → Lt z m) → Asc (m ∷ ys)
    → Asc (xs ++ m ∷ ys)
append_asc [] m ys s h t = t
append_asc (x ∷ xs) m ys s h t = (
  below_all x (xs ++ m ∷ ys)
      (λ z i. ⊎_elim (λ j. below_in x z xs s.0 j)
      (λ j. ⊎_elim (λ e. subst (λ w. Lt x w) (sym e) (h x (inl refl))) (λ k.
      lt_trans x m z (h x (inl refl)) (below_in m z ys t.0 k)) j)
      (in_append z xs (m ∷ ys) i)),
  append_asc xs m ys s.1 (λ z i. h z (inr i)) t,
)

-- ---- members by their places

pub in_contained : (z : Name) (xs : List Name) → Contains xs z → In z xs
in_contained z xs c = go xs c.0 c.1 c.2
  where
    go : (ys : List Name) (k : ℕ) → k < length ys → get_or ys k z ≡ z → In z ys
    go [] k h e = absurd (omega (arith, h))
    go (y ∷ ys) zero h e = inl (sym e)
    go (y ∷ ys) (suc k) h e = inr (go ys k (omega (arith, h)) e)

pub contained_in : (z : Name) (xs : List Name) → In z xs → Contains xs z
contained_in z [] i = absurd i
contained_in z (x ∷ xs) (inl e) = (0, omega arith, sym e)
contained_in z (x ∷ xs) (inr i) = let c = contained_in z xs i in (suc c.0, omega (arith, c.1), c.2)
