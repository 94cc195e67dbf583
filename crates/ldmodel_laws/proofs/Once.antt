-- Each input section stands in the rows once.
use Rattle.ldmodel_laws.proofs.Common.{AreNamesDistinct, AreNumbered, Bool, Contains, Contains-append_cases, Each}
use Rattle.ldmodel_laws.proofs.Common.{EachLater, InCommon, InTable, InputSection, LinkedSection, List, NamedObject}
use Rattle.ldmodel_laws.proofs.Common.{NamedSymbol, None, Option, Project, Some, [], and_right, ap, arith, bytes_eq}
use Rattle.ldmodel_laws.proofs.Common.{bytes_eq-Decides, candidates, cond, cons_option, count_by, enumerate_from}
use Rattle.ldmodel_laws.proofs.Common.{eqb-true, false, false≢true, filter_map, flat_map, inl, input_sections, inr}
use Rattle.ldmodel_laws.proofs.Common.{insert_by, is_discarded, is_same_part, live, map, not, refl, sort_by, subst, sym}
use Rattle.ldmodel_laws.proofs.Common.{true, ℕ, ⊎_elim, ◌&&◌, ◌+◌, ◌<◌, ◌==◌, ◌∙◌, ◌∷◌, ◌≡◌, ◌≤◌, ◌⊎◌}
use Rattle.ldmodel.specs.Edits.{has_name}
use Rattle.ldmodel.specs.InputSections.{block_at, block_of, common_block, common_blocks, is_same_entry, linked_input}
use Rattle.ldmodel.specs.InputSections.{object_inputs}
use Rattle.ldmodel.specs.Names.{Decision, Strong, Script, Common, Weak, Provided, Undefined, Duplicate, decision}
use Rattle.ldmodel_laws.proofs.FileOrder.{later_both}
use Rattle.std.proofs.lemmas.List.Sums.{sum_by-cons}
use Rattle.ldmodel_laws.proofs.Finding.{ComesOf, each_member, in_filter_map, in_flat_map, in_map}
use Rattle.ldmodel_laws.proofs.Finding.{member_of}
use Rattle.ldmodel_laws.proofs.Liveness.{in_order}
use Rattle.ldmodel_laws.proofs.Members.{here, later, first_or_later, none_in_nil}
use Rattle.ldmodel_laws.proofs.EachOf.{later_filter, later_imply}

-- ---- lists

-- members of different blocks, and of one
pub later_flat_map : {X Y : Type 0} (R : Y → Y → Type 0) (f : X → List Y) (xs : List X)
    → Each (λ x. EachLater R (f x)) xs
    → EachLater (λ a b. (u v : Y) → Contains (f a) u → Contains (f b) v → R u v) xs → EachLater R (flat_map f xs)
later_flat_map R f [] h k = tt
later_flat_map {X} {Y} R f (x ∷ xs) h k =
    later_both R (f x) (flat_map f xs) h.0 (later_flat_map R f xs h.1 k.1)
    (each_member (λ u. Each (R u) (flat_map f xs)) (f x) (λ u c.
    each_member (R u) (flat_map f xs) (λ v d. across u c v (in_flat_map f xs v d))))
  where
    across : (u : Y) → Contains (f x) u → (v : Y) → ComesOf f xs v → R u v
    across u c v d = member_of (λ b. (u' v' : Y) → Contains (f x) u' → Contains (f b) v' → R u' v') xs d.origin k.0
        d.among u v c d.gives

pub later_map : {X Y : Type 0} (f : X → Y) (R : Y → Y → Type 0) (xs : List X) → EachLater (λ x y. R (f x) (f y)) xs
    → EachLater R (map f xs)
later_map f R [] h = tt
later_map {X} f R (x ∷ xs) h = (each_mapped xs h.0, later_map f R xs h.1)
  where
    each_mapped : (ys : List X) → Each (λ y. R (f x) (f y)) ys → Each (R (f x)) (map f ys)
    each_mapped [] k = tt
    each_mapped (y ∷ ys) k = (k.0, each_mapped ys k.1)

numbered : {X : Type 0} (n : ℕ) (xs : List X) → Each (λ (e : ℕ × X). n ≤ e.0) (enumerate_from n xs)
numbered n [] = tt
numbered {X} n (x ∷ xs) = (
  omega arith,
  each_member (λ (e : ℕ × X). n ≤ e.0) (enumerate_from (n + 1) xs) (λ e c. let k =
      member_of (λ (d : ℕ × X). n + 1 ≤ d.0) (enumerate_from (n + 1) xs) e (numbered (n + 1) xs) c in omega (arith, k)),
)

pub rising : {X : Type 0} (n : ℕ) (xs : List X) → EachLater (λ (a b : ℕ × X). a.0 < b.0) (enumerate_from n xs)
rising n [] = tt
rising {X} n (x ∷ xs) = (
  each_member (λ (b : ℕ × X). n < b.0) (enumerate_from (n + 1) xs) (λ e c. let k =
      member_of (λ (d : ℕ × X). n + 1 ≤ d.0) (enumerate_from (n + 1) xs) e (numbered (n + 1) xs) c in omega (arith, k)),
  rising (n + 1) xs,
)

-- a sort keeps what holds of any two
inserted : {X : Type 0} (R : X → X → Type 0) (turn : (x y : X) → R x y → R y x) (less : X → X
    → Bool) (x : X) (xs : List X) → Each (R x) xs → EachLater R xs → EachLater R (insert_by less x xs)
inserted R turn less x [] h k = (tt, tt)
inserted {X} R turn less x (y ∷ ys) h k =
    go (less y x) (inserted R turn less x ys h.1 k.1) (each_in x ys (turn x y h.0) k.0)
  where
    each_in : (x' : X) (zs : List X) → R y x' → Each (R y) zs → Each (R y) (insert_by less x' zs)
    each_in x' [] a b = (a, tt)
    each_in x' (z ∷ zs) a b = on (less z x') (each_in x' zs a b.1)
      where
        on : (t : Bool) → Each (R y) (insert_by less x' zs)
            → Each (R y) (cond t (z ∷ insert_by less x' zs) (x' ∷ z ∷ zs))
        on true rest = (b.0, rest)
        on false rest = (a, b)

    go : (t : Bool) → EachLater R (insert_by less x ys) → Each (R y) (insert_by less x ys)
        → EachLater R (cond t (y ∷ insert_by less x ys) (x ∷ y ∷ ys))
    go true rest own = (own, rest)
    go false rest own = (h, k)

inserted_in : {X : Type 0} (less : X → X → Bool) (x : X) (xs : List X) (y : X) → Contains (insert_by less x xs) y
    → Contains (x ∷ xs) y
inserted_in less x [] y c = c
inserted_in less x (z ∷ zs) y c = go (less z x) c (inserted_in less x zs y)
  where
    go : (t : Bool) → Contains (cond t (z ∷ insert_by less x zs) (x ∷ z ∷ zs)) y
        → (Contains (insert_by less x zs) y → Contains (x ∷ zs) y) → Contains (x ∷ z ∷ zs) y
    go false d rest = d
    go true d rest =
        ⊎_elim (λ is. later x (z ∷ zs) y (subst (λ w. Contains (z ∷ zs) w) is (here z zs)))
        (λ in_rest. ⊎_elim (λ is. subst (λ w. Contains (x ∷ z ∷ zs) w) is (here x (z ∷ zs))) (λ deep.
        later x (z ∷ zs) y (later z zs y deep)) (first_or_later x zs y (rest in_rest)))
        (first_or_later z (insert_by less x zs) y d)

pub sorted_in : {X : Type 0} (less : X → X → Bool) (xs : List X) (y : X) → Contains (sort_by less xs) y → Contains xs y
unfolding sort_by
sorted_in less [] y c = c
sorted_in less (x ∷ xs) y c =
    ⊎_elim (λ is. subst (λ w. Contains (x ∷ xs) w) is (here x xs)) (λ in_rest.
    later x xs y (sorted_in less xs y in_rest))
    (first_or_later x (sort_by less xs) y (inserted_in less x (sort_by less xs) y c))

pub sorted : {X : Type 0} (R : X → X → Type 0) (turn : (x y : X) → R x y → R y x) (less : X → X → Bool) (xs : List X)
    → EachLater R xs → EachLater R (sort_by less xs)
unfolding sort_by
sorted R turn less [] h = tt
sorted R turn less (x ∷ xs) h =
    inserted R turn less x (sort_by less xs)
    (each_member (R x) (sort_by less xs) (λ y c. member_of (R x) xs y h.0 (sorted_in less xs y c)))
    (sorted R turn less xs h.1)

later_filter_map : {X Y : Type 0} (R : Y → Y → Type 0) (f : X → Option Y) (xs : List X)
    → EachLater (λ a b. (u v : Y) → f a ≡ Some u → f b ≡ Some v → R u v) xs → EachLater R (filter_map f xs)
later_filter_map R f [] h = tt
later_filter_map {X} {Y} R f (x ∷ xs) h = go (f x) refl (later_filter_map R f xs h.1)
  where
    go : (m : Option Y) → f x ≡ m → EachLater R (filter_map f xs) → EachLater R (cons_option m (filter_map f xs))
    go None e rest = rest
    go (Some u) e rest = (
      each_member (R u) (filter_map f xs) (λ v c. let k = in_filter_map f xs v c in
          member_of (λ b. (u' v' : Y) → f x ≡ Some u' → f b ≡ Some v' → R u' v') xs k.origin h.0 k.among u v e k.gives),
      rest,
    )

abbrev one_if : Bool → ℕ
one_if b = cond b 1 0

counted : {X : Type 0} (test : X → Bool) (xs : List X) (x : X) → Contains xs x → test x ≡ true → 0 < count_by test xs
counted test [] x c e = absurd (none_in_nil x c)
counted {X} test (y ∷ ys) x c e = go (first_or_later y ys x c) (λ in_rest. counted test ys x in_rest e)
  where
    go : (y ≡ x) ⊎ Contains ys x → (Contains ys x → 0 < count_by test ys) → 0 < count_by test (y ∷ ys)
    go (inl is) rest =
        let split = sum_by-cons (λ (z : X). one_if (test z)) y ys in
        let first : one_if (test y) ≡ 1 = ap one_if (ap test is ∙ e) in
        omega (arith, split, first)
    go (inr in_rest) rest = let split = sum_by-cons (λ (z : X). one_if (test z)) y ys in
        omega (arith, split, rest in_rest)

-- ---- input sections

-- two input sections are not one
abbrev pub Apart : InputSection → InputSection → Type 0
Apart s t = (bytes_eq s.object t.object && is_same_part s.id.part t.id.part) ≡ false

-- sections of one object, by their parts
module _ (p : Project) (i : ℕ) (o : NamedObject) where
  tables_apart : (xs : List LinkedSection) → EachLater (λ (x y : LinkedSection). (x.number.0 == y.number.0) ≡ false) xs
      → EachLater Apart (map (linked_input i o) xs)
  tables_apart xs h = later_map (linked_input i o) Apart xs
      (later_imply (λ (x y : LinkedSection). (x.number.0 == y.number.0) ≡ false) (λ x y.
      Apart (linked_input i o x) (linked_input i o y)) (λ x y e.
      and_right (bytes_eq o.name o.name) (x.number.0 == y.number.0) e) xs h)

  -- the block of an entry has the number of its symbol
  IsBlock : ℕ → InputSection → Type 0
  IsBlock n s = s.id.part ≡ InCommon (record { 0 = n })

  of_entry : (n : ℕ) (d : Decision) (s : InputSection) → block_of o.name (record { object = i; symbol = n }) d ≡ Some s
      → IsBlock n s
  unfolding IsBlock
  of_entry n (Common owner size alignment) s e = go (is_same_entry owner (record { object = i; symbol = n })) refl e
    where
      go : (b : Bool) → is_same_entry owner (record { object = i; symbol = n }) ≡ b
          → cond b (Some (common_block o.name owner size alignment)) None ≡ Some s → s.id.part
          ≡ InCommon (record { 0 = n })
      go true f k =
          let is : common_block o.name owner size alignment ≡ s = cc in
          let both = split (owner.object == i) (owner.symbol == n) f in
          ap (λ (u : InputSection). u.id.part) (sym is)
          ∙ ap (λ m. InCommon (record { 0 = m })) (eqb-true owner.symbol n both)
        where
          split : (a b : Bool) → (a && b) ≡ true → b ≡ true
          split true b g = g
          split false b g = absurd (false≢true g)
      go false f k = absurd (let none : ⊥ = cc in none)
  of_entry n (Strong x) s e = absurd (let none : ⊥ = cc in none)
  of_entry n Script s e = absurd (let none : ⊥ = cc in none)
  of_entry n (Weak x) s e = absurd (let none : ⊥ = cc in none)
  of_entry n Provided s e = absurd (let none : ⊥ = cc in none)
  of_entry n Undefined s e = absurd (let none : ⊥ = cc in none)
  of_entry n Duplicate s e = absurd (let none : ⊥ = cc in none)

  abbrev entries_of : ℕ → List NamedSymbol → List (ℕ × NamedSymbol)
  entries_of n ss = enumerate_from n ss

  block_is : (e : ℕ × NamedSymbol) (s : InputSection) → block_at p i o e ≡ Some s → IsBlock e.0 s
  block_is e s k = of_entry e.0 (decision p e.1.name) s k

  blocks_differ : (a b : ℕ × NamedSymbol) → a.0 < b.0 → (u v : InputSection) → block_at p i o a ≡ Some u
      → block_at p i o b ≡ Some v → Apart u v
  unfolding IsBlock
  blocks_differ a b l u v e f =
      let first : u.id.part ≡ InCommon (record { 0 = a.0 }) = block_is a u e in
      let second : v.id.part ≡ InCommon (record { 0 = b.0 }) = block_is b v f in
      and_right (bytes_eq u.object v.object) (is_same_part u.id.part v.id.part)
      (ap (λ m. is_same_part m v.id.part) first ∙ ap (λ m. is_same_part (InCommon (record { 0 = a.0 })) m) second
      ∙ differs (a.0 == b.0) refl)
    where
      differs : (t : Bool) → (a.0 == b.0) ≡ t → (a.0 == b.0) ≡ false
      differs true g = absurd (omega (arith, l, eqb-true a.0 b.0 g))
      differs false g = g

  blocks_apart : EachLater Apart (common_blocks p i o)
  blocks_apart =
      later_filter_map Apart (block_at p i o) (enumerate_from 0 o.object.symbols)
      (later_imply (λ (a b : ℕ × NamedSymbol). a.0 < b.0) (λ a b. (u v : InputSection) → block_at p i o a ≡ Some u
      → block_at p i o b ≡ Some v → Apart u v) blocks_differ (enumerate_from 0 o.object.symbols)
      (rising 0 o.object.symbols))

  a_block : (s : InputSection) → Contains (common_blocks p i o) s → (n : ℕ) × IsBlock n s
  a_block s c = let k = in_filter_map (block_at p i o) (enumerate_from 0 o.object.symbols) s c in
      (k.origin.0, block_is k.origin s k.gives)

  table_and_block : (s t : InputSection) → Contains (map (linked_input i o) o.object.sections) s
      → Contains (common_blocks p i o) t → Apart s t
  unfolding IsBlock
  table_and_block s t c d =
      let k = in_map (linked_input i o) o.object.sections s c in
      let b = a_block t d in
      let first : s.id.part ≡ InTable k.origin.number = ap (λ (u : InputSection). u.id.part) (sym k.gives) in
      and_right (bytes_eq s.object t.object) (is_same_part s.id.part t.id.part)
      (ap (λ m. is_same_part m t.id.part) first
      ∙ ap (λ m. is_same_part (InTable k.origin.number) m) b.1)

  own_apart : EachLater (λ (x y : LinkedSection). (x.number.0 == y.number.0) ≡ false) o.object.sections
      → EachLater Apart (object_inputs p i o)
  own_apart h =
      later_both Apart (map (linked_input i o) o.object.sections) (common_blocks p i o)
      (tables_apart o.object.sections h) blocks_apart
      (each_member (λ s. Each (Apart s) (common_blocks p i o)) (map (linked_input i o) o.object.sections) (λ s c.
      each_member (Apart s) (common_blocks p i o) (λ t d. table_and_block s t c d)))

  -- all have the name of the object
  block_named : (e : ℕ × NamedSymbol) (d : Decision) (s : InputSection)
      → block_of o.name (record { object = i; symbol = e.0 }) d ≡ Some s → s.object ≡ o.name
  block_named e (Common owner size alignment) s k = go (is_same_entry owner (record { object = i; symbol = e.0 })) k
    where
      go : (b : Bool) → cond b (Some (common_block o.name owner size alignment)) None ≡ Some s → s.object ≡ o.name
      go true f = let is : common_block o.name owner size alignment ≡ s = cc in
          ap (λ (u : InputSection). u.object) (sym is)
      go false f = absurd (let none : ⊥ = cc in none)
  block_named e (Strong x) s k = absurd (let none : ⊥ = cc in none)
  block_named e Script s k = absurd (let none : ⊥ = cc in none)
  block_named e (Weak x) s k = absurd (let none : ⊥ = cc in none)
  block_named e Provided s k = absurd (let none : ⊥ = cc in none)
  block_named e Undefined s k = absurd (let none : ⊥ = cc in none)
  block_named e Duplicate s k = absurd (let none : ⊥ = cc in none)

  own_name : (s : InputSection) → Contains (object_inputs p i o) s → s.object ≡ o.name
  own_name s c =
      ⊎_elim (λ d. let k = in_map (linked_input i o) o.object.sections s d in
      ap (λ (u : InputSection). u.object) (sym k.gives))
      (λ d. let k = in_filter_map (block_at p i o) (enumerate_from 0 o.object.symbols) s d in
      block_named k.origin (decision p k.origin.1.name) s k.gives)
      (Contains-append_cases (map (linked_input i o) o.object.sections) (common_blocks p i o) s c)

-- ---- of all objects

pub names_later : (os : List NamedObject) → AreNamesDistinct os
    → EachLater (λ (a b : NamedObject). bytes_eq a.name b.name ≡ false) os
names_later [] h = tt
names_later (o ∷ os) h = (
  each_member (λ (b : NamedObject). bytes_eq o.name b.name ≡ false) os (λ b c. go b c (bytes_eq o.name b.name) refl),
  names_later os (λ name. let k = h name in let split =
      sum_by-cons (λ (y : NamedObject). one_if (has_name name y)) o os in omega (arith, k, split)),
)
  where
    go : (b : NamedObject) → Contains os b → (t : Bool) → bytes_eq o.name b.name ≡ t → bytes_eq o.name b.name ≡ false
    go b c false e = e
    go b c true e =
        let k = h b.name in
        let split = sum_by-cons (λ (y : NamedObject). one_if (has_name b.name y)) o os in
        let first : one_if (has_name b.name o) ≡ 1 = ap one_if e in
        let some : 0 < count_by (has_name b.name) os =
        counted (has_name b.name) os b c ((bytes_eq-Decides b.name b.name).1 refl) in
        absurd (omega (arith, k, split, first, some))

second_later : {X : Type 0} (R : X → X → Type 0) (n : ℕ) (xs : List X) → EachLater R xs
    → EachLater (λ (a b : ℕ × X). R a.1 b.1) (enumerate_from n xs)
second_later R n [] h = tt
second_later {X} R n (x ∷ xs) h = (each_second (n + 1) xs h.0, second_later R (n + 1) xs h.1)
  where
    each_second : (m : ℕ) (ys : List X) → Each (R x) ys → Each (λ (b : ℕ × X). R x b.1) (enumerate_from m ys)
    each_second m [] k = tt
    each_second m (y ∷ ys) k = (k.0, each_second (m + 1) ys k.1)

each_second_of : {X : Type 0} (P : X → Type 0) (n : ℕ) (xs : List X) → Each P xs
    → Each (λ (a : ℕ × X). P a.1) (enumerate_from n xs)
each_second_of P n [] h = tt
each_second_of P n (x ∷ xs) h = (h.0, each_second_of P (n + 1) xs h.1)

module _ (p : Project) (names : AreNamesDistinct p.objects) (numbers : AreNumbered p) where
  all_apart : EachLater Apart (input_sections p)
  unfolding input_sections
  all_apart =
      later_flat_map Apart (λ (o : ℕ × NamedObject). object_inputs p o.0 o.1) (enumerate_from 0 p.objects)
      (each_member (λ (o : ℕ × NamedObject). EachLater Apart (object_inputs p o.0 o.1)) (enumerate_from 0 p.objects)
      (λ o c. own_apart p o.0 o.1
      (member_of (λ (a : ℕ × NamedObject).
      EachLater (λ (x y : LinkedSection). (x.number.0 == y.number.0) ≡ false) a.1.object.sections)
      (enumerate_from 0 p.objects) o
      (each_second_of (λ (a : NamedObject).
      EachLater (λ (x y : LinkedSection). (x.number.0 == y.number.0) ≡ false) a.object.sections) 0 p.objects
      numbers) c)))
      (later_imply (λ (a b : ℕ × NamedObject). bytes_eq a.1.name b.1.name ≡ false) (λ a b. (u v : InputSection)
      → Contains (object_inputs p a.0 a.1) u → Contains (object_inputs p b.0 b.1) v → Apart u v)
      (λ a b e u v c d. ap (λ t. t && is_same_part u.id.part v.id.part)
      (ap (λ n. bytes_eq n v.object) (own_name p a.0 a.1 u c)
      ∙ ap (λ n. bytes_eq a.1.name n) (own_name p b.0 b.1 v d) ∙ e))
      (enumerate_from 0 p.objects)
      (second_later (λ (a b : NamedObject). bytes_eq a.name b.name
      ≡ false) 0 p.objects (names_later p.objects names)))

  pub live_apart : EachLater Apart (live p)
  live_apart =
      let k = in_order p in
      subst (EachLater Apart) (sym k.1)
      (later_filter Apart k.0 (candidates p)
      (later_filter Apart (λ s. not (is_discarded p s)) (input_sections p) all_apart))
