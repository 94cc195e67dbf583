-- Each entry of the rows of a project has the size of its section.
use Rattle.emit.proofs.Common.{AreNamesDistinct, AreNumbered, Bool, Each, HaveNumbers, InputSection, InputStatementAt}
use Rattle.emit.proofs.Common.{IsSized, LinkedSection, List, NamedObject, None, Option, Project, Some, [], ap, cond}
use Rattle.emit.proofs.Common.{cons_option, each_append, each_at, each_filter, each_into_map, enumerate_from, false}
use Rattle.emit.proofs.Common.{filter, filter_map, flat_map, input_statements, insert_by, live, map, object_name}
use Rattle.emit.proofs.Common.{object_named, option_map_or, refl, rows, same_Some, section_numbered, slice_get, sort_by}
use Rattle.emit.proofs.Common.{subst, suc, sym, true, zero, ℕ, ◌+◌, ◌∙◌, ◌∷◌, ◌≡◌}
use Rattle.ldmodel.specs.Gathering.{candidates}
use Rattle.ldmodel.specs.InputSections.{block_at, block_of, common_block, common_blocks, input_sections, is_same_entry}
use Rattle.ldmodel.specs.InputSections.{linked_input, object_inputs}
use Rattle.ldmodel.specs.Names.{Common, Decision, Duplicate, Entry, Provided, Script, Strong, Undefined, Weak, decision}
use Rattle.ldmodel.specs.Rows.{is_taken_by, piece_of, pieces_in, row, sorted_pieces, taken}
use Rattle.emit.proofs.OfRows.{named_self, numbered_is}

each_any : {X : Type 0} (P : X → Type 0) → ((x : X) → P x) → (xs : List X) → Each P xs
each_any P f [] = tt
each_any P f (x ∷ xs) = (f x, each_any P f xs)

each_where : {X : Type 0} (P : X → Type 0) (xs : List X) → ((k : ℕ) (x : X) → slice_get xs k ≡ Some x → P x)
    → Each P xs
each_where P [] h = tt
each_where P (x ∷ xs) h = (h 0 x refl, each_where P xs (λ k y e. h (suc k) y e))

each_flat : {X Y : Type 0} (P : Y → Type 0) (f : X → List Y) (xs : List X) → Each (λ x. Each P (f x)) xs
    → Each P (flat_map f xs)
each_flat P f [] h = tt
each_flat P f (x ∷ xs) h = each_append P (f x) (flat_map f xs) h.0 (each_flat P f xs h.1)

each_some : {X Y : Type 0} (P : Y → Type 0) (f : X → Option Y) → ((x : X) (y : Y) → f x ≡ Some y → P y) → (xs : List X)
    → Each P (filter_map f xs)
each_some P f h [] = tt
each_some P f h (x ∷ xs) = go (f x) refl (each_some P f h xs)
  where
    go : (o : Option _) → f x ≡ o → Each P (filter_map f xs) → Each P (cons_option o (filter_map f xs))
    go None e rest = rest
    go (Some y) e rest = (h x y e, rest)

each_insert : {X : Type 0} (P : X → Type 0) (below : X → X → Bool) (x : X) (xs : List X) → P x → Each P xs
    → Each P (insert_by below x xs)
each_insert P below x [] h k = (h, tt)
each_insert P below x (y ∷ ys) h k = go (below y x) (each_insert P below x ys h k.1)
  where
    go : (b : Bool) → Each P (insert_by below x ys) → Each P (cond b (y ∷ insert_by below x ys) (x ∷ y ∷ ys))
    go true rest = (k.0, rest)
    go false rest = (h, k)

each_sort : {X : Type 0} (P : X → Type 0) (below : X → X → Bool) (xs : List X) → Each P xs → Each P (sort_by below xs)
unfolding sort_by
each_sort P below [] h = tt
each_sort P below (x ∷ xs) h = each_insert P below x (sort_by below xs) h.0 (each_sort P below xs h.1)

enumerated : {X : Type 0} (n : ℕ) (xs : List X) (k : ℕ) (e : ℕ × X) → slice_get (enumerate_from n xs) k ≡ Some e
    → slice_get xs k ≡ Some e.1
enumerated n [] k e h = absurd (let none : ⊥ = cc in none)
enumerated n (x ∷ xs) zero e h = ap (λ (z : ℕ × _). Some z.1) (same_Some _ _ h)
enumerated n (x ∷ xs) (suc k) e h = enumerated (n + 1) xs k e h

module _ (p : Project) (distinct : AreNamesDistinct p.objects) (numbered : AreNumbered p) where
  -- under each number of a statement
  abbrev AlwaysSized : InputSection → Type 0
  AlwaysSized s = (n : ℕ) → IsSized p (piece_of n s)

  linked_sized : (k i : ℕ) (o : NamedObject) → slice_get p.objects k ≡ Some o → (j : ℕ) (x : LinkedSection)
      → slice_get o.object.sections j ≡ Some x → AlwaysSized (linked_input i o x)
  linked_sized k i o e j x f n other number y part named found =
      let name : object_name p k ≡ o.name = ap (λ a. option_map_or (λ (z : NamedObject). z.name) a []) e in
      let same : other ≡ o =
      same_Some _ _ (sym named ∙ ap (object_named p) (sym name) ∙ named_self p k o distinct e) in
      let index : x.number ≡ number = cc in
      let differ : HaveNumbers o.object =
      each_at (λ (z : NamedObject). HaveNumbers z.object) p.objects k o numbered e in
      let own : section_numbered o x.number ≡ Some x = numbered_is o x.number j x differ f refl in
      let is : Some y ≡ Some x =
      sym found ∙ ap (λ z. section_numbered z number) same ∙ ap (section_numbered o) (sym index) ∙ own in
      ap (λ (z : LinkedSection). z.size) (same_Some _ _ is)

  block_sized : (object : List ℕ) (entry : Entry) (d : Decision) (s : InputSection) → block_of object entry d ≡ Some s
      → AlwaysSized s
  block_sized object entry (Common owner size alignment) s e = go (is_same_entry owner entry) e
    where
      go : (b : Bool) → cond b (Some (common_block object owner size alignment)) None ≡ Some s → AlwaysSized s
      go true f =
          subst AlwaysSized (same_Some _ _ f) (λ n o number y part named found. absurd (let none : ⊥ = cc in none))
      go false f = absurd (let none : ⊥ = cc in none)
  block_sized object entry (Strong x) s e = absurd (let none : ⊥ = cc in none)
  block_sized object entry (Weak x) s e = absurd (let none : ⊥ = cc in none)
  block_sized object entry Script s e = absurd (let none : ⊥ = cc in none)
  block_sized object entry Provided s e = absurd (let none : ⊥ = cc in none)
  block_sized object entry Undefined s e = absurd (let none : ⊥ = cc in none)
  block_sized object entry Duplicate s e = absurd (let none : ⊥ = cc in none)

  inputs_sized : Each AlwaysSized (input_sections p)
  unfolding input_sections
  inputs_sized =
      each_flat AlwaysSized (λ (o : ℕ × NamedObject). object_inputs p o.0 o.1) (enumerate_from 0 p.objects)
      (each_where (λ (o : ℕ × NamedObject). Each AlwaysSized (object_inputs p o.0 o.1)) (enumerate_from 0 p.objects)
      (λ k o e. each_append AlwaysSized (map (linked_input o.0 o.1) o.1.object.sections) (common_blocks p o.0 o.1)
      (each_into_map AlwaysSized (linked_input o.0 o.1) o.1.object.sections
      (each_where (λ x. AlwaysSized (linked_input o.0 o.1 x)) o.1.object.sections
      (λ j x f. linked_sized k o.0 o.1 (enumerated 0 p.objects k o e) j x f)))
      (each_some AlwaysSized (block_at p o.0 o.1)
      (λ x s f. block_sized o.1.name (record { object = o.0; symbol = x.0 }) (decision p x.1.name) s f)
      (enumerate_from 0 o.1.object.symbols))))

  module _ (test : InputSection → Bool) (lives : live p ≡ filter test (candidates p)) where
    live_sized : Each AlwaysSized (live p)
    live_sized =
        subst (Each AlwaysSized) (sym lives)
        (each_filter AlwaysSized test (candidates p) (each_filter AlwaysSized _ (input_sections p) inputs_sized))

    taken_sized : (n : ℕ) → Each (IsSized p) (taken p n)
    taken_sized n =
        each_into_map (IsSized p) (piece_of n) (filter (is_taken_by p n) (live p))
        (each_weaker (filter (is_taken_by p n) (live p))
        (each_filter AlwaysSized (is_taken_by p n) (live p) live_sized))
      where
        each_weaker : (xs : List InputSection) → Each AlwaysSized xs → Each (λ s. IsSized p (piece_of n s)) xs
        each_weaker [] h = tt
        each_weaker (x ∷ xs) h = (h.0 n, each_weaker xs h.1)

    row_sized : (k : ℕ) → Each (IsSized p) (row p k)
    row_sized k =
        each_flat (IsSized p) (pieces_in p k) (enumerate_from 0 (input_statements p.script))
        (each_any (λ i. Each (IsSized p) (pieces_in p k i)) (λ i. go i _)
        (enumerate_from 0 (input_statements p.script)))
      where
        go : (i : ℕ × InputStatementAt) (b : Bool) → Each (IsSized p) (cond b (sorted_pieces p i.0 i.1) [])
        go i true = each_sort (IsSized p) _ (taken p i.0) (taken_sized i.0)
        go i false = tt

    pub rows_sized : Each (Each (IsSized p)) (rows p)
    unfolding rows
    rows_sized = each_into_map (Each (IsSized p)) (row p) _ (each_any (λ k. Each (IsSized p) (row p k)) row_sized _)
