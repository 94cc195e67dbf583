-- Two projects of which one object differs in what its sections hold alone: what tables of a link say of them is the
-- same.
use Rattle.relink_driver.proofs.Common.{Bool, Contains, Decision, DiffersInContents, Global, InCommon, InTable, IsOwned}
use Rattle.relink_driver.proofs.Common.{LinkedSection, List, NamedObject, NamedSymbol, None, ObjectOutline, Option}
use Rattle.relink_driver.proofs.Common.{Part, Project, SectionIndex, SectionOutline, Some, [], ap, arith, cond}
use Rattle.relink_driver.proofs.Common.{cons_option, decision, enumerate_from, false, filter_map, find, flat_map}
use Rattle.relink_driver.proofs.Common.{in_map, length, length-map, map, map-append, map-map, map_in, object_name}
use Rattle.relink_driver.proofs.Common.{object_outline, option_and_then, option_map, option_map_or, piece_in, refl}
use Rattle.relink_driver.proofs.Common.{rows_in, section_outline, slice_get, slice_get-map, subst, sum_by, sum_by-cons}
use Rattle.relink_driver.proofs.Common.{sym, take, take-map, true, vec_items, ℕ, ◌++◌, ◌+◌, ◌==◌, ◌∙◌, ◌∷◌, ◌≡◌}
use Rattle.std.proofs.Common.{Vec}
use Rattle.ldmodel.specs.FaultCode.{name_of_part, name_of_section}
use Rattle.ldmodel.specs.InputSections.{block_of, common_blocks, input_sections, linked_input, object_inputs}
use Rattle.ldmodel.specs.Rows as model
use Rattle.ldmodel.specs.Sections.{InputSection, SectionId}
use Rattle.ldmodel.specs.declared.rows.Piece.{Piece}
use Rattle.ldmodel_project.specs.ByPlace.{name_of_section as section_name_in}

-- ---- lists

same_map : {X Y : Type 0} (f g : X → Y) → ((x : X) → f x ≡ g x) → (xs : List X) → map f xs ≡ map g xs
same_map f g h [] = refl
same_map f g h (x ∷ xs) = ap (λ y. y ∷ map f xs) (h x) ∙ ap (λ ys. g x ∷ ys) (same_map f g h xs)

same_filter_map : {X Y : Type 0} (f g : X → Option Y) → ((x : X) → f x ≡ g x) → (xs : List X)
    → filter_map f xs ≡ filter_map g xs
same_filter_map f g h [] = refl
same_filter_map f g h (x ∷ xs) =
    ap (λ y. cons_option y (filter_map f xs)) (h x) ∙ ap (cons_option (g x)) (same_filter_map f g h xs)

-- ---- an object, by its outline

abbrev pub outline_at : Project → ℕ → Option ObjectOutline
outline_at p i = option_map object_outline (slice_get p.objects i)

-- the sections of a number
outlined : (k : SectionIndex) (xs : List LinkedSection)
    → option_map section_outline (find (λ (x : LinkedSection). x.number.0 == k.0) xs)
    ≡ find (λ (x : SectionOutline). x.number.0 == k.0) (map section_outline xs)
outlined k [] = refl
outlined k (x ∷ xs) = go (x.number.0 == k.0) (outlined k xs)
  where
    go : (b : Bool)
        → option_map section_outline (find (λ (y : LinkedSection). y.number.0 == k.0) xs)
        ≡ find (λ (y : SectionOutline). y.number.0 == k.0) (map section_outline xs)
        → option_map section_outline (cond b (Some x) (find (λ (y : LinkedSection). y.number.0 == k.0) xs))
        ≡ cond b (Some (section_outline x))
        (find (λ (y : SectionOutline). y.number.0 == k.0) (map section_outline xs))
    go true rest = refl
    go false rest = rest

abbrev name_in : List SectionOutline → SectionIndex → List ℕ
name_in xs k = option_map_or (λ (x : SectionOutline). x.name) (find (λ (x : SectionOutline). x.number.0 == k.0) xs) []

named : (m : Option LinkedSection) → option_map_or (λ (x : LinkedSection). x.name) m []
    ≡ option_map_or (λ (x : SectionOutline). x.name) (option_map section_outline m) []
named None = refl
named (Some x) = refl

abbrev name_under : SectionIndex → Option ObjectOutline → List ℕ
name_under k None = []
name_under k (Some o) = name_in o.sections k

section_named : (p : Project) (i : ℕ) (k : SectionIndex) → name_of_section p i k ≡ name_under k (outline_at p i)
section_named p i k = go (slice_get p.objects i)
  where
    go : (m : Option NamedObject)
        → option_map_or (λ (x : LinkedSection). x.name)
        (option_and_then (λ (o : NamedObject).
        find (λ (x : LinkedSection). x.number.0 == k.0) o.object.sections) m) []
        ≡ name_under k (option_map object_outline m)
    go None = refl
    go (Some o) =
        named (find (λ (x : LinkedSection). x.number.0 == k.0) o.object.sections)
        ∙ ap (λ m. option_map_or (λ (x : SectionOutline). x.name) m []) (outlined k o.object.sections)

abbrev own_name : Option ObjectOutline → List ℕ
own_name m = option_map_or (λ (o : ObjectOutline). o.name) m []

object_named : (p : Project) (i : ℕ) → object_name p i ≡ own_name (outline_at p i)
object_named p i = go (slice_get p.objects i)
  where
    go : (m : Option NamedObject) → option_map_or (λ (o : NamedObject). o.name) m []
        ≡ own_name (option_map object_outline m)
    go None = refl
    go (Some o) = refl

-- how many sections objects have
many_sections : (os : List NamedObject) → sum_by (λ (o : NamedObject). length o.object.sections) os
    ≡ sum_by (λ (o : ObjectOutline). length o.sections) (map object_outline os)
many_sections [] = refl
many_sections (o ∷ os) =
    let a = sum_by-cons (λ (o : NamedObject). length o.object.sections) o os in
    let b = sum_by-cons (λ (o : ObjectOutline). length o.sections) (object_outline o) (map object_outline os) in
    let c = length-map o.object.sections section_outline in
    omega (arith, a, b, c, many_sections os)

-- the numbers of input sections
abbrev blocks : (List ℕ → Decision) → ℕ → List ℕ → List NamedSymbol → List InputSection
blocks d n name symbols =
    filter_map (λ (s : ℕ × NamedSymbol). block_of name (record { object = n; symbol = s.0 }) (d s.1.name))
    (enumerate_from 0 symbols)

abbrev id_in : ℕ → SectionOutline → SectionId
id_in n x = record { object = n; part = InTable x.number }

abbrev ids_of : (List ℕ → Decision) → ℕ → ObjectOutline → List SectionId
ids_of d n o = map (id_in n) o.sections ++ map (λ (s : InputSection). s.id) (blocks d n o.name o.symbols)

abbrev ids_from : (List ℕ → Decision) → ℕ → List ObjectOutline → List SectionId
ids_from d n [] = []
ids_from d n (o ∷ os) = ids_of d n o ++ ids_from d (n + 1) os

of_object : (p : Project) (n : ℕ) (o : NamedObject)
    → map (λ (s : InputSection). s.id) (object_inputs p n o) ≡ ids_of (decision p) n (object_outline o)
of_object p n o =
    map-append (λ (s : InputSection). s.id) (map (linked_input n o) o.object.sections) (common_blocks p n o)
    ∙ ap (λ l. l ++ map (λ (s : InputSection). s.id) (common_blocks p n o))
    (map-map (λ (s : InputSection). s.id) (linked_input n o) o.object.sections
    ∙ sym (map-map (id_in n) section_outline o.object.sections))

of_objects : (p : Project) (n : ℕ) (os : List NamedObject)
    → map (λ (s : InputSection). s.id)
    (flat_map (λ (o : ℕ × NamedObject). object_inputs p o.0 o.1) (enumerate_from n os))
    ≡ ids_from (decision p) n (map object_outline os)
of_objects p n [] = refl
of_objects p n (o ∷ os) =
    map-append (λ (s : InputSection). s.id) (object_inputs p n o)
    (flat_map (λ (o : ℕ × NamedObject). object_inputs p o.0 o.1) (enumerate_from (n + 1) os))
    ∙ ap (λ l. l ++ map (λ (s : InputSection). s.id)
    (flat_map (λ (o : ℕ × NamedObject). object_inputs p o.0 o.1) (enumerate_from (n + 1) os))) (of_object p n o)
    ∙ ap (λ l. ids_of (decision p) n (object_outline o) ++ l) (of_objects p (n + 1) os)

same_ids : (d e : List ℕ → Decision) → ((name : List ℕ) → d name ≡ e name) → (n : ℕ) (os : List ObjectOutline)
    → ids_from d n os ≡ ids_from e n os
same_ids d e h n [] = refl
same_ids d e h n (o ∷ os) =
    ap (λ l. (map (id_in n) o.sections ++ map (λ (s : InputSection). s.id) l) ++ ids_from d (n + 1) os)
    (same_filter_map _ _ (λ s. ap (block_of o.name (record { object = n; symbol = s.0 })) (h s.1.name))
    (enumerate_from 0 o.symbols))
    ∙ ap (λ l. ids_of e n o ++ l) (same_ids d e h (n + 1) os)

-- ---- two projects

module _ (p q : Project) (i : ℕ) (h : DiffersInContents p q i) where
  pub outlines_at : (j : ℕ) → outline_at p j ≡ outline_at q j
  outlines_at j =
      sym (slice_get-map object_outline p.objects j) ∙ ap (λ l. slice_get l j) h.outlines
      ∙ slice_get-map object_outline q.objects j

  pub same_names : (j : ℕ) → object_name p j ≡ object_name q j
  same_names j = object_named p j ∙ ap own_name (outlines_at j) ∙ sym (object_named q j)

  same_sections : (j : ℕ) (k : SectionIndex) → name_of_section p j k ≡ name_of_section q j k
  same_sections j k = section_named p j k ∙ ap (name_under k) (outlines_at j) ∙ sym (section_named q j k)

  pub same_parts : (j : ℕ) (part : Part) → name_of_part p j part ≡ name_of_part q j part
  same_parts j (InTable k) = same_sections j k
  same_parts j (InCommon x) = refl

  same_piece : (x : Piece) → piece_in p x ≡ piece_in q x
  same_piece x =
      let made : List ℕ → List ℕ → model.Piece = λ object name. record {
        statement = x.statement.0;
        object = object;
        part = x.section.part;
        name = name;
        kind = x.kind;
        flags = x.flags;
        size = x.size;
        alignment = x.alignment;
      } in
      ap (λ o. made o (section_name_in p x.section)) (same_names x.section.object.0)
      ∙ ap (made (object_name q x.section.object.0)) (same_parts x.section.object.0 x.section.part)

  pub same_rows_in : (rows : List (Vec Piece Global)) → rows_in p rows ≡ rows_in q rows
  same_rows_in rows =
      same_map (λ (row : List Piece). map (piece_in p) row) (λ (row : List Piece). map (piece_in q) row)
      (same_map (piece_in p) (piece_in q) same_piece) (map vec_items rows)

  pub same_linked : (n : ℕ) → sum_by (λ (o : NamedObject). length o.object.sections) (take n p.objects)
      ≡ sum_by (λ (o : NamedObject). length o.object.sections) (take n q.objects)
  same_linked n =
      many_sections (take n p.objects)
      ∙ ap (sum_by (λ (o : ObjectOutline). length o.sections))
      (sym (take-map object_outline n p.objects) ∙ ap (take n) h.outlines ∙ take-map object_outline n q.objects)
      ∙ sym (many_sections (take n q.objects))

  module _ (decided : (name : List ℕ) → decision p name ≡ decision q name) where
    same_input_ids : map (λ (s : InputSection). s.id) (input_sections p) ≡ map (λ (s : InputSection). s.id)
        (input_sections q)
    unfolding input_sections
    same_input_ids =
        of_objects p 0 p.objects ∙ same_ids (decision p) (decision q) decided 0 (map object_outline p.objects)
        ∙ ap (ids_from (decision q) 0) h.outlines ∙ sym (of_objects q 0 q.objects)

    -- an input section of the second project has its number in the first
    pub input_before : (P : SectionId → Type 0) → ((s : InputSection) → Contains (input_sections p) s → P s.id)
        → (s : InputSection) → Contains (input_sections q) s → P s.id
    input_before P all s c =
        let there = in_map (λ (s : InputSection). s.id) (input_sections p) s.id
        (subst (λ l. Contains l s.id) (sym same_input_ids)
        (map_in (λ (s : InputSection). s.id) (input_sections q) s c)) in
        subst P there.gives (all there.origin there.among)

  -- an object of a name
  pub names_of : map (λ (o : NamedObject). o.name) p.objects ≡ map (λ (o : NamedObject). o.name) q.objects
  names_of =
      sym (map-map (λ (o : ObjectOutline). o.name) object_outline p.objects)
      ∙ ap (map (λ (o : ObjectOutline). o.name)) h.outlines
      ∙ map-map (λ (o : ObjectOutline). o.name) object_outline q.objects

  pub same_owned : (x : model.Piece) → IsOwned p x → IsOwned q x
  same_owned x owned =
      let there = in_map (λ (o : NamedObject). o.name) q.objects owned.object.name
      (subst (λ l. Contains l owned.object.name) names_of
      (map_in (λ (o : NamedObject). o.name) p.objects owned.object owned.among)) in
      record { object = there.origin; among = there.among; is = there.gives ∙ owned.is; some = owned.some }
