-- Rows that the code finds to be the same are the same, and rows that are the same are found to be.
use Rattle.relink_driver.proofs.Common.{AreNamesDistinct, AreOrigins, Bool, Contains, Each, HasReplaced, IfSome}
use Rattle.relink_driver.proofs.Common.{InCommon, InTable, IsOwned, IsReplaced, LinkedSection, List, NamedObject, None}
use Rattle.relink_driver.proofs.Common.{Option, Part, PreviousState, Project, ReplacedObjectState, SectionKind}
use Rattle.relink_driver.proofs.Common.{SectionRef, Some, [], and_from, and_parts, ap, arith, at_place}
use Rattle.relink_driver.proofs.Common.{bytes_eq-Decides, cond, drop, entries_from, eq-eqb, eqb-true, false, false≢true}
use Rattle.relink_driver.proofs.Common.{first_changed, flat_map, get_or, has_name, is_same_part, last_place, length}
use Rattle.relink_driver.proofs.Common.{length-append, length-map, ltb-false, map, nat_lt, not, object_name}
use Rattle.relink_driver.proofs.Common.{option_and_then, option_map_or, piece_in, position, position_or_len}
use Rattle.relink_driver.proofs.Common.{prefix_len-le-length, refl, rows_in, same_Some, section_numbered, slice_get}
use Rattle.relink_driver.proofs.Common.{slice_index_or, subst, suc, sum_by-cons, sym, take, true, unwrap_or, vec_items}
use Rattle.relink_driver.proofs.Common.{zero, ℕ, ◌+◌, ◌<◌, ◌==◌, ◌∙◌, ◌∷◌, ◌≡◌, ◌≤◌}
use Rattle.std.specs.Global.{Vec}
use Rattle.elfobj.specs.declared.section.SectionKind.TheVariants.{Progbits, Nobits, Note, InitArray, FiniArray}
use Rattle.elfobj.specs.declared.section.SectionKind.TheVariants.{PreinitArray, Unwind}
use Rattle.ldmodel.specs.FaultCode.{name_of_part}
use Rattle.ldmodel.specs.Rows as model
use Rattle.ldmodel.specs.declared.rows.Piece.{Piece}
use Rattle.ldmodel_project.specs.ByPlace.{name_of_section}
use Rattle.relink_driver.specs.SameRows.{are_same_pieces, replaced_part, has_same_name, is_of_same_object}
use Rattle.relink_driver.specs.SameRows.{is_same_piece, is_same_row, is_same_section, kind_number, part_name}
use Rattle.relink_driver.proofs.StayedBySamePart.{counted, same_part}
use Rattle.relink_driver.proofs.SectionsStandOnce.{own_part}
use Rattle.ldmodel_laws.proofs.EachOf.{each_parts}

-- ---- lists

pub first_or_len : {X : Type 0} (test : X → Bool) (xs : List X) (r : Option ℕ) (n : ℕ) → r ≡ position test xs
    → n ≡ length xs → unwrap_or r n ≡ position_or_len test xs
first_or_len {X} test xs r n e long =
    ap (λ m. unwrap_or m n) e ∙ go (nat_lt (position_or_len test xs) (length xs)) refl
  where
    go : (b : Bool) → nat_lt (position_or_len test xs) (length xs) ≡ b
        → unwrap_or (cond b (Some (position_or_len test xs)) None) n ≡ position_or_len test xs
    go true f = refl
    go false f =
        let past = ltb-false (position_or_len test xs) (length xs) f in
        let most = prefix_len-le-length (λ (x : X). not (test x)) xs in
        omega (arith, past, most, long)

head_is : {X : Type 0} (x y : X) (xs ys : List X) → x ∷ xs ≡ y ∷ ys → x ≡ y
head_is x y xs ys e = ap (λ l. get_or l 0 x) e

tail_is : {X : Type 0} (x y : X) (xs ys : List X) → x ∷ xs ≡ y ∷ ys → xs ≡ ys
tail_is x y xs ys e = ap (drop 1) e

-- ---- kinds

kind_of_number : ℕ → SectionKind
kind_of_number n =
    cond (n == 0) Progbits (cond (n == 1) Nobits (cond (n == 2) Note (cond (n == 3) InitArray
    (cond (n == 4) FiniArray (cond (n == 5) PreinitArray Unwind)))))

number_of_kind : (k : SectionKind) → kind_of_number (kind_number k) ≡ k
unfolding kind_of_number
number_of_kind Progbits = refl
number_of_kind Nobits = refl
number_of_kind Note = refl
number_of_kind InitArray = refl
number_of_kind FiniArray = refl
number_of_kind PreinitArray = refl
number_of_kind Unwind = refl

same_kind : (a b : SectionKind) → (kind_number a == kind_number b) ≡ true → a ≡ b
same_kind a b e =
    sym (number_of_kind a) ∙ ap kind_of_number (eqb-true (kind_number a) (kind_number b) e) ∙ number_of_kind b

-- ---- objects by place

rest_distinct : (o : NamedObject) (objects : List NamedObject) → AreNamesDistinct (o ∷ objects)
    → AreNamesDistinct objects
rest_distinct o objects distinct name =
    let split = sum_by-cons (λ (z : NamedObject). cond {A = ℕ} (has_name name z) 1 0) o objects in
    omega (arith, split, distinct name)

-- the first of objects has another name than each later one
first_apart : (o : NamedObject) (objects : List NamedObject) (k : ℕ) (y : NamedObject)
    → AreNamesDistinct (o ∷ objects) → slice_get objects k ≡ Some y → o.name ≡ y.name → ⊥
first_apart o objects k y distinct e same =
    let split = sum_by-cons (λ (z : NamedObject). cond {A = ℕ} (has_name y.name z) 1 0) o objects in
    let one : cond {A = ℕ} (has_name y.name o) 1 0 ≡ cond {A = ℕ} true 1 0 =
    ap (λ b. cond {A = ℕ} b 1 0) ((bytes_eq-Decides o.name y.name).1 same) in
    let more = counted (has_name y.name) objects y (at_place objects k y e) ((bytes_eq-Decides y.name y.name).1 refl) in
    omega (arith, split, one, more, distinct y.name)

one_place : (objects : List NamedObject) (i j : ℕ) (x y : NamedObject) → AreNamesDistinct objects
    → slice_get objects i ≡ Some x → slice_get objects j ≡ Some y → x.name ≡ y.name → i ≡ j
one_place [] i j x y distinct e f same = absurd (let none : ⊥ = cc in none)
one_place (o ∷ os) zero zero x y distinct e f same = refl
one_place (o ∷ os) zero (suc j) x y distinct e f same =
    let is : o ≡ x = same_Some _ _ e in
    absurd (first_apart o os j y distinct f (ap (λ (z : NamedObject). z.name) is ∙ same))
one_place (o ∷ os) (suc i) zero x y distinct e f same =
    let is : o ≡ y = same_Some _ _ f in
    absurd (first_apart o os i x distinct e (ap (λ (z : NamedObject). z.name) is ∙ sym same))
one_place (o ∷ os) (suc i) (suc j) x y distinct e f same =
    ap suc (one_place os i j x y (rest_distinct o os distinct) e f same)

object_is : (p : Project) (i : ℕ) (o : NamedObject) → slice_get p.objects i ≡ Some o → object_name p i ≡ o.name
object_is p i o e = ap (λ m. option_map_or (λ (v : NamedObject). v.name) m []) e

part_is : (p : Project) (i : ℕ) (part : Part) (o : NamedObject) → slice_get p.objects i ≡ Some o
    → name_of_part p i part ≡ part_name o.object part
part_is p i (InTable k) o e =
    ap (λ m. option_map_or (λ (s : LinkedSection). s.name)
    (option_and_then (λ (v : NamedObject). section_numbered v k) m) []) e
part_is p i (InCommon s) o e = refl

-- the object of a name that is not empty
has_object : (p : Project) (i : ℕ) → 0 < length (object_name p i)
    → (o : NamedObject) × (slice_get p.objects i ≡ Some o)
has_object p i some = go (slice_get p.objects i) refl
  where
    go : (m : Option NamedObject) → slice_get p.objects i ≡ m → (o : NamedObject) × (slice_get p.objects i ≡ Some o)
    go None e =
        let zero : length (object_name p i) ≡ 0 =
        ap (λ m. length (option_map_or (λ (v : NamedObject). v.name) m [])) e in
        absurd (omega (arith, some, zero))
    go (Some o) e = (o, e)

-- ---- sections and entries

-- two sections have the same names, and the same part
record AreNamedAlike (old new : Project) (a b : SectionRef) : Type 0 where
  part : a.part ≡ b.part
  object : object_name old a.object.0 ≡ object_name new b.object.0
  section : name_of_section old a ≡ name_of_section new b

abbrev entry : ℕ → List ℕ → Part → List ℕ → SectionKind → ℕ → ℕ → ℕ → model.Piece
entry statement object part name kind flags size alignment = record {
  statement = statement;
  object = object;
  part = part;
  name = name;
  kind = kind;
  flags = flags;
  size = size;
  alignment = alignment;
}

module _ (old new : Project) (x : PreviousState) (origins : AreOrigins old new x.origins)
    (replaced : IfSome x.replaced (IsReplaced old new)) where
  module _ (a b : SectionRef) where
    -- ---- found to be the same

    same_names : (i : ℕ) → slice_get new.objects b.object.0 ≡ slice_get old.objects i → i ≡ a.object.0
        → a.part ≡ b.part → AreNamedAlike old new a b
    same_names i e is part =
        let at : slice_get old.objects a.object.0 ≡ slice_get new.objects b.object.0 =
        ap (slice_get old.objects) (sym is) ∙ sym e in
        record {
          part = part;
          object = ap (λ m. option_map_or (λ (v : NamedObject). v.name) m []) at;
          section = named a.part at ∙ ap (name_of_part new b.object.0) part;
        }
      where
        named : (part : Part) → slice_get old.objects a.object.0 ≡ slice_get new.objects b.object.0
            → name_of_part old a.object.0 part ≡ name_of_part new b.object.0 part
        named (InTable k) at =
            ap (λ m. option_map_or (λ (s : LinkedSection). s.name)
            (option_and_then (λ (v : NamedObject). section_numbered v k) m) []) at
        named (InCommon s) at = refl

    came : (r : ReplacedObjectState) → IsReplaced old new r → replaced_part r new a b ≡ true → a.part ≡ b.part
        → AreNamedAlike old new a b
    came r is h part =
        let first = and_parts (r.old_place.0 == a.object.0) _ h in
        let second = and_parts (r.new_place.0 == b.object.0) _ first.1 in
        let before : slice_get old.objects a.object.0 ≡ Some is.before =
        ap (slice_get old.objects) (sym (eqb-true r.old_place.0 a.object.0 first.0)) ∙ is.old in
        let after : slice_get new.objects b.object.0 ≡ Some is.after =
        ap (slice_get new.objects) (sym (eqb-true r.new_place.0 b.object.0 second.0)) ∙ is.new in
        let found : has_same_name r.old_object a.part is.after ≡ true =
        ap (λ m. option_map_or (has_same_name r.old_object a.part) m false) (sym after) ∙ second.1 in
        let named : part_name r.old_object a.part ≡ part_name is.after.object a.part =
        (bytes_eq-Decides (part_name r.old_object a.part) (part_name is.after.object a.part)).0 found in
        record {
          part = part;
          object = object_is old a.object.0 is.before before ∙ sym is.name
              ∙ sym (object_is new b.object.0 is.after after);
          section = part_is old a.object.0 a.part is.before before ∙ ap (λ o. part_name o a.part) is.object ∙ named
              ∙ sym (part_is new b.object.0 a.part is.after after) ∙ ap (name_of_part new b.object.0) part;
        }

    sound_section : is_same_section x new a b ≡ true → AreNamedAlike old new a b
    sound_section e =
        let both = and_parts (is_same_part a.part b.part) _ e in
        go (last_place x b.object) refl both.1 (same_part a.part b.part both.0)
      where
        renewed : (m : Option ReplacedObjectState) → IfSome m (IsReplaced old new)
            → option_map_or (λ (r : ReplacedObjectState). replaced_part r new a b) m false ≡ true → a.part ≡ b.part
            → AreNamedAlike old new a b
        renewed None is h part = absurd (false≢true h)
        renewed (Some r) is h part = came r is h part

        go : (m : Option ℕ) → last_place x b.object ≡ m → is_of_same_object x new a b m ≡ true → a.part ≡ b.part
            → AreNamedAlike old new a b
        go (Some i) at h part =
            same_names i (origins.same b.object.0 i at) (eqb-true i a.object.0 h) part
        go None at h part = renewed x.replaced replaced h part

    -- ---- to be found

    module _ (distinct : AreNamesDistinct old.objects)
        (known : (i : ℕ) (o y : NamedObject) → slice_get new.objects i ≡ Some o → slice_index_or x.origins i None ≡ None
        → Contains old.objects y → y.name ≡ o.name → HasReplaced x.replaced i)
        (alike : AreNamedAlike old new a b) (y : NamedObject) (was : slice_get old.objects a.object.0 ≡ Some y)
        (o : NamedObject) (is : slice_get new.objects b.object.0 ≡ Some o) where
      names : y.name ≡ o.name
      names = sym (object_is old a.object.0 y was) ∙ alike.object ∙ object_is new b.object.0 o is

      found_renewed : (m : Option ReplacedObjectState) → IfSome m (IsReplaced old new) → HasReplaced m b.object.0
          → option_map_or (λ (r : ReplacedObjectState). replaced_part r new a b) m false ≡ true
      found_renewed None r h = absurd h
      found_renewed (Some r) there h =
          let after : slice_get new.objects b.object.0 ≡ Some there.after =
          ap (slice_get new.objects) (sym h) ∙ there.new in
          let same : there.before.name ≡ y.name =
          sym there.name ∙ sym (object_is new b.object.0 there.after after) ∙ sym alike.object
          ∙ object_is old a.object.0 y was in
          let place = one_place old.objects r.old_place.0 a.object.0 there.before y distinct there.old was same in
          let before : slice_get old.objects a.object.0 ≡ Some there.before =
          ap (slice_get old.objects) (sym place) ∙ there.old in
          let named : part_name r.old_object a.part ≡ part_name there.after.object a.part =
          ap (λ o. part_name o a.part) (sym there.object) ∙ sym (part_is old a.object.0 a.part there.before before)
          ∙ alike.section ∙ ap (name_of_part new b.object.0) (sym alike.part)
          ∙ part_is new b.object.0 a.part there.after after in
          and_from (r.old_place.0 == a.object.0) _ (eq-eqb r.old_place.0 a.object.0 place)
          (and_from (r.new_place.0 == b.object.0) _ (eq-eqb r.new_place.0 b.object.0 h)
          (ap (λ m. option_map_or (has_same_name r.old_object a.part) m false) after
          ∙ (bytes_eq-Decides (part_name r.old_object a.part) (part_name there.after.object a.part)).1 named))

      found_object : (m : Option ℕ) → last_place x b.object ≡ m → is_of_same_object x new a b m ≡ true
      found_object (Some i) e =
          let at : slice_get old.objects i ≡ Some o = sym (origins.same b.object.0 i e) ∙ is in
          eq-eqb i a.object.0 (one_place old.objects i a.object.0 o y distinct at was (sym names))
      found_object None e =
          found_renewed x.replaced replaced
          (known b.object.0 o y is e (at_place old.objects a.object.0 y was) names)

      found_section : is_same_section x new a b ≡ true
      found_section =
          and_from (is_same_part a.part b.part) _
          (ap (λ part. is_same_part part b.part) alike.part ∙ own_part b.part)
          (found_object (last_place x b.object) refl)

  -- ---- entries

  sound_piece : (a b : Piece) → is_same_piece x new a b ≡ true → piece_in old a ≡ piece_in new b
  sound_piece a b e =
      let c1 = and_parts (a.statement.0 == b.statement.0) _ e in
      let c2 = and_parts (is_same_section x new a.section b.section) _ c1.1 in
      let c3 = and_parts (kind_number a.kind == kind_number b.kind) _ c2.1 in
      let c4 = and_parts (a.flags == b.flags) _ c3.1 in
      let c5 = and_parts (a.size == b.size) (a.alignment == b.alignment) c4.1 in
      let alike = sound_section a.section b.section c2.0 in
      let statement = eqb-true a.statement.0 b.statement.0 c1.0 in
      let kind = same_kind a.kind b.kind c3.0 in
      let flags = eqb-true a.flags b.flags c4.0 in
      let size = eqb-true a.size b.size c5.0 in
      let alignment = eqb-true a.alignment b.alignment c5.1 in
      ap (λ n. entry n (object_name old a.section.object.0) a.section.part (name_of_section old a.section) a.kind
      a.flags a.size a.alignment) statement
      ∙ ap (λ n. entry b.statement.0 n a.section.part (name_of_section old a.section) a.kind a.flags a.size
      a.alignment) alike.object
      ∙ ap (λ n. entry b.statement.0 (object_name new b.section.object.0) n (name_of_section old a.section) a.kind
      a.flags a.size a.alignment) alike.part
      ∙ ap (λ n. entry b.statement.0 (object_name new b.section.object.0) b.section.part n a.kind a.flags a.size
      a.alignment) alike.section
      ∙ ap (λ n. entry b.statement.0 (object_name new b.section.object.0) b.section.part
      (name_of_section new b.section) n a.flags a.size a.alignment) kind
      ∙ ap (λ n. entry b.statement.0 (object_name new b.section.object.0) b.section.part
      (name_of_section new b.section) b.kind n a.size a.alignment) flags
      ∙ ap (λ n. entry b.statement.0 (object_name new b.section.object.0) b.section.part
      (name_of_section new b.section) b.kind b.flags n a.alignment) size
      ∙ ap (λ n. entry b.statement.0 (object_name new b.section.object.0) b.section.part
      (name_of_section new b.section) b.kind b.flags b.size n) alignment

  sound_pieces : (before now : List Piece) → length before ≡ length now → are_same_pieces x new before now ≡ true
      → map (piece_in old) before ≡ map (piece_in new) now
  sound_pieces [] [] long e = refl
  sound_pieces [] (b ∷ bs) long e = absurd (omega (arith, long))
  sound_pieces (a ∷ rest) [] long e = absurd (omega (arith, long))
  sound_pieces (a ∷ rest) (b ∷ bs) long e =
      let both = and_parts (is_same_piece x new a b) (are_same_pieces x new rest bs) e in
      ap (λ c. c ∷ map (piece_in old) rest) (sound_piece a b both.0)
      ∙ ap (λ l. piece_in new b ∷ l) (sound_pieces rest bs (omega (arith, long)) both.1)

  sound_row : (before now : List Piece) → is_same_row x new before now ≡ true
      → map (piece_in old) before ≡ map (piece_in new) now
  sound_row before now e =
      let both = and_parts (length before == length now) (are_same_pieces x new before now) e in
      sound_pieces before now (eqb-true (length before) (length now) both.0) both.1

  -- no row differs before the first that the code finds to
  pub same_before : (before now : List (Vec Piece)) (k : ℕ) → k < first_changed x new before now
      → slice_index_or (rows_in old before) k [] ≡ slice_index_or (rows_in new now) k []
  same_before [] now k l = absurd (omega (arith, l))
  same_before (a ∷ rest) [] k l = absurd (omega (arith, l))
  same_before (a ∷ rest) (b ∷ bs) k l =
      go (is_same_row x new (vec_items a) (vec_items b)) refl k l (same_before rest bs)
    where
      go : (t : Bool) → is_same_row x new (vec_items a) (vec_items b) ≡ t → (k : ℕ)
          → k < cond (not (not t)) (1 + first_changed x new rest bs) 0
          → ((j : ℕ) → j < first_changed x new rest bs
          → slice_index_or (rows_in old rest) j [] ≡ slice_index_or (rows_in new bs) j [])
          → slice_index_or (rows_in old (a ∷ rest)) k [] ≡ slice_index_or (rows_in new (b ∷ bs)) k []
      go false e k l next = absurd (omega (arith, l))
      go true e zero l next = sound_row (vec_items a) (vec_items b) e
      go true e (suc k) l next = next k (omega (arith, l))

  module _ (distinct : AreNamesDistinct old.objects)
      (known : (i : ℕ) (o y : NamedObject) → slice_get new.objects i ≡ Some o → slice_index_or x.origins i None ≡ None
      → Contains old.objects y → y.name ≡ o.name → HasReplaced x.replaced i) where
    found_piece : (a b : Piece) → piece_in old a ≡ piece_in new b → IsOwned old (piece_in old a)
        → is_same_piece x new a b ≡ true
    found_piece a b e owned =
        let alike : AreNamedAlike old new a.section b.section = record {
          part = ap (λ (p : model.Piece). p.part) e;
          object = ap (λ (p : model.Piece). p.object) e;
          section = ap (λ (p : model.Piece). p.name) e;
        } in
        let y = has_object old a.section.object.0 owned.some in
        let some : 0 < length (object_name new b.section.object.0) =
        subst (λ (n : List ℕ). 0 < length n) alike.object owned.some in
        let o = has_object new b.section.object.0 some in
        and_from (a.statement.0 == b.statement.0) _
        (eq-eqb a.statement.0 b.statement.0 (ap (λ (p : model.Piece). p.statement) e))
        (and_from (is_same_section x new a.section b.section) _
        (found_section a.section b.section distinct known alike y.0 y.1 o.0 o.1)
        (and_from (kind_number a.kind == kind_number b.kind) _
        (eq-eqb (kind_number a.kind) (kind_number b.kind) (ap (λ (p : model.Piece). kind_number p.kind) e))
        (and_from (a.flags == b.flags) _ (eq-eqb a.flags b.flags (ap (λ (p : model.Piece). p.flags) e))
        (and_from (a.size == b.size) (a.alignment == b.alignment)
        (eq-eqb a.size b.size (ap (λ (p : model.Piece). p.size) e))
        (eq-eqb a.alignment b.alignment (ap (λ (p : model.Piece). p.alignment) e))))))

    found_pieces : (before now : List Piece) → map (piece_in old) before ≡ map (piece_in new) now
        → Each (IsOwned old) (map (piece_in old) before) → are_same_pieces x new before now ≡ true
    found_pieces [] now e owned = refl
    found_pieces (a ∷ rest) [] e owned = absurd (let none : ⊥ = cc in none)
    found_pieces (a ∷ rest) (b ∷ bs) e owned =
        and_from (is_same_piece x new a b) (are_same_pieces x new rest bs)
        (found_piece a b (head_is _ _ _ _ e) owned.0) (found_pieces rest bs (tail_is _ _ _ _ e) owned.1)

    found_row : (before now : List Piece) → map (piece_in old) before ≡ map (piece_in new) now
        → Each (IsOwned old) (map (piece_in old) before) → is_same_row x new before now ≡ true
    found_row before now e owned =
        and_from (length before == length now) (are_same_pieces x new before now)
        (eq-eqb (length before) (length now)
        (sym (length-map before (piece_in old)) ∙ ap length e ∙ length-map now (piece_in new)))
        (found_pieces before now e owned)

    fewer : (rows : List (List model.Piece)) (k : ℕ) → entries_from k rows ≤ entries_from 0 rows
    fewer [] zero = omega arith
    fewer [] (suc k) = omega arith
    fewer (r ∷ rs) zero = omega arith
    fewer (r ∷ rs) (suc k) =
        let more = length-append r (flat_map (λ (row : List model.Piece). row) rs) in
        omega (arith, more, fewer rs k)

    -- from the first row that the code finds to differ, there are no more entries than from any before which none does
    pub fewest : (before now : List (Vec Piece)) (n : ℕ) → take n (rows_in old before) ≡ take n (rows_in new now)
        → Each (IsOwned old) (flat_map (λ (row : List model.Piece). row) (rows_in old before))
        → entries_from (first_changed x new before now) (rows_in new now) ≤ entries_from n (rows_in new now)
    fewest before now zero e owned = fewer (rows_in new now) (first_changed x new before now)
    fewest [] [] (suc n) e owned = omega arith
    fewest [] (b ∷ bs) (suc n) e owned = absurd (let none : ⊥ = cc in none)
    fewest (a ∷ rest) [] (suc n) e owned = absurd (let none : ⊥ = cc in none)
    fewest (a ∷ rest) (b ∷ bs) (suc n) e owned =
        let parts = each_parts (IsOwned old) (map (piece_in old) (vec_items a))
        (flat_map (λ (row : List model.Piece). row) (rows_in old rest)) owned in
        let same = found_row (vec_items a) (vec_items b) (head_is _ _ _ _ e) parts.0 in
        let next : 1 + first_changed x new rest bs ≡ suc (first_changed x new rest bs) = omega arith in
        let first : first_changed x new (a ∷ rest) (b ∷ bs) ≡ suc (first_changed x new rest bs) =
        ap (λ t. cond (not (not t)) (1 + first_changed x new rest bs) 0) same ∙ next in
        subst (λ k. entries_from k (rows_in new (b ∷ bs)) ≤ entries_from (suc n) (rows_in new (b ∷ bs))) (sym first)
        (fewest rest bs n (tail_is _ _ _ _ e) parts.1)
