-- An input section stayed where it stands as the same part of the same object stood.
use Rattle.relink_driver.proofs.Common.{AreNamesDistinct, AreOrigins, Bool, Contains, GoodLink, InCommon, InTable, List}
use Rattle.relink_driver.proofs.Common.{NamedObject, None, Option, Part, Project, SectionLocation, Some, [], and_from}
use Rattle.relink_driver.proofs.Common.{and_parts, any_in, ap, arith, at_place, bytes_eq, bytes_eq-Decides, cond}
use Rattle.relink_driver.proofs.Common.{count_by, eq-eqb, eqb-true, false, find, first_or_later, has_name, inl, inr}
use Rattle.relink_driver.proofs.Common.{is_same_part, length, none_in_nil, object_name, option_map_or, refl}
use Rattle.relink_driver.proofs.Common.{same_location, slice_get, slice_index_or, sum_by-cons, sym, true, ℕ, ◌+◌, ◌<◌}
use Rattle.relink_driver.proofs.Common.{◌==◌, ◌^◌, ◌∙◌, ◌∷◌, ◌≡◌, ◌≤◌, ◌⊎◌}
use Rattle.ldmodel.specs.Stayed as model
use Rattle.ldmodel.specs.Stayed.{LinkedPiece, has_stayed, link_pieces, same_piece, same_range, text_of}
use Rattle.emit.specs.relocate.PreviousLinkInfo.{range_of}
use Rattle.relink_driver.proofs.SectionsStandOnce.{own_part}

-- ---- the object of a name

pub counted : {X : Type 0} (test : X → Bool) (xs : List X) (x : X) → Contains xs x → test x ≡ true
    → 0 < count_by test xs
counted test [] x c e = absurd (none_in_nil x c)
counted {X} test (y ∷ ys) x c e = go (first_or_later y ys x c) (λ in_rest. counted test ys x in_rest e)
  where
    go : (y ≡ x) ⊎ Contains ys x → (Contains ys x → 0 < count_by test ys) → 0 < count_by test (y ∷ ys)
    go (inl is) rest =
        let split = sum_by-cons (λ (z : X). cond {A = ℕ} (test z) 1 0) y ys in
        let first : cond {A = ℕ} (test y) 1 0 ≡ cond {A = ℕ} true 1 0 = ap (λ b. cond {A = ℕ} b 1 0) (ap test is ∙ e) in
        omega (arith, split, first)
    go (inr in_rest) rest = let split = sum_by-cons (λ (z : X). cond {A = ℕ} (test z) 1 0) y ys in
        omega (arith, split, rest in_rest)

found_by_name : (name : List ℕ) (objects : List NamedObject) (o : NamedObject)
    → count_by (has_name name) objects ≤ 1 → Contains objects o → has_name name o ≡ true
    → find (has_name name) objects ≡ Some o
found_by_name name [] o few c h = absurd (none_in_nil o c)
found_by_name name (y ∷ ys) o few c h =
    go (has_name name y) refl (first_or_later y ys o c) (λ less k. found_by_name name ys o less k h)
  where
    split : count_by (has_name name) (y ∷ ys) ≡ cond {A = ℕ} (has_name name y) 1 0 + count_by (has_name name) ys
    split = sum_by-cons (λ (z : NamedObject). cond {A = ℕ} (has_name name z) 1 0) y ys

    go : (b : Bool) → has_name name y ≡ b → (y ≡ o) ⊎ Contains ys o
        → (count_by (has_name name) ys ≤ 1 → Contains ys o → find (has_name name) ys ≡ Some o)
        → cond (has_name name y) (Some y) (find (has_name name) ys) ≡ Some o
    go b is (inl same) rest =
        ap (λ b. cond b (Some y) (find (has_name name) ys)) (ap (has_name name) same ∙ h) ∙ ap Some same
    go true is (inr k) rest =
        let one : cond {A = ℕ} (has_name name y) 1 0 ≡ cond {A = ℕ} true 1 0 = ap (λ b. cond {A = ℕ} b 1 0) is in
        absurd (omega (arith, one, counted (has_name name) ys o k h, few, split))
    go false is (inr k) rest =
        let none : cond {A = ℕ} (has_name name y) 1 0 ≡ cond {A = ℕ} false 1 0 = ap (λ b. cond {A = ℕ} b 1 0) is in
        ap (λ b. cond b (Some y) (find (has_name name) ys)) is ∙ rest (omega (arith, none, few, split)) k

pub text_is : (p : Project) (o : NamedObject) → AreNamesDistinct p.objects → Contains p.objects o
    → text_of p o.name ≡ o.object.text
text_is p o distinct c =
    ap (λ m. option_map_or (λ (x : NamedObject). x.object.text) m [])
    (found_by_name o.name p.objects o (distinct o.name) c ((bytes_eq-Decides o.name o.name).1 refl))

-- ---- input sections that are the same

pub same_part : (a b : Part) → is_same_part a b ≡ true → a ≡ b
same_part (InTable k) (InTable n) e = ap (λ m. InTable (record { 0 = m })) (eqb-true k.0 n.0 e)
same_part (InTable k) (InCommon n) e = absurd (let none : ⊥ = cc in none)
same_part (InCommon k) (InTable n) e = absurd (let none : ⊥ = cc in none)
same_part (InCommon k) (InCommon n) e = ap (λ m. InCommon (record { 0 = m })) (eqb-true k.0 n.0 e)

pub record Same (x y : LinkedPiece) : Type 0 where
  pub object : x.object ≡ y.object
  pub text : x.text ≡ y.text
  pub part : x.part ≡ y.part
  pub start : x.start ≡ y.start
  pub size : x.size ≡ y.size
  pub offset : x.range.offset ≡ y.range.offset
  pub length : x.range.length ≡ y.range.length

pub same_of : (x y : LinkedPiece) → same_piece x y ≡ true → Same x y
same_of x y e =
    let a = and_parts _ (same_range x.range y.range) e in
    let b = and_parts _ (x.size == y.size) a.0 in
    let c = and_parts _ (x.start == y.start) b.0 in
    let d = and_parts _ (is_same_part x.part y.part) c.0 in
    let f = and_parts (bytes_eq x.object y.object) (bytes_eq x.text y.text) d.0 in
    let g = and_parts (x.range.offset == y.range.offset) (x.range.length == y.range.length) a.1 in
    record {
      object = (bytes_eq-Decides x.object y.object).0 f.0;
      text = (bytes_eq-Decides x.text y.text).0 f.1;
      part = same_part x.part y.part d.1;
      start = eqb-true x.start y.start c.1;
      size = eqb-true x.size y.size b.1;
      offset = eqb-true x.range.offset y.range.offset g.0;
      length = eqb-true x.range.length y.range.length g.1;
    }

of_same : (x y : LinkedPiece) → Same x y → same_piece x y ≡ true
of_same x y h =
    and_from _ (same_range x.range y.range)
    (and_from _ (x.size == y.size)
    (and_from _ (x.start == y.start)
    (and_from _ (is_same_part x.part y.part)
    (and_from (bytes_eq x.object y.object) (bytes_eq x.text y.text)
    ((bytes_eq-Decides x.object y.object).1 h.object) ((bytes_eq-Decides x.text y.text).1 h.text))
    (ap (λ k. is_same_part k y.part) h.part ∙ own_part y.part))
    (eq-eqb x.start y.start h.start))
    (eq-eqb x.size y.size h.size))
    (and_from (x.range.offset == y.range.offset) (x.range.length == y.range.length)
    (eq-eqb x.range.offset y.range.offset h.offset) (eq-eqb x.range.length y.range.length h.length))

-- ---- where they stand

-- an input section stands there
pub record IsAt (x : LinkedPiece) (a : SectionLocation) : Type 0 where
  pub start : a.start ≡ x.start
  pub size : a.size ≡ x.size
  pub range : range_of a.range ≡ x.range

-- tables have where it stands, if its bytes do not begin past 2^64
pub record Shows (x : LinkedPiece) (m : Option SectionLocation) : Type 0 where
  pub is : (a : SectionLocation) → m ≡ Some a → IsAt x a
  pub some : x.range.offset < 2 ^ 64 → (a : SectionLocation) × (m ≡ Some a)

pub alike : (x y : LinkedPiece) (b a : SectionLocation) → Same x y → IsAt y b → IsAt x a → same_location b a ≡ true
alike x y b a h was is =
    and_from (b.start == a.start) _ (eq-eqb b.start a.start (was.start ∙ sym h.start ∙ sym is.start))
    (and_from (b.size == a.size) _ (eq-eqb b.size a.size (was.size ∙ sym h.size ∙ sym is.size))
    (and_from (b.range.offset == a.range.offset) (b.range.length == a.range.length)
    (eq-eqb b.range.offset a.range.offset (ap (λ (r : model.FileRange). r.offset) was.range ∙ sym h.offset
    ∙ sym (ap (λ (r : model.FileRange). r.offset) is.range)))
    (eq-eqb b.range.length a.range.length (ap (λ (r : model.FileRange). r.length) was.range ∙ sym h.length
    ∙ sym (ap (λ (r : model.FileRange). r.length) is.range)))))

-- ---- what stayed

module _ (old : GoodLink) (p : Project) (from : List (Option ℕ)) (origins : AreOrigins old.project p from)
    (old_names : AreNamesDistinct old.project.objects) (names : AreNamesDistinct p.objects) (i : ℕ) (x : LinkedPiece)
    (name_is : x.object ≡ object_name p i) (x_text : x.text ≡ text_of p x.object) (some : 0 < length x.object) where
  -- the object of an input section in the output
  record HasObject : Type 0 where
    object : NamedObject
    at : slice_get p.objects i ≡ Some object
    name : x.object ≡ object.name
    text : x.text ≡ object.object.text

  has_object : HasObject
  has_object = go (slice_get p.objects i) refl
    where
      go : (m : Option NamedObject) → slice_get p.objects i ≡ m → HasObject
      go None e =
          let empty : x.object ≡ [] = name_is ∙ ap (λ m. option_map_or (λ (o : NamedObject). o.name) m []) e in
          let zero : length x.object ≡ 0 = ap length empty in
          absurd (omega (arith, some, zero))
      go (Some o) e =
          let same : x.object ≡ o.name =
          name_is ∙ ap (λ m. option_map_or (λ (o : NamedObject). o.name) m []) e in
          record {
            object = o;
            at = e;
            name = same;
            text = x_text ∙ ap (text_of p) same ∙ text_is p o names (at_place p.objects i o e);
          }

  module _ (y : LinkedPiece) (y_text : y.text ≡ text_of old.project y.object) where
    -- one that stands as it stood is one of the previous link
    pub sound : (j : ℕ) → slice_index_or from i None ≡ Some j → Contains (link_pieces old) y
        → y.object ≡ object_name old.project j → y.part ≡ x.part → (b a : SectionLocation) → IsAt y b → IsAt x a
        → same_location b a ≡ true → has_stayed old x ≡ true
    sound j e c y_name y_part b a was is same =
        let o = has_object in
        let at : slice_get old.project.objects j ≡ Some o.object = sym (origins.same i j e) ∙ o.at in
        let name : y.object ≡ o.object.name =
        y_name ∙ ap (λ m. option_map_or (λ (o : NamedObject). o.name) m []) at in
        let text : y.text ≡ o.object.object.text =
        y_text ∙ ap (text_of old.project) name
        ∙ text_is old.project o.object old_names (at_place old.project.objects j o.object at) in
        let s = and_parts (b.start == a.start) _ same in
        let t = and_parts (b.size == a.size) _ s.1 in
        let u = and_parts (b.range.offset == a.range.offset) (b.range.length == a.range.length) t.1 in
        any_in (same_piece x) (link_pieces old) y c (of_same x y (record {
          object = o.name ∙ sym name;
          text = o.text ∙ sym text;
          part = sym y_part;
          start = sym is.start ∙ sym (eqb-true b.start a.start s.0) ∙ was.start;
          size = sym is.size ∙ sym (eqb-true b.size a.size t.0) ∙ was.size;
          offset = sym (ap (λ (r : model.FileRange). r.offset) is.range)
              ∙ sym (eqb-true b.range.offset a.range.offset u.0) ∙ ap (λ (r : model.FileRange). r.offset) was.range;
          length = sym (ap (λ (r : model.FileRange). r.length) is.range)
              ∙ sym (eqb-true b.range.length a.range.length u.1) ∙ ap (λ (r : model.FileRange). r.length) was.range;
        }))

    module _ (same : Same x y) where
      -- the object of one that is the same as one of the previous link was there
      pub not_fresh : (o : NamedObject) → Contains old.project.objects o → o.name ≡ y.object
          → slice_index_or from i None ≡ None → ⊥
      not_fresh o c name e =
          let mine = has_object in
          origins.fresh i mine.object o e mine.at c (name ∙ sym same.object ∙ mine.name)
          (sym (text_is old.project o old_names c) ∙ ap (text_of old.project) name ∙ sym y_text ∙ sym same.text
          ∙ mine.text)

      -- and its place has that object
      pub old_name : (j : ℕ) → slice_index_or from i None ≡ Some j → object_name old.project j ≡ y.object
      old_name j e =
          let mine = has_object in
          ap (λ m. option_map_or (λ (o : NamedObject). o.name) m []) (sym (origins.same i j e) ∙ mine.at)
          ∙ sym mine.name ∙ same.object
