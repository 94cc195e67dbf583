-- Input sections as they are drawn.
use Rattle.emit.proofs.Common.{All, AllZip, AreInOrder, AreNamesDistinct, AreObjectsNamed, Bool, HaveNumbers}
use Rattle.emit.proofs.Common.{ImagePiece, InCommon, InTable, IsDrawnPiece, IsImagePiece, IsJoinedRow, IsPlacedAt}
use Rattle.emit.proofs.Common.{IsRowAt, IsRowPiece, IsStayedPieceAt, Layout, LinkedSection, List, NamedObject, None}
use Rattle.emit.proofs.Common.{ObjectData, Option, Part, Patch, Piece, PlacedOutput, PlacedPiece, Project, Section}
use Rattle.emit.proofs.Common.{SectionIndex, SectionRef, Some, StandFor, SymbolIndex, [], ap, arith, bytes_eq-Decides}
use Rattle.emit.proofs.Common.{cond, count_by, eq-eqb, eqb-true, false, false_from_ne_true, find, find_at, get_or}
use Rattle.emit.proofs.Common.{get_or_default, get_or_from_slice_get, has_name, inr, length, length-map, map}
use Rattle.emit.proofs.Common.{object_byte, object_name, object_named, option_map, option_map_or, part_byte}
use Rattle.emit.proofs.Common.{patched_byte, piece_in, placed_part, refl, same_Some, section_byte, section_numbered}
use Rattle.emit.proofs.Common.{section_of, slice_get, slice_get-map, stand_none, subst, suc, sum_by-cons, sym, take}
use Rattle.emit.proofs.Common.{take_all, true, true≢false, zero, zip_more, ℕ, ◌++◌, ◌+◌, ◌<◌, ◌==◌, ◌∙◌, ◌∷◌, ◌≡◌, ◌≤◌}
use Rattle.emit_image.specs.Drawing.{IsFilled}
use Rattle.ldmodel.specs.declared.rows.Piece as rows
use Rattle.elfobj.specs.Numbering.{IsNumberedAt}
use Rattle.emit.proofs.Lists.{take_next, zip_each, zip_right}
use Rattle.emit.specs.StayedPieces.{IsStayedByKey}
use Rattle.emit.specs.Output.{IsRow}

abbrev one_if : Bool → ℕ
one_if b = cond b 1 0

counted : (name : List ℕ) (y : NamedObject) (ys : List NamedObject)
    → count_by (has_name name) (y ∷ ys) ≡ one_if (has_name name y) + count_by (has_name name) ys
counted name y ys = sum_by-cons (λ x. one_if (has_name name x)) y ys

some_named : (name : List ℕ) (objects : List NamedObject) (k : ℕ) (o : NamedObject) → slice_get objects k ≡ Some o
    → has_name name o ≡ true → 0 < count_by (has_name name) objects
some_named name [] k o e h = absurd (let none : ⊥ = cc in none)
some_named name (y ∷ ys) zero o e h =
    let same : y ≡ o = same_Some _ _ e in
    let one : one_if (has_name name y) ≡ one_if true = ap one_if (ap (has_name name) same ∙ h) in
    omega (arith, one, counted name y ys)
some_named name (y ∷ ys) (suc k) o e h = omega (arith, some_named name ys k o e h, counted name y ys)

-- the one object of a name is found by it
found_by_name : (name : List ℕ) (objects : List NamedObject) (k : ℕ) (o : NamedObject)
    → count_by (has_name name) objects ≤ 1 → slice_get objects k ≡ Some o → has_name name o ≡ true
    → find (has_name name) objects ≡ Some o
found_by_name name [] k o few e h = absurd (let none : ⊥ = cc in none)
found_by_name name (y ∷ ys) zero o few e h =
    let same : y ≡ o = same_Some _ _ e in
    ap (λ b. cond b (Some y) (find (has_name name) ys)) (ap (has_name name) same ∙ h) ∙ ap Some same
found_by_name name (y ∷ ys) (suc k) o few e h = go (has_name name y) refl (found_by_name name ys k o)
  where
    go : (b : Bool) → has_name name y ≡ b
        → (count_by (has_name name) ys ≤ 1 → slice_get ys k ≡ Some o → has_name name o ≡ true
        → find (has_name name) ys ≡ Some o)
        → cond (has_name name y) (Some y) (find (has_name name) ys) ≡ Some o
    go true is rest =
        let one : one_if (has_name name y) ≡ one_if true = ap one_if is in
        absurd (omega (arith, one, some_named name ys k o e h, few, counted name y ys))
    go false is rest =
        ap (λ b. cond b (Some y) (find (has_name name) ys)) is
        ∙ rest (omega (arith, few, counted name y ys)) e h

pub named_self : (p : Project) (key : ℕ) (o : NamedObject) → AreNamesDistinct p.objects
    → slice_get p.objects key ≡ Some o → object_named p (object_name p key) ≡ Some o
named_self p key o distinct e =
    let name : object_name p key ≡ o.name = ap (λ a. option_map_or (λ (x : NamedObject). x.name) a []) e in
    ap (object_named p) name
    ∙ found_by_name o.name p.objects key o (distinct o.name) e ((bytes_eq-Decides o.name o.name).1 refl)

-- ---- input sections of no object

none_named : (objects : List NamedObject) → AreObjectsNamed objects → find (has_name []) objects ≡ None
none_named [] h = refl
none_named (y ∷ ys) h =
    let other : has_name [] y ≡ false =
    false_from_ne_true (has_name [] y)
    (λ t. absurd (omega (arith, h.0, ap length ((bytes_eq-Decides y.name []).0 t)))) in
    ap (λ b. cond b (Some y) (find (has_name []) ys)) other ∙ none_named ys h.1

unnamed : (p : Project) (key : ℕ) → AreObjectsNamed p.objects → slice_get p.objects key ≡ None
    → object_named p (object_name p key) ≡ None
unnamed p key named e =
    ap (λ a. object_named p (option_map_or (λ (x : NamedObject). x.name) a [])) e ∙ none_named p.objects named

no_object_in : (a : Option NamedObject) → None ≡ option_map (λ (o : NamedObject). o.object) a → a ≡ None
no_object_in None h = refl
no_object_in (Some o) h = absurd (let none : ⊥ = cc in none)

-- no object has the key
pub no_object : (p : Project) (key : ℕ)
    → None ≡ option_map (λ (o : NamedObject). o.object) (slice_get p.objects key) → slice_get p.objects key ≡ None
no_object p key h = no_object_in (slice_get p.objects key) h

-- ---- input sections without bytes

pub zero_byte : (bytes : List ℕ) (fields : List Patch) (i : ℕ) → bytes ≡ [] → fields ≡ []
    → patched_byte bytes fields i ≡ 0
zero_byte bytes fields i e f =
    ap (λ b. patched_byte b fields i) e ∙ ap (λ r. patched_byte [] r i) f

pub filled_zeros : (y : ImagePiece) → y.bytes.now ≡ [] → y.fields.now ≡ [] → IsFilled y
filled_zeros y e f = (
  inr (ap length e, ap length f),
  subst (λ r. AreInOrder 0 y.size r) (sym f) (omega arith),
)

abbrev pub AreZeros : ℕ → ℕ → ImagePiece → Type 0
AreZeros size start y =
    (y.start ≡ start) × (y.size ≡ size) × (y.bytes.now ≡ []) × (y.fields.now ≡ []) × (y.stays ≡ false)

module _ (p : Project) (s : Layout) (piece : Piece) (start : ℕ) (w : PlacedPiece) (at : IsPlacedAt p s piece start w)
  where
    drawn_zeros : (y : ImagePiece) → AreZeros piece.size start y
        → ((i : ℕ) → part_byte p s w.piece.object w.piece.part w.start i ≡ 0) → IsDrawnPiece p s w y
    drawn_zeros y z h = record {
      piece = record {
        start = z.0 ∙ sym at.start_is;
        size = z.1 ∙ sym (ap (λ (x : Piece). x.size) at.piece_is);
        bytes = λ stays i l. zero_byte y.bytes.now y.fields.now i z.2 z.3 ∙ sym (h i);
      };
      filled = filled_zeros y z.2 z.3;
      unstayed = z.4;
    }

    part_is : (part : Part) → piece.part ≡ part → w.piece.part ≡ part
    part_is part e = ap (λ (x : Piece). x.part) at.piece_is ∙ e

    pub drawn_common : (number : SymbolIndex) (y : ImagePiece) → AreZeros piece.size start y
        → piece.part ≡ InCommon number
        → IsDrawnPiece p s w y
    drawn_common number y z e =
        drawn_zeros y z (λ i. ap (λ part. part_byte p s w.piece.object part w.start i) (part_is (InCommon number) e))

    pub drawn_unnamed : (key : ℕ) (number : SectionIndex) → AreObjectsNamed p.objects → slice_get p.objects key ≡ None
        → piece.object ≡ object_name p key → piece.part ≡ InTable number → (y : ImagePiece)
        → AreZeros piece.size start y → IsDrawnPiece p s w y
    drawn_unnamed key number named none name part y z =
        let object : w.piece.object ≡ object_name p key = ap (λ (x : Piece). x.object) at.piece_is ∙ name in
        drawn_zeros y z
        (λ i. ap (λ n. part_byte p s w.piece.object n w.start i) (part_is (InTable number) part)
        ∙ ap (λ n. option_map_or (object_byte p s number w.start i) (object_named p n) 0) object
        ∙ ap (λ a. option_map_or (object_byte p s number w.start i) a 0) (unnamed p key named none))

    module _ (key : ℕ) (o : NamedObject) (number : SectionIndex) (distinct : AreNamesDistinct p.objects)
        (there : slice_get p.objects key ≡ Some o) (name : piece.object ≡ object_name p key)
        (part : piece.part ≡ InTable number) where
      byte_is : (i : ℕ) → part_byte p s w.piece.object w.piece.part w.start i
          ≡ option_map_or (section_byte p s o w.start i) (section_numbered o number) 0
      byte_is i =
          let object : w.piece.object ≡ object_name p key = ap (λ (x : Piece). x.object) at.piece_is ∙ name in
          ap (λ n. part_byte p s w.piece.object n w.start i) (part_is (InTable number) part)
          ∙ ap (λ n. option_map_or (object_byte p s number w.start i) (object_named p n) 0) object
          ∙ ap (λ a. option_map_or (object_byte p s number w.start i) a 0) (named_self p key o distinct there)

      pub drawn_none : (y : ImagePiece) → AreZeros piece.size start y → section_numbered o number ≡ None
          → IsDrawnPiece p s w y
      drawn_none y z none =
          drawn_zeros y z (λ i. byte_is i ∙ ap (λ a. option_map_or (section_byte p s o w.start i) a 0) none)

      pub drawn_some : (x : LinkedSection) (y : ImagePiece) → section_numbered o number ≡ Some x → y.start ≡ start
          → y.size ≡ piece.size
          → ((i : ℕ) → patched_byte y.bytes.now y.fields.now i ≡ section_byte p s o start i x) → IsFilled y
          → y.stays ≡ false → IsDrawnPiece p s w y
      drawn_some x y found begun long bytes filled stays = record {
        piece = record {
          start = begun ∙ sym at.start_is;
          size = long ∙ sym (ap (λ (z : Piece). z.size) at.piece_is);
          bytes = λ _ i l. bytes i
              ∙ ap (λ n. section_byte p s o n i x) (sym at.start_is)
              ∙ sym (byte_is i ∙ ap (λ a. option_map_or (section_byte p s o w.start i) a 0) found);
        };
        filled = filled;
        unstayed = stays;
      }

      pub placed_is : (x : LinkedSection) → x.number.0 ≡ number.0 → o.name ≡ object_name p key
          → placed_part s o.name (InTable x.number) ≡ Some w
      placed_is x same named =
          let object : w.piece.object ≡ o.name = ap (λ (z : Piece). z.object) at.piece_is ∙ name ∙ sym named in
          let index : x.number ≡ number = ap (λ n. let k : SectionIndex = record { 0 = n } in k) same in
          ap (λ n. placed_part s o.name (InTable n)) index
          ∙ ap (λ n. placed_part s n (InTable number)) (sym object)
          ∙ ap (λ n. placed_part s w.piece.object n) (sym (part_is (InTable number) part))
          ∙ at.found

-- the object of a key
pub record There (p : Project) (key : ℕ) (ob : ObjectData) : Type 0 where
  pub object : NamedObject
  pub at : slice_get p.objects key ≡ Some object
  pub is : object.object ≡ ob
  pub name : object.name ≡ object_name p key

there_in : (p : Project) (key : ℕ) (ob : ObjectData) (a : Option NamedObject) → slice_get p.objects key ≡ a
    → Some ob ≡ option_map (λ (o : NamedObject). o.object) a → There p key ob
there_in p key ob None e h = absurd (let none : ⊥ = cc in none)
there_in p key ob (Some o) e h = record {
  object = o;
  at = e;
  is = sym (same_Some _ _ h);
  name = sym (ap (λ a. option_map_or (λ (x : NamedObject). x.name) a []) e);
}

pub there_is : (p : Project) (key : ℕ) (ob : ObjectData)
    → Some ob ≡ option_map (λ (o : NamedObject). o.object) (slice_get p.objects key) → There p key ob
there_is p key ob h = there_in p key ob (slice_get p.objects key) refl h

none_numbered : (n : ℕ) (xs : List LinkedSection) → All (λ s. s.number.0 ≡ n → ⊥) (map section_of xs)
    → find (λ (x : LinkedSection). x.number.0 == n) xs ≡ None
none_numbered n [] h = refl
none_numbered n (x ∷ xs) h =
    let other : (x.number.0 == n) ≡ false =
    false_from_ne_true (x.number.0 == n) (λ t. absurd (h 0 (section_of x) (omega arith) (eqb-true x.number.0 n t))) in
    ap (λ b. cond b (Some x) (find (λ (y : LinkedSection). y.number.0 == n) xs)) other
    ∙ none_numbered n xs (λ k d l. h (suc k) d (omega (arith, l)))

pub numbered_none : (o : NamedObject) (number : SectionIndex) (ob : ObjectData) → o.object ≡ ob
    → All (λ s. s.number.0 ≡ number.0 → ⊥) (map section_of ob.sections) → section_numbered o number ≡ None
numbered_none o number ob same h =
    ap (λ (b : ObjectData). find (λ (x : LinkedSection). x.number.0 == number.0) b.sections) same
    ∙ none_numbered number.0 ob.sections h

-- the section of a number
pub record Numbered (ob : ObjectData) (number : SectionIndex) (i : ℕ) : Type 0 where
  pub section : LinkedSection
  pub at : slice_get ob.sections i ≡ Some section
  pub is : section.number.0 ≡ number.0

numbered_in : (ob : ObjectData) (number : SectionIndex) (i : ℕ) (a : Option LinkedSection) → slice_get ob.sections i ≡ a
    → IsNumberedAt (map section_of ob.sections) number i → Numbered ob number i
numbered_in ob number i None e h =
    let long : length (map section_of ob.sections) ≡ length ob.sections = length-map ob.sections section_of in
    let within : i < length ob.sections = omega (arith, h.within, long) in
    absurd (none_past ob.sections i within e)
  where
    none_past : (xs : List LinkedSection) (k : ℕ) → k < length xs → slice_get xs k ≡ None → ⊥
    none_past [] k l f = omega (arith, l)
    none_past (y ∷ ys) zero l f = let none : ⊥ = cc in none
    none_past (y ∷ ys) (suc k) l f = none_past ys k (omega (arith, l)) f
numbered_in ob number i (Some x) e h = record {
  section = x;
  at = e;
  is = sym (ap (λ (z : Section). z.number.0) (section_is ob i x (section_of x) e)) ∙ h.number_is (section_of x);
} where
  section_is : (b : ObjectData) (k : ℕ) (y : LinkedSection) (d : Section) → slice_get b.sections k ≡ Some y
      → get_or (map section_of b.sections) k d ≡ section_of y
  section_is b k y d f =
      get_or_from_slice_get (map section_of b.sections) k (section_of y) d
      (slice_get-map section_of b.sections k ∙ ap (option_map section_of) f)

pub numbered_at : (ob : ObjectData) (number : SectionIndex) (i : ℕ) → IsNumberedAt (map section_of ob.sections) number i
    → Numbered ob number i
numbered_at ob number i h = numbered_in ob number i (slice_get ob.sections i) refl h

-- the section at an index has the number that was read there
pub numbered_near : (xs : List LinkedSection) (sections : List Section) (number : SectionIndex) (i : ℕ) (s : Section)
    → sections ≡ map section_of xs → i < length sections → s ≡ get_or sections i s → s.number.0 ≡ number.0
    → IsNumberedAt (map section_of xs) number i
numbered_near xs sections number i s e h is n =
    let whole = ap (λ (ss : List Section). length ss) e in
    record {
      within = omega (arith, h, whole);
      number_is = λ d. ap (λ (ss : List Section). (get_or ss i d).number.0) (sym e)
          ∙ ap (λ (t : Section). t.number.0) (get_or_default sections i d s h)
          ∙ ap (λ (t : Section). t.number.0) (sym is) ∙ n;
    }

pub numbered_is : (o : NamedObject) (number : SectionIndex) (i : ℕ) (x : LinkedSection) → HaveNumbers o.object
    → slice_get o.object.sections i ≡ Some x → x.number.0 ≡ number.0 → section_numbered o number ≡ Some x
numbered_is o number i x differ at same =
    ap (λ n. find (λ (y : LinkedSection). y.number.0 == n) o.object.sections) (sym same)
    ∙ find_at (λ (y z : LinkedSection). y.number.0 == z.number.0) (λ y. eq-eqb y.number.0 y.number.0 refl)
    o.object.sections differ i x at

-- ---- rows

-- the key of a section, by its number
pub not_stayed : (r : rows.Piece) (number : SectionIndex) (x : LinkedSection) (stays : SectionRef → Bool)
    → r.section.part ≡ InTable number → x.number.0 ≡ number.0 → stays r.section ≡ false
    → stays (record { object = r.section.object; part = InTable x.number }) ≡ false
not_stayed r number x stays part same new =
    let key : Part → SectionRef = λ q. record { object = r.section.object; part = q } in
    let index : x.number ≡ number = ap (λ n. let k : SectionIndex = record { 0 = n } in k) same in
    ap (λ n. stays (key (InTable n))) index ∙ ap (λ q. stays (key q)) (sym part) ∙ new

-- one that is drawn anew, whose key does not stay
pub row_drawn : (p : Project) (s : Layout) (stays : SectionRef → Bool) (x : rows.Piece) (start : ℕ) (w : PlacedPiece)
    (y : ImagePiece) → IsPlacedAt p s (piece_in p x) start w → stays x.section ≡ false → IsDrawnPiece p s w y
    → IsRowPiece p s stays w y
row_drawn p s stays x start w y at new h = record {
  piece = h.piece;
  filled = h.filled;
  kept = record {
    section = x.section;
    object = sym (ap (λ (z : Piece). z.object) at.piece_is);
    part = sym (ap (λ (z : Piece). z.part) at.piece_is);
    is = h.unstayed ∙ sym new;
  };
}

-- one that stays, whose key does
pub row_kept : (p : Project) (s : Layout) (stays : SectionRef → Bool) (x : rows.Piece) (start : ℕ) (w : PlacedPiece)
    (y : ImagePiece) → IsPlacedAt p s (piece_in p x) start w → stays x.section ≡ true → IsStayedPieceAt start x.size y
    → IsRowPiece p s stays w y
row_kept p s stays x start w y at stayed h = record {
  piece = record {
    start = h.start_is ∙ sym at.start_is;
    size = h.size_is ∙ sym (ap (λ (z : Piece). z.size) at.piece_is);
    bytes = λ e. absurd (true≢false (sym h.stays ∙ e));
  };
  filled = filled_zeros y h.bytes h.fields;
  kept = record {
    section = x.section;
    object = sym (ap (λ (z : Piece). z.object) at.piece_is);
    part = sym (ap (λ (z : Piece). z.part) at.piece_is);
    is = h.stays ∙ sym stayed;
  };
}

-- one that is empty, of which nothing is drawn
pub row_empty : (p : Project) (s : Layout) (stays : SectionRef → Bool) (x : rows.Piece) (start : ℕ) (w : PlacedPiece)
    (y : ImagePiece) → IsPlacedAt p s (piece_in p x) start w → x.size ≡ 0 → y.start ≡ start → y.size ≡ 0
    → y.bytes.now ≡ [] → y.fields.now ≡ [] → y.stays ≡ stays x.section → IsRowPiece p s stays w y
row_empty p s stays x start w y at empty begun none bytes fields same = record {
  piece = record {
    start = begun ∙ sym at.start_is;
    size = none ∙ sym (ap (λ (z : Piece). z.size) at.piece_is ∙ empty);
    bytes = λ e i l. absurd (omega (arith, l, none));
  };
  filled = filled_zeros y bytes fields;
  kept = record {
    section = x.section;
    object = sym (ap (λ (z : Piece). z.object) at.piece_is);
    part = sym (ap (λ (z : Piece). z.part) at.piece_is);
    is = same;
  };
}

pub whole_row : (p : Project) (s : Layout) (stays : SectionRef → Bool) (q : PlacedOutput) (ys : List ImagePiece)
    → AllZip (IsRowPiece p s stays) q.pieces ys → IsRow p s stays q ys
whole_row p s stays q ys z = record {
  pieces = zip_each (IsRowPiece p s stays) (IsImagePiece p s) q.pieces ys (λ w y c h. h.piece) z;
  filled = zip_right (IsRowPiece p s stays) IsFilled q.pieces ys (λ w y h. h.filled) z;
  kept = zip_each (IsRowPiece p s stays) (IsStayedByKey p stays) q.pieces ys (λ w y c h. h.kept) z;
}

member : {X : Type 0} (xs : List X) (k : ℕ) → k < length xs → (x : X) × (slice_get xs k ≡ Some x)
member [] k l = absurd (omega (arith, l))
member (x ∷ xs) zero l = (x, refl)
member (x ∷ xs) (suc k) l = member xs k (omega (arith, l))

-- input sections that are drawn as these, of which those that stay may be joined
pub record AreDrawnAs (p : Project) (s : Layout) (stays : SectionRef → Bool) (ws : List PlacedPiece)
    (ys : List ImagePiece) : Type 0 where
  pub whole : List ImagePiece
  pub pieces : AllZip (IsRowPiece p s stays) ws whole
  pub joined : StandFor whole ys

pub no_entries : (p : Project) (s : Layout) (stays : SectionRef → Bool) → AreDrawnAs p s stays [] []
no_entries p s stays = record { whole = []; pieces = tt; joined = stand_none }

-- one entry more
pub one_entry : (own p : Project) (s : Layout) (stays : SectionRef → Bool) (q : PlacedOutput) (row : List Piece)
    (starts : List ℕ) (k : ℕ)
    (piece : Piece) (start : ℕ) (old new : List ImagePiece) → IsRowAt own s row starts q
    → k < length row
    → slice_get row k ≡ Some piece → ((n : ℕ) → slice_get starts k ≡ Some n → start ≡ n)
    → ((w : PlacedPiece) (whole : List ImagePiece) → IsPlacedAt own s piece start w → StandFor whole old
    → (y : ImagePiece) × IsRowPiece p s stays w y × StandFor (whole ++ y ∷ []) new)
    → AreDrawnAs p s stays (take k q.pieces) old → AreDrawnAs p s stays (take (k + 1) q.pieces) new
one_entry own p s stays q row starts k piece start old new h l at_row at_start make so_far =
    let m = member q.pieces k (omega (arith, l, h.long)) in
    let a = member starts k (omega (arith, l, h.enough)) in
    let here : slice_get starts k ≡ Some start = a.1 ∙ ap Some (sym (at_start a.0 a.1)) in
    let more = make m.0 so_far.whole (h.each k piece start m.0 m.1 at_row here) so_far.joined in
    subst (λ ws. AreDrawnAs p s stays ws new) (sym (take_next q.pieces k m.0 m.1))
    (record {
      whole = so_far.whole ++ more.0 ∷ [];
      pieces = zip_more (IsRowPiece p s stays) (take k q.pieces) so_far.whole m.0 more.0 so_far.pieces more.1;
      joined = more.2;
    })

pub all_entries : (own p : Project) (s : Layout) (stays : SectionRef → Bool) (q : PlacedOutput) (row : List Piece)
    (starts : List ℕ) (k : ℕ)
    (ys : List ImagePiece) → IsRowAt own s row starts q → length row ≤ k
    → AreDrawnAs p s stays (take k q.pieces) ys → IsJoinedRow p s stays q ys
all_entries own p s stays q row starts k ys h past z = record {
  whole = z.whole;
  row = whole_row p s stays q z.whole
      (subst (λ ws. AllZip (IsRowPiece p s stays) ws z.whole) (take_all k q.pieces (omega (arith, past, h.long)))
      z.pieces);
  joined = z.joined;
}
