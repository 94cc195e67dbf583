-- The ranges of a link that stayed, as far as they are known, are those of its input sections that stayed.
use Rattle.relink_driver.proofs.Common.{AreInFileOrder, AreNamesDistinct, AreSymbolValues, AreValuesOf, Bool, Contains}
use Rattle.relink_driver.proofs.Common.{GoodLink, HasSomeStayed, HasStayedAt, IfSome, IndexedLayout, IsComplete}
use Rattle.relink_driver.proofs.Common.{IsIndexedLayout, IsPieceOf, IsPreviousOf, IsSome, KnownLink, LinkLayout, List}
use Rattle.relink_driver.proofs.Common.{NamedObject, None, ObjectPlace, Option, Part, PlacedOutput, PlacedPiece}
use Rattle.relink_driver.proofs.Common.{PreviousState, PreviousView, SectionAddress, SectionInFile, SectionLocation}
use Rattle.relink_driver.proofs.Common.{SectionRef, Some, ap, cond, false, false≢true, file_offset, image_length}
use Rattle.relink_driver.proofs.Common.{in_any, in_file, last_place, length, location_in, location_of, location_with}
use Rattle.relink_driver.proofs.Common.{map, max_image_length, name_of_object, named_object, nonempty, object_name}
use Rattle.relink_driver.proofs.Common.{option_and_then, option_map, previous_location, previous_of, previous_state}
use Rattle.relink_driver.proofs.Common.{range_if_same, refl, same_Some, same_location, segments, slice_get}
use Rattle.relink_driver.proofs.Common.{stayed_range, subst, sym, true, ℕ, ◌&&◌, ◌<◌, ◌==◌, ◌^◌, ◌∙◌, ◌≡◌, ◌≤◌}
use Rattle.ldmodel.specs.Stayed.{LinkedPiece, has_stayed, link_pieces, same_piece}
use Rattle.place.specs.IndexedLayout.{address_in}
use Rattle.emit.specs.relocate.PreviousLinkInfo as earlier
use Rattle.emit.specs.relocate.declared.previous_link_info.FileRange.{FileRange}
use Rattle.emit.specs.relocate.declared.value.SymbolValue.{SymbolValue}
use Rattle.relink_driver.specs.StayedSections.{address_from, previous_address, standing_from}
use Rattle.relink_driver.proofs.BytesInImage.{below_64}
use Rattle.relink_driver.proofs.StayedBySamePart as same
use Rattle.relink_driver.proofs.StayedBySamePart.{Same, alike, same_of}
use Rattle.relink_driver.proofs.TablesShowSections.{Linked, in_link, link_in, of_link, owned, shows, stood}

-- a range is known where an input section stands as it stood
record Known (before now : Option SectionLocation) (r : FileRange) : Type 0 where
  old : SectionLocation
  new : SectionLocation
  was : before ≡ Some old
  is : now ≡ Some new
  alike : same_location old new ≡ true
  range : new.range ≡ r

known : (before now : Option SectionLocation) (r : FileRange) → range_if_same before now ≡ Some r → Known before now r
known None now r e = absurd (let none : ⊥ = cc in none)
known (Some b) None r e = absurd (let none : ⊥ = cc in none)
known (Some b) (Some a) r e = go (same_location b a) refl e
  where
    go : (t : Bool) → same_location b a ≡ t → cond t (Some a.range) None ≡ Some r → Known (Some b) (Some a) r
    go true f h =
        record { old = b; new = a; was = refl; is = refl; alike = f; range = same_Some _ _ h }
    go false f h = absurd (let none : ⊥ = cc in none)

then_some : {X Y : Type 0} (f : X → Option Y) (m : Option X) (y : Y) → option_and_then f m ≡ Some y
    → (x : X) × (m ≡ Some x) × (f x ≡ Some y)
then_some f None y e = absurd (let none : ⊥ = cc in none)
then_some f (Some x) y e = (x, refl, e)

module _ (old : GoodLink) (l : KnownLink) (keys : (k : ℕ) → l.number k ≡ k)
    (names : AreNamesDistinct l.project.objects) (t : IndexedLayout)
    (indexed_layout : IsIndexedLayout l.project l.layout t) where
  named : (key : SectionRef) → name_of_object l key.object ≡ object_name l.project key.object.0
  named key = ap (object_name l.project) (keys key.object.0)

  module _ (y : PreviousState) (previous : IsPreviousOf old l.project y) (key : SectionRef) where
    abbrev at_place : ℕ → SectionRef
    at_place j = record { object = record { 0 = j }; part = key.part }

    module _ (k : ℕ) (q : PlacedOutput) (z : PlacedPiece) (at : slice_get l.layout.sections k ≡ Some q)
        (among : Contains q.pieces z) (object : z.piece.object ≡ object_name l.project key.object.0)
        (part : z.piece.part ≡ key.part) where
      abbrev x : LinkedPiece
      x = of_link l.project l.layout q z

      some : 0 < length z.piece.object
      some = (owned l.project l.layout t indexed_layout k q z at among).some

      -- ---- what is known to have stayed did

      sound_one : (r : FileRange) → Known (previous_location y key) (location_in t key) r
          → (has_stayed old x ≡ true) × (x.range ≡ earlier.range_of r)
      unfolding previous_location
      sound_one r h =
          let w = then_some (standing_from y key.part) (last_place y key.object) h.old h.was in
          let before = stood old.project old.layout y.snapshot.indexed_layout previous.table.indexed_layout
          (at_place w.0) h.old w.2 in
          let now = (shows l.project l.layout t indexed_layout key k q z at among (sym object)
          (sym part)).is h.new h.is
          in (
            same.sound old l.project y.origins previous.origins previous.table.names names key.object.0 x object refl
                some
                (of_link old.project old.layout before.section before.piece) refl w.0 w.1
                (link_in old.project old.layout before.number before.section before.piece before.at before.among)
                (sym before.object) (sym before.part ∙ sym part) h.old h.new before.is now h.alike,
            sym now.range ∙ ap earlier.range_of h.range,
          )

      -- ---- what stayed is known to have stayed

      module _ (short : image_length l.project l.layout ≤ max_image_length)
          (order : AreInFileOrder (segments l.layout.sections))
          (all : map (λ (v : SectionInFile). v.section) (in_file (segments l.layout.sections))
          ≡ nonempty l.layout.sections)
          (offset_is : (v : SectionInFile) → Contains (in_file (segments l.layout.sections)) v
          → file_offset (segments l.layout.sections) v.section ≡ v.offset) where
        low : x.range.offset < 2 ^ 64
        low = below_64 l.project l.layout indexed_layout.apart.spread indexed_layout.link_layout.named order all
            offset_is k q z at
            among short

        module _ (w : LinkedPiece) (there : Linked (of_link old.project old.layout) old.layout.sections w)
            (is_same : Same x w) where
          abbrev v : LinkedPiece
          v = of_link old.project old.layout there.section there.piece

          same_v : Same x v
          same_v = subst (Same x) (sym there.is) is_same

          stands : (m : Option ℕ) → last_place y key.object ≡ m
              → option_and_then (standing_from y key.part) m ≡ previous_location y key
              → range_if_same (previous_location y key) (location_in t key) ≡ None → ⊥
          stands None e g h =
              let o = owned old.project old.layout y.snapshot.indexed_layout previous.table.indexed_layout
              there.number there.section there.piece there.at there.among in
              same.not_fresh old l.project y.origins previous.origins previous.table.names names key.object.0 x object
              refl
              some v
              refl same_v o.object o.among o.is e
          stands (Some j) e g h =
              let name =
              same.old_name old l.project y.origins previous.origins previous.table.names names key.object.0 x object
              refl
              some v
              refl same_v j e in
              let was = shows old.project old.layout y.snapshot.indexed_layout previous.table.indexed_layout
              (at_place j) there.number there.section there.piece there.at there.among name (sym part ∙ same_v.part) in
              let now = shows l.project l.layout t indexed_layout key k q z at among (sym object) (sym part) in
              let b = was.some (subst (λ n. n < 2 ^ 64) same_v.offset low) in
              let a = now.some low in
              let kept : range_if_same (previous_location y key) (location_in t key) ≡ Some (a.0).range =
              ap (λ m. range_if_same m (location_in t key)) (sym g ∙ b.1) ∙ ap (range_if_same (Some b.0)) a.1
              ∙ ap (λ c. cond c (Some (a.0).range) None)
              (alike x v b.0 a.0 same_v (was.is b.0 b.1) (now.is a.0 a.1)) in
              let never : None ≡ Some (a.0).range = sym h ∙ kept in
              absurd (let none : ⊥ = cc in none)

        complete_one : range_if_same (previous_location y key) (location_in t key) ≡ None → has_stayed old x ≡ false
        unfolding previous_location
        complete_one h = go (has_stayed old x) refl
          where
            go : (b : Bool) → has_stayed old x ≡ b → b ≡ false
            go false e = refl
            go true e =
                let found = in_any (same_piece x) (link_pieces old) e in
                absurd (stands found.member (in_link old.project old.layout found.member found.among)
                (same_of x found.member found.passes) (last_place y key.object) refl refl h)

  pub sound : (m : Option PreviousState) → IfSome m (IsPreviousOf old l.project) → (key : SectionRef) (r : FileRange)
      → stayed_range m t key ≡ Some r → HasStayedAt old l key r
  unfolding stayed_range
  sound None h key r e = absurd (let none : ⊥ = cc in none)
  sound (Some y) previous key r e = λ x piece.
      let there = in_link l.project l.layout x piece.among in
      subst (λ (v : LinkedPiece). (has_stayed old v ≡ true) × (v.range ≡ earlier.range_of r)) there.is
      (sound_one y previous key there.number there.section there.piece there.at there.among
      (ap (λ (v : LinkedPiece). v.object) there.is ∙ piece.object_is ∙ named key)
      (ap (λ (v : LinkedPiece). v.part) there.is ∙ piece.part_is) r
      (known (previous_location y key) (location_in t key) r e))

  pub complete : (y : PreviousState) → IsPreviousOf old l.project y → image_length l.project l.layout ≤ max_image_length
      → AreInFileOrder (segments l.layout.sections)
      → map (λ (v : SectionInFile). v.section) (in_file (segments l.layout.sections)) ≡ nonempty l.layout.sections
      → ((v : SectionInFile) → Contains (in_file (segments l.layout.sections)) v
      → file_offset (segments l.layout.sections) v.section ≡ v.offset)
      → (key : SectionRef) (x : LinkedPiece) → stayed_range (Some y) t key ≡ None → IsPieceOf l key x
      → has_stayed old x ≡ false
  unfolding stayed_range
  complete y previous short order all offset_is key x e piece =
      let there = in_link l.project l.layout x piece.among in
      subst (λ (v : LinkedPiece). has_stayed old v ≡ false) there.is
      (complete_one y previous key there.number there.section there.piece there.at there.among
      (ap (λ (v : LinkedPiece). v.object) there.is ∙ piece.object_is ∙ named key)
      (ap (λ (v : LinkedPiece). v.part) there.is ∙ piece.part_is) short order all offset_is e)

  pub complete_or_none : (m : Option PreviousView) → IsSome m → IfSome (previous_of m) (IsPreviousOf old l.project)
      → image_length l.project l.layout ≤ max_image_length → AreInFileOrder (segments l.layout.sections)
      → map (λ (v : SectionInFile). v.section) (in_file (segments l.layout.sections)) ≡ nonempty l.layout.sections
      → ((v : SectionInFile) → Contains (in_file (segments l.layout.sections)) v
      → file_offset (segments l.layout.sections) v.section ≡ v.offset)
      → IsComplete (stayed_range (previous_of m) t) old l
  complete_or_none None is previous short order all offset_is = absurd (false≢true is)
  complete_or_none (Some y) is previous short order all offset_is = complete
      (previous_state y) previous short order all offset_is

-- a section that is known to have stayed has, if each range that is known says so
pub if_known : (old : GoodLink) (l : KnownLink) (key : SectionRef) (known : Option FileRange)
    → ((r : FileRange) → known ≡ Some r → HasStayedAt old l key r) → IfSome known (HasStayedAt old l key)
if_known old l key None h = tt
if_known old l key (Some r) h = h r refl

pub none_known : (m : Option PreviousState) (t : IndexedLayout) (key : SectionRef) → m ≡ None
    → stayed_range m t key ≡ None
unfolding stayed_range
none_known m t key e = ap (λ n. stayed_range n t key) e

-- ---- case by case, as the code finds them

kept_none : (x : Option SectionLocation) → None ≡ range_if_same x None
kept_none None = refl
kept_none (Some b) = refl

-- what stood at another address did not stay
pub elsewhere : (b a : SectionAddress) → (b.start == a.start) ≡ false → (x y : Option FileRange)
    → None ≡ range_if_same (option_map (location_with b) x) (option_map (location_with a) y)
elsewhere b a e None y = refl
elsewhere b a e (Some r) None = refl
elsewhere b a e (Some r) (Some s) =
    ap (λ c. cond (c && ((b.size == a.size) && ((r.offset == s.offset) && (r.length == s.length)))) (Some s) None)
    (sym e)

module _ (m : Option PreviousView) (y : PreviousView) (last_is : m ≡ Some y) (t : IndexedLayout)
    (key : SectionRef) where
  abbrev was : LinkLayout
  was = y.snapshot.now.indexed_layout.link_layout

  before_is : (p : Option ℕ) → option_and_then (standing_from (previous_state y) key.part) p
      ≡ option_and_then (location_of was) (option_and_then (address_from (previous_state y) key.part) p)
  unfolding location_in
  before_is None = refl
  before_is (Some i) = refl

  kept_is : stayed_range (previous_of m) t key
      ≡ range_if_same (option_and_then (location_of was) (previous_address (previous_state y) key))
      (option_and_then (location_of t.link_layout) (address_in t key))
  unfolding stayed_range previous_location location_in
  kept_is =
      ap (λ n. stayed_range (previous_of n) t key) last_is
      ∙ ap (λ b. range_if_same b (location_in t key)) (before_is (last_place (previous_state y) key.object))

  pub none_before : None ≡ previous_address (previous_state y) key → None ≡ stayed_range (previous_of m) t key
  none_before e =
      ap (λ b. range_if_same (option_and_then (location_of was) b)
      (option_and_then (location_of t.link_layout) (address_in t key)))
      e
      ∙ sym kept_is

  module _ (b : SectionAddress) (before : Some b ≡ previous_address (previous_state y) key) where
    known_before : range_if_same (location_of was b) (option_and_then (location_of t.link_layout) (address_in t key))
        ≡ stayed_range (previous_of m) t key
    known_before =
        ap (λ c. range_if_same (option_and_then (location_of was) c)
        (option_and_then (location_of t.link_layout) (address_in t key))) before
        ∙ sym kept_is

    pub none_now : None ≡ address_in t key → None ≡ stayed_range (previous_of m) t key
    none_now e =
        kept_none (location_of was b)
        ∙ ap (λ c. range_if_same (location_of was b) (option_and_then (location_of t.link_layout) c)) e
        ∙ known_before

    pub both : (a : SectionAddress) → Some a ≡ address_in t key
        → range_if_same (location_of was b) (location_of t.link_layout a) ≡ stayed_range (previous_of m) t key
    both a e =
        ap (λ c. range_if_same (location_of was b) (option_and_then (location_of t.link_layout) c)) e ∙ known_before

-- ---- what symbols were worth

pub not_kept : (m : Option PreviousState) (t : IndexedLayout) (object : ObjectPlace) → m ≡ None
    → HasSomeStayed (stayed_range m t) object → ⊥
not_kept m t object e kept =
    false≢true (subst IsSome (none_known m t (record { object = object; part = kept.0 }) e) kept.1)

-- an object of which a section is known to have stayed stood in the previous link
module _ (t : IndexedLayout) (y : PreviousState) (object : ObjectPlace) where
  stood_at : (p : Option ℕ) → last_place y object ≡ p → (part : Part)
      → IsSome (stayed_range (Some y) t (record { object = object; part = part }))
      → (from : ℕ) × (last_place y object ≡ Some from)
  unfolding stayed_range previous_location
  stood_at None e part kept =
      let gone : previous_location y (record { object = object; part = part }) ≡ None =
      ap (option_and_then (standing_from y part)) e in
      absurd (false≢true (subst IsSome
      (ap (λ b. range_if_same b (location_in t (record { object = object; part = part }))) gone) kept))
  stood_at (Some j) e part kept = (j, e)

-- the values of its symbols there, by those of the object at that place
pub were_worth : (old : GoodLink) (l : KnownLink) → ((k : ℕ) → l.number k ≡ k) → (t : IndexedLayout)
    (m : Option PreviousView) (y : PreviousView) → m ≡ Some y → IfSome (previous_of m) (IsPreviousOf old l.project)
    → (object : ObjectPlace) (o : NamedObject) → named_object l object ≡ Some o
    → HasSomeStayed (stayed_range (previous_of m) t) object → (row : List SymbolValue)
    → ((from : ℕ) → last_place (previous_state y) object ≡ Some from
    → AreSymbolValues old.project old.layout y.snapshot.now.symbols → slice_get old.project.objects from ≡ Some o
    → AreValuesOf old.project old.layout o row)
    → AreValuesOf old.project old.layout o row
were_worth old l keys t m y e previous object o named kept row worth =
    let known : IsPreviousOf old l.project (previous_state y) =
    subst (λ n. IfSome (previous_of n) (IsPreviousOf old l.project)) e previous in
    let kept_there : HasSomeStayed (stayed_range (Some (previous_state y)) t) object =
    subst (λ n. HasSomeStayed (stayed_range (previous_of n) t) object) e kept in
    let at = stood_at t (previous_state y) object (last_place (previous_state y) object) refl kept_there.0
    kept_there.1 in
    worth at.0 at.1 known.table.symbols
    (sym (known.origins.same object.0 at.0 at.1) ∙ ap (slice_get l.project.objects) (sym (keys object.0)) ∙ named)
