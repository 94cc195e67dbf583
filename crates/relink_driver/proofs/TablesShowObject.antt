-- Where the sections of an object stand in a link, as the tables of the link show it.
use Rattle.relink_driver.proofs.Common.{All, AllPairs, AreInFileOrder, Bool, Contains, Each, EachLater}
use Rattle.relink_driver.proofs.Common.{HasLocatedSections, InTable, IndexedLayout, IsIndexedLayout, IsLocatedSection}
use Rattle.relink_driver.proofs.Common.{Layout, LinkedSection, List, LocatedSection, NamedObject, None, ObjectPlace}
use Rattle.relink_driver.proofs.Common.{Option, PlacedPiece, Project, Section, SectionInFile, SectionLocation}
use Rattle.relink_driver.proofs.Common.{SectionRef, Some, [], add-one, and_from, and_parts, ap, arith, bytes_eq}
use Rattle.relink_driver.proofs.Common.{bytes_eq-Decides, bytes_of, bytes_of_object, cases_lt, file_offset, find, here}
use Rattle.relink_driver.proofs.Common.{image_length, in_file, inl, inr, is_linked_part, is_part, is_same_part, key_of}
use Rattle.relink_driver.proofs.Common.{length, length-map, location_in, map, max_image_length, new_link, nonempty}
use Rattle.relink_driver.proofs.Common.{object_name, option_and_then, option_map, option_map_or, option_to_list}
use Rattle.relink_driver.proofs.Common.{own_bytes, placed_part, refl, same_Some, section_of, segments, slice_get}
use Rattle.relink_driver.proofs.Common.{slice_get-get_or, slice_get-map, slice_get_within, slice_index_or, spot_at}
use Rattle.relink_driver.proofs.Common.{spot_of, spot_with, spots_below, subst, suc, sum_by, sum_by-append, sum_by-cons}
use Rattle.relink_driver.proofs.Common.{sym, take, take_all, true, zero, ℕ, ◌++◌, ◌+◌, ◌<◌, ◌∙◌, ◌∷◌, ◌≡◌, ◌≤◌, ◌⊎◌}
use Rattle.std.proofs.lemmas.List.Elements.{All-cons, All-nil, Contains-append_left, Contains-append_right}
use Rattle.std.proofs.lemmas.List.Kept.{AllPairs-cons}
use Rattle.elfobj.specs.Profile.{size_in_file}
use Rattle.ldmodel.specs.Stayed as model
use Rattle.ldmodel.specs.Stayed.{LinkedPiece, linked_pieces}
use Rattle.ldmodel.specs.SymbolValues.{placed_pieces}
use Rattle.place.proofs.Members.{find_in}
use Rattle.relink_driver.proofs.BytesInImage.{below_64}
use Rattle.relink_driver.proofs.StayedBySamePart.{IsAt, same_part}
use Rattle.relink_driver.proofs.SectionsStandOnce.{found, in_pieces, own_part}
use Rattle.relink_driver.proofs.TablesShowSections.{in_link, link_in, of_link, shows, stood}
use Rattle.relink_driver.proofs.SitesOfOverwritten.{find_got, found_some}
use Rattle.ldmodel_laws.proofs.EachOf.{each_append}

-- ---- lists that are made number by number

each_later_pairs : {X : Type 0} (R : X → X → Type 0) (xs : List X) → EachLater R xs → AllPairs R xs
each_later_pairs R [] h = λ i j d less within. absurd (omega (arith, within))
each_later_pairs R (x ∷ xs) h =
    AllPairs-cons R x xs (all_of_each (R x) xs h.0) (each_later_pairs R xs h.1)
  where
    all_of_each : {X : Type 0} (P : X → Type 0) (xs : List X) → Each P xs → All P xs
    all_of_each P [] h = All-nil P
    all_of_each P (x ∷ xs) h = All-cons P x xs h.0 (all_of_each P xs h.1)

all_each : {X : Type 0} (P : X → Type 0) (xs : List X) → Each P xs → All P xs
all_each P [] h = All-nil P
all_each P (x ∷ xs) h = All-cons P x xs h.0 (all_each P xs h.1)

imply_each : {X : Type 0} (P Q : X → Type 0) → ((x : X) → P x → Q x) → (xs : List X) → Each P xs → Each Q xs
imply_each P Q f [] h = tt
imply_each P Q f (x ∷ xs) h = (f x h.0, imply_each P Q f xs h.1)

later_back : {X : Type 0} (R : X → X → Type 0) (xs : List X) (m : Option X) → EachLater R xs
    → ((y : X) → m ≡ Some y → Each (λ x. R x y) xs) → EachLater R (xs ++ option_to_list m)
later_back R [] None h k = tt
later_back R [] (Some y) h k = (tt, tt)
later_back R (x ∷ xs) None h k =
    (each_append (R x) xs [] h.0 tt, later_back R xs None h.1 (λ y e. (k y e).1))
later_back R (x ∷ xs) (Some y) h k =
    (each_append (R x) xs (y ∷ []) h.0 ((k y refl).0, tt), later_back R xs (Some y) h.1 (λ z e. (k z e).1))

module _ {T : Type 0} (f : ℕ → Option T) (index : T → ℕ) (own : (n : ℕ) (x : T) → f n ≡ Some x → index x ≡ n) where
  abbrev made : ℕ → List T
  made zero = []
  made (suc n) = made n ++ option_to_list (f n)

  each_made : (P : T → Type 0) → ((n : ℕ) (x : T) → f n ≡ Some x → P x) → (n : ℕ) → Each P (made n)
  each_made P h zero = tt
  each_made P h (suc n) = each_append P (made n) (option_to_list (f n)) (each_made P h n) (go (f n) refl)
    where
      go : (m : Option T) → f n ≡ m → Each P (option_to_list m)
      go None e = tt
      go (Some x) e = (h n x e, tt)

  before : (n : ℕ) → Each (λ x. index x < n) (made n)
  before zero = tt
  before (suc n) =
      each_append (λ x. index x < suc n) (made n) (option_to_list (f n))
      (imply_each (λ x. index x < n) (λ x. index x < suc n) (λ x less. omega (arith, less)) (made n) (before n))
      (go (f n) refl)
    where
      go : (m : Option T) → f n ≡ m → Each (λ x. index x < suc n) (option_to_list m)
      go None e = tt
      go (Some x) e = (let same = own n x e in omega (arith, same), tt)

  ascending : (n : ℕ) → EachLater (λ x y. index x < index y) (made n)
  ascending zero = tt
  ascending (suc n) =
      later_back (λ x y. index x < index y) (made n) (f n) (ascending n) (λ y e.
      imply_each (λ x. index x < n) (λ x. index x < index y)
      (λ x less. (let same = own n y e in omega (arith, less, same)))
      (made n) (before n))

  has_made : (n k : ℕ) (x : T) → k < n → f k ≡ Some x → Contains (made n) x
  has_made zero k x less e = absurd (omega (arith, less))
  has_made (suc n) k x less e = go (cases_lt k n) (λ earlier. has_made n k x earlier e)
    where
      go : (k < n) ⊎ (n ≤ k) → (k < n → Contains (made n) x) → Contains (made (suc n)) x
      go (inl earlier) rest = Contains-append_left (made n) (option_to_list (f n)) x (rest earlier)
      go (inr previous) rest =
          let same : n ≡ k = omega (arith, less, previous) in
          Contains-append_right (made n) (option_to_list (f n)) x
          (subst (λ m. Contains (option_to_list m) x) (sym (ap f same ∙ e)) (here x []))

  -- sums over them
  sum_made : {Z : Type 0} (g : T → ℕ) (h : Z → ℕ) (zs : List Z)
      → ((k : ℕ) (z : Z) → slice_get zs k ≡ Some z → sum_by g (option_to_list (f k)) ≡ h z)
      → (n : ℕ) → n ≤ length zs → sum_by g (made n) ≡ sum_by h (take n zs)
  sum_made g h zs one zero within = refl
  sum_made {Z} g h zs one (suc n) within =
      let z = there zs n (omega (arith, within)) in
      let a = sum_by-append g (made n) (option_to_list (f n)) in
      let b = sum_made g h zs one n (omega (arith, within)) in
      let c = one n z.0 z.1 in
      let d = sum_by-append h (take n zs) (z.0 ∷ []) in
      let e = sum_by-cons h z.0 [] in
      let more = ap (sum_by h) (take_more zs n z.0 z.1) in
      omega (arith, a, b, c, d, e, more)
    where
      there : (xs : List Z) (k : ℕ) → k < length xs → (x : Z) × (slice_get xs k ≡ Some x)
      there [] k less = absurd (omega (arith, less))
      there (x ∷ xs) zero less = (x, refl)
      there (x ∷ xs) (suc k) less = there xs k (omega (arith, less))

      take_more : (xs : List Z) (k : ℕ) (x : Z) → slice_get xs k ≡ Some x → take (suc k) xs ≡ take k xs ++ x ∷ []
      take_more [] k x e = absurd (let none : ⊥ = cc in none)
      take_more (y ∷ ys) zero x e = ap (λ z. z ∷ []) (same_Some _ _ e)
      take_more (y ∷ ys) (suc k) x e = ap (λ l. y ∷ l) (take_more ys k x e)

-- one more section
pub one_more_spot : (t : IndexedLayout) (place : ObjectPlace) (xs us : List Section) (n : ℕ) (d : Section)
    (m : Option SectionLocation) → us ≡ xs → n < length us → m ≡ location_in t (key_of place (slice_index_or us n d))
    → spots_below t place xs (n + 1) ≡ spots_below t place xs n ++ option_to_list (option_map (spot_with n) m)
one_more_spot t place xs us n d m is less stands =
    let at : slice_get xs n ≡ Some (slice_index_or us n d) =
    ap (λ l. slice_get l n) (sym is) ∙ slice_get-get_or us n d less in
    ap (spots_below t place xs) (add-one n)
    ∙ ap (λ o. spots_below t place xs n ++ spot_of t place n o) at
    ∙ ap (λ o. spots_below t place xs n ++ option_to_list (option_map (spot_with n) o)) (sym stands)

-- ---- the sections of an object

module _ (p : Project) (s : Layout) (t : IndexedLayout) (indexed_layout : IsIndexedLayout p s t) (place : ObjectPlace)
    (o : NamedObject)
    (at : slice_get p.objects place.0 ≡ Some o) where
  name_is : object_name p place.0 ≡ o.name
  name_is = ap (λ m. option_map_or (λ (o : NamedObject). o.name) m []) at

  abbrev key : LinkedSection → SectionRef
  key x = key_of place (section_of x)

  abbrev listed : List Section
  listed = map section_of o.object.sections

  abbrev found_spot : ℕ → Option LocatedSection
  found_spot n = option_and_then (spot_at t place n) (slice_get listed n)

  abbrev spot_number : LocatedSection → ℕ
  spot_number y = y.index.0

  -- the section that a spot is of
  record Of (n : ℕ) (y : LocatedSection) : Type 0 where
    section : LinkedSection
    there : slice_get o.object.sections n ≡ Some section
    section_location : SectionLocation
    stands : location_in t (key section) ≡ Some section_location
    is : spot_with n section_location ≡ y

  of : (n : ℕ) (y : LocatedSection) → found_spot n ≡ Some y → Of n y
  of n y e = go (slice_get o.object.sections n) refl
    where
      go : (m : Option LinkedSection) → slice_get o.object.sections n ≡ m → Of n y
      go None f =
          let none : None ≡ Some y =
          sym (ap (option_and_then (spot_at t place n))
          (slice_get-map section_of o.object.sections n ∙ ap (option_map section_of) f)) ∙ e in
          absurd (let never : ⊥ = cc in never)
      go (Some x) f = at_key (location_in t (key x)) refl
          (sym (ap (option_and_then (spot_at t place n))
          (slice_get-map section_of o.object.sections n ∙ ap (option_map section_of) f)) ∙ e)
        where
          at_key : (m : Option SectionLocation) → location_in t (key x) ≡ m
              → option_map (spot_with n) (location_in t (key x)) ≡ Some y
              → Of n y
          at_key None g h =
              let none : None ≡ Some y = sym (ap (option_map (spot_with n)) g) ∙ h in
              absurd (let never : ⊥ = cc in never)
          at_key (Some a) g h = record {
            section = x;
            there = f;
            section_location = a;
            stands = g;
            is = same_Some _ _ (sym (ap (option_map (spot_with n)) g) ∙ h);
          }

  own_number : (n : ℕ) (y : LocatedSection) → found_spot n ≡ Some y → spot_number y ≡ n
  own_number n y e = sym (ap spot_number (of n y e).is)

  -- where it stands
  standing_is : (x : LinkedSection) (a : SectionLocation) → location_in t (key x) ≡ Some a → (v : LinkedPiece)
      → Contains (linked_pieces p s) v → v.object ≡ o.name → v.part ≡ InTable x.number → IsAt v a
  standing_is x a e v c object part =
      let there = in_link p s v c in
      subst (λ w. IsAt w a) there.is
      ((shows p s t indexed_layout (key x) there.number there.section there.piece there.at there.among
      (name_is ∙ sym object ∙ sym (ap (λ (w : LinkedPiece). w.object) there.is))
      (sym part ∙ sym (ap (λ (w : LinkedPiece). w.part) there.is))).is a e)

  is_spot : (n : ℕ) (y : LocatedSection) → found_spot n ≡ Some y → IsLocatedSection p s o y
  is_spot n y e =
      let k = of n y e in
      let w = stood p s t indexed_layout (key k.section) k.section_location k.stands in
      subst (IsLocatedSection p s o) k.is (record {
        section = k.section;
        piece = w.piece;
        section_is = k.there;
        placed = ap (λ m. placed_part s m (InTable k.section.number)) (sym name_is ∙ w.object)
            ∙ ap (λ m. placed_part s w.piece.piece.object m) w.part
            ∙ found s indexed_layout.apart.once w.number w.section w.piece w.at w.among;
        stands = λ v c object part.
            let is = standing_is k.section k.section_location k.stands v c object part in
            (sym is.start, sym is.range);
      })

  module _ (short : image_length p s ≤ max_image_length) (order : AreInFileOrder (segments s.sections))
      (all : map (λ (v : SectionInFile). v.section) (in_file (segments s.sections)) ≡ nonempty s.sections)
      (offset_is : (v : SectionInFile) → Contains (in_file (segments s.sections)) v
      → file_offset (segments s.sections) v.section ≡ v.offset) where
    -- a section in the output stands somewhere by the tables
    has_standing : (x : LinkedSection) (y : PlacedPiece) → placed_part s o.name (InTable x.number) ≡ Some y
        → (a : SectionLocation) × (location_in t (key x) ≡ Some a)
    has_standing x y e =
        let in_it = find_in (is_part o.name (InTable x.number)) (placed_pieces s) y e in
        let both = and_parts _ _ in_it.1 in
        let k = in_pieces s.sections y in_it.0 in
        (shows p s t indexed_layout (key x) k.number k.section y k.at k.among
        (name_is ∙ sym ((bytes_eq-Decides y.piece.object o.name).0 both.0))
        (sym (same_part y.piece.part (InTable x.number) both.1))).some
        (below_64 p s indexed_layout.apart.spread indexed_layout.link_layout.named order all offset_is k.number
        k.section y k.at
        k.among short)

    spot_there : (j : ℕ) (x : LinkedSection) (y : PlacedPiece) → slice_get o.object.sections j ≡ Some x
        → placed_part s o.name (InTable x.number) ≡ Some y → (u : LocatedSection) × (found_spot j ≡ Some u)
    spot_there j x y e placed =
        let a = has_standing x y placed in (
          spot_with j a.0,
          ap (option_and_then (spot_at t place j))
              (slice_get-map section_of o.object.sections j ∙ ap (option_map section_of) e)
              ∙ ap (option_map (spot_with j)) a.1,
        )

    abbrev located : ℕ → List LocatedSection
    located = made found_spot spot_number own_number

    spots_are : (n : ℕ) → spots_below t place listed n ≡ located n
    spots_are zero = refl
    spots_are (suc n) = ap (λ l. l ++ spot_of t place n (slice_get listed n)) (spots_are n)

    many : length listed ≡ length o.object.sections
    many = length-map o.object.sections section_of

    pub has_spots : HasLocatedSections p s o (spots_below t place listed (length o.object.sections))
    has_spots = subst (HasLocatedSections p s o) (sym (spots_are (length o.object.sections))) (record {
      each = all_each (IsLocatedSection p s o) (located (length o.object.sections))
          (each_made found_spot spot_number own_number (IsLocatedSection p s o) is_spot (length o.object.sections));
      ascending = each_later_pairs (λ (a b : LocatedSection). a.index.0 < b.index.0)
          (located (length o.object.sections))
          (ascending found_spot spot_number own_number (length o.object.sections));
      all = λ j x y e placed.
          let u = spot_there j x y e placed in (
            u.0,
            has_made found_spot spot_number own_number (length o.object.sections) j u.0
                (let within = slice_get_within o.object.sections j x e in omega (arith, within, many)) u.1,
            own_number j u.0 u.1,
          );
    })

    -- a sum over them is one over the sections
    pub sum_spots : (g : LocatedSection → ℕ) (h : LinkedSection → ℕ)
        → ((k : ℕ) (x : LinkedSection) → slice_get o.object.sections k ≡ Some x
        → sum_by g (option_to_list (found_spot k)) ≡ h x)
        → sum_by g (spots_below t place listed (length o.object.sections)) ≡ sum_by h o.object.sections
    sum_spots g h one =
        ap (sum_by g) (spots_are (length o.object.sections))
        ∙ sum_made found_spot spot_number own_number g h o.object.sections one (length o.object.sections) (omega arith)
        ∙ ap (sum_by h) (take_all (length o.object.sections) o.object.sections (omega arith))

    -- ---- their bytes

    abbrev is_mine : LinkedSection → LinkedPiece → Bool
    is_mine x v = is_linked_part o.name (InTable x.number) v

    mine : (x : LinkedSection) (v : LinkedPiece) → is_mine x v ≡ true → (v.object ≡ o.name) ×
        (v.part ≡ InTable x.number)
    mine x v e =
        let both = and_parts (bytes_eq v.object o.name) (is_same_part v.part (InTable x.number)) e in
        ((bytes_eq-Decides v.object o.name).0 both.0, same_part v.part (InTable x.number) both.1)

    -- what stands nowhere by the tables is not in the output
    not_linked : (x : LinkedSection) → location_in t (key x) ≡ None → find (is_mine x) (linked_pieces p s) ≡ None
    not_linked x e = go (find (is_mine x) (linked_pieces p s)) refl
      where
        go : (m : Option LinkedPiece) → find (is_mine x) (linked_pieces p s) ≡ m → m ≡ None
        go None f = refl
        go (Some v) f =
            let there = find_got (is_mine x) (linked_pieces p s) v f in
            let of = mine x v there.1 in
            let k = in_link p s v there.0 in
            let w = (shows p s t indexed_layout (key x) k.number k.section k.piece k.at k.among
            (name_is ∙ sym of.0 ∙ sym (ap (λ (w : LinkedPiece). w.object) k.is))
            (sym of.1 ∙ sym (ap (λ (w : LinkedPiece). w.part) k.is))).some
            (below_64 p s indexed_layout.apart.spread indexed_layout.link_layout.named order all offset_is k.number
            k.section
            k.piece k.at
            k.among short) in
            let none : None ≡ Some w.0 = sym e ∙ w.1 in
            absurd (let never : ⊥ = cc in never)

    -- what stands somewhere is
    linked_there : (x : LinkedSection) (a : SectionLocation) → location_in t (key x) ≡ Some a
        → (v : LinkedPiece) × (find (is_mine x) (linked_pieces p s) ≡ Some v)
    linked_there x a e =
        let w = stood p s t indexed_layout (key x) a e in
        let z : LinkedPiece = of_link p s w.section w.piece in
        found_some (is_mine x) (linked_pieces p s) z (link_in p s w.number w.section w.piece w.at w.among)
        (and_from (bytes_eq z.object o.name) (is_same_part z.part (InTable x.number))
        ((bytes_eq-Decides z.object o.name).1 (sym w.object ∙ name_is))
        (ap (λ m. is_same_part m (InTable x.number)) (sym w.part) ∙ own_part (InTable x.number)))

    spot_bytes : (k : ℕ) (x : LinkedSection) → slice_get o.object.sections k ≡ Some x
        → sum_by (bytes_of o.object) (option_to_list (found_spot k)) ≡ own_bytes (new_link p s) o.name x
    spot_bytes k x at = go (location_in t (key x)) refl
      where
        is : found_spot k ≡ option_map (spot_with k) (location_in t (key x))
        is = ap (option_and_then (spot_at t place k))
            (slice_get-map section_of o.object.sections k ∙ ap (option_map section_of) at)

        go : (m : Option SectionLocation) → location_in t (key x) ≡ m
            → sum_by (bytes_of o.object) (option_to_list (found_spot k)) ≡ own_bytes (new_link p s) o.name x
        go None e =
            ap (λ m. sum_by (bytes_of o.object) (option_to_list m)) (is ∙ ap (option_map (spot_with k)) e)
            ∙ sym (ap (λ m. option_map_or (λ (y : LinkedPiece). size_in_file x.kind y.range.length) m 0)
            (not_linked x e))
        go (Some a) e =
            let v = linked_there x a e in
            let there = find_got (is_mine x) (linked_pieces p s) v.0 v.1 in
            let of = mine x v.0 there.1 in
            let at_it = standing_is x a e v.0 there.0 of.0 of.1 in
            let one = sum_by-cons (bytes_of o.object) (spot_with k a) [] in
            let size : bytes_of o.object (spot_with k a) ≡ size_in_file x.kind a.range.length =
            ap (λ m. option_map_or (λ (y : LinkedSection). size_in_file y.kind a.range.length) m 0) at in
            ap (λ m. sum_by (bytes_of o.object) (option_to_list m)) (is ∙ ap (option_map (spot_with k)) e)
            ∙ one ∙ add_none (bytes_of o.object (spot_with k a)) ∙ size
            ∙ ap (λ (r : model.FileRange). size_in_file x.kind r.length) at_it.range
            ∙ sym (ap (λ m. option_map_or (λ (y : LinkedPiece). size_in_file x.kind y.range.length) m 0) v.1)
          where
            add_none : (n : ℕ) → n + 0 ≡ n
            add_none n = omega arith

    pub spots_bytes : sum_by (bytes_of o.object) (spots_below t place listed (length o.object.sections))
        ≡ bytes_of_object (new_link p s) place.0
    spots_bytes =
        sum_spots (bytes_of o.object) (own_bytes (new_link p s) o.name) spot_bytes
        ∙ sym (ap (λ m. option_map_or (λ (n : NamedObject).
        sum_by (own_bytes (new_link p s) n.name) n.object.sections) m 0) at)
