-- The tables of a link show where its input sections stand.
use Rattle.relink_driver.proofs.Common.{Bool, Contains, IndexedLayout, IsIndexedLayout, IsOwned, IsSectionAddress}
use Rattle.relink_driver.proofs.Common.{Layout, List, None, Option, PlacedOutput, PlacedPiece, Project, SectionAddress}
use Rattle.relink_driver.proofs.Common.{SectionLocation, SectionRef, Some, [], and_parts, ap, bytes_eq}
use Rattle.relink_driver.proofs.Common.{bytes_eq-Decides, bytes_from, cond, entries_of, false, file_offset, flat_map}
use Rattle.relink_driver.proofs.Common.{in_map, is_part, is_same_part, list_any, location_in, location_of}
use Rattle.relink_driver.proofs.Common.{location_with, lt-ltb, map, map_in, member_of, nat_lt, none_in_nil, not}
use Rattle.relink_driver.proofs.Common.{object_name, option_and_then, option_map, placed_part, position, range_from}
use Rattle.relink_driver.proofs.Common.{refl, same_Some, segments, slice_get, slice_get-map, subst, suc, sym, true}
use Rattle.relink_driver.proofs.Common.{zero, ℕ, ⊎_elim, ◌&&◌, ◌+◌, ◌-◌, ◌<◌, ◌==◌, ◌^◌, ◌∙◌, ◌∷◌, ◌≡◌}
use Rattle.ldmodel.specs.PlacementView.{placed_of}
use Rattle.ldmodel.specs.Stayed as model
use Rattle.ldmodel.specs.Stayed.{LinkedPiece, linked_piece, linked_pieces, range_in}
use Rattle.place.specs.Offsets.{IsOffset}
use Rattle.place.specs.IndexedLayout.{address_in}
use Rattle.emit.specs.relocate.PreviousLinkInfo.{range_of}
use Rattle.emit.specs.relocate.declared.previous_link_info.FileRange.{FileRange}
use Rattle.relink_driver.specs.SectionLocation as code
use Rattle.relink_driver.proofs.StayedBySamePart.{IsAt, Shows, same_part}
use Rattle.place.proofs.Members.{Beside, beside, find_in}
use Rattle.relink_driver.proofs.SectionsStandOnce.{flat, found, in_pieces, pieces, pieces_in, section_is}
use Rattle.std.proofs.lemmas.List.Elements.{Contains-append_left, Contains-append_right, Contains-append_cases}

-- ---- input sections in the output

-- an input section in the output, in its output section
pub record Linked (of : PlacedOutput → PlacedPiece → LinkedPiece) (qs : List PlacedOutput) (x : LinkedPiece)
    : Type 0 where
  pub number : ℕ
  pub section : PlacedOutput
  pub at : slice_get qs number ≡ Some section
  pub piece : PlacedPiece
  pub among : Contains section.pieces piece
  pub is : of section piece ≡ x

module _ (of : PlacedOutput → PlacedPiece → LinkedPiece) where
  abbrev all : List PlacedOutput → List LinkedPiece
  all qs = flat_map (λ (q : PlacedOutput). map (of q) q.pieces) qs

  in_all : (qs : List PlacedOutput) (x : LinkedPiece) → Contains (all qs) x → Linked of qs x
  in_all [] x c = absurd (none_in_nil x c)
  in_all (q ∷ qs) x c =
      ⊎_elim
      (λ mine. let k = in_map (of q) q.pieces x mine in record {
        number = 0;
        section = q;
        at = refl;
        piece = k.origin;
        among = k.among;
        is = k.gives;
      })
      (λ rest. let k = in_all qs x rest in record {
        number = suc k.number;
        section = k.section;
        at = k.at;
        piece = k.piece;
        among = k.among;
        is = k.is;
      })
      (Contains-append_cases (map (of q) q.pieces) (all qs) x c)

  all_in : (qs : List PlacedOutput) (k : ℕ) (q : PlacedOutput) (z : PlacedPiece) → slice_get qs k ≡ Some q
      → Contains q.pieces z → Contains (all qs) (of q z)
  all_in [] k q z e c = absurd (let none : ⊥ = cc in none)
  all_in (r ∷ rs) zero q z e c =
      let is : r ≡ q = same_Some _ _ e in
      Contains-append_left (map (of r) r.pieces) (all rs) (of q z)
      (subst (λ (p : PlacedOutput). Contains (map (of p) p.pieces) (of q z)) (sym is) (map_in (of q) q.pieces z c))
  all_in (r ∷ rs) (suc k) q z e c = Contains-append_right (map (of r) r.pieces) (all rs) (of q z) (all_in rs k q z e c)

abbrev pub of_link : Project → Layout → PlacedOutput → PlacedPiece → LinkedPiece
of_link p s = linked_piece p (segments s.sections)

pub in_link : (p : Project) (s : Layout) (x : LinkedPiece) → Contains (linked_pieces p s) x
    → Linked (of_link p s) s.sections x
unfolding linked_pieces
in_link p s x c = in_all (of_link p s) s.sections x c

pub link_in : (p : Project) (s : Layout) (k : ℕ) (q : PlacedOutput) (z : PlacedPiece) → slice_get s.sections k ≡ Some q
    → Contains q.pieces z → Contains (linked_pieces p s) (of_link p s q z)
unfolding linked_pieces
link_in p s k q z e c = all_in (of_link p s) s.sections k q z e c

-- ---- their bytes in the file

record Fits (r : model.FileRange) (m : Option FileRange) : Type 0 where
  is : (a : FileRange) → m ≡ Some a → range_of a ≡ r
  some : r.offset < 2 ^ 64 → (a : FileRange) × (m ≡ Some a)

abbrev model_range : ℕ → ℕ → model.FileRange
model_range offset length = record { offset = offset; length = length }

abbrev code_range : ℕ → ℕ → FileRange
code_range offset length = record { offset = offset; length = length }

fits_from : (n size : ℕ) → Fits (model_range n size) (bytes_from n size)
fits_from n size = record { is = is (nat_lt n (2 ^ 64)); some = some }
  where
    is : (b : Bool) (a : FileRange) → cond b (Some (code_range n size)) None ≡ Some a → range_of a ≡ model_range n size
    is true a h = ap range_of (sym (same_Some _ _ h))
    is false a h = absurd (let none : ⊥ = cc in none)

    some : n < 2 ^ 64 → (a : FileRange) × (bytes_from n size ≡ Some a)
    some low = (code_range n size, ap (λ b. cond b (Some (code_range n size)) None) (lt-ltb n (2 ^ 64) low))

fits_none : Fits (model_range 0 0) (Some (code_range 0 0))
fits_none = record {
  is = λ a h. ap range_of (sym (same_Some _ _ h));
  some = λ low. (code_range 0 0, refl);
}

fits : (s : Layout) (q : PlacedOutput) (z : PlacedPiece) (offset : ℕ) → IsOffset s q offset
    → Fits (range_in (segments s.sections) q z) (range_from (placed_of q) offset z.start z.piece.size)
unfolding range_from
fits s q z offset is = go (q.has_file_bytes && not (z.piece.size == 0))
  where
    go : (b : Bool)
        → Fits (cond b (model_range (file_offset (segments s.sections) q + (z.start - q.start)) z.piece.size)
        (model_range 0 0))
        (cond b (bytes_from (offset + (z.start - q.start)) z.piece.size) (Some (code_range 0 0)))
    go true =
        subst (λ n. Fits (model_range (file_offset (segments s.sections) q + (z.start - q.start)) z.piece.size)
        (bytes_from (n + (z.start - q.start)) z.piece.size)) (sym is)
        (fits_from (file_offset (segments s.sections) q + (z.start - q.start)) z.piece.size)
    go false = fits_none

-- ---- what the tables have

abbrev place_with : ℕ → ℕ → ℕ → SectionAddress
place_with start size n = record { start = start; size = size; section = record { 0 = n } }

module _ (p : Project) (s : Layout) (t : IndexedLayout) (indexed_layout : IsIndexedLayout p s t) where
  pub owned : (k : ℕ) (q : PlacedOutput) (z : PlacedPiece) → slice_get s.sections k ≡ Some q → Contains q.pieces z
      → IsOwned p z.piece
  owned k q z at among =
      member_of (IsOwned p) (entries_of s) z.piece indexed_layout.apart.owned
      (subst (λ l. Contains l z.piece) (sym (flat s.sections))
      (map_in (λ (x : PlacedPiece). x.piece) (pieces s.sections) z (pieces_in s.sections k q z at among)))

  module _ (key : SectionRef) (k : ℕ) (q : PlacedOutput) (z : PlacedPiece) (at : slice_get s.sections k ≡ Some q)
      (among : Contains q.pieces z) (object : object_name p key.object.0 ≡ z.piece.object)
      (part : key.part ≡ z.piece.part) where
    part_found : placed_part s (object_name p key.object.0) key.part ≡ Some z
    part_found =
        ap (λ n. placed_part s n key.part) object ∙ ap (λ m. placed_part s z.piece.object m) part
        ∙ found s indexed_layout.apart.once k q z at among

    number_found : position (λ (r : PlacedOutput). list_any (is_part (object_name p key.object.0) key.part) r.pieces)
        s.sections ≡ Some k
    number_found =
        ap (λ n. position (λ (r : PlacedOutput). list_any (is_part n key.part) r.pieces) s.sections) object
        ∙ ap (λ m. position (λ (r : PlacedOutput). list_any (is_part z.piece.object m) r.pieces) s.sections) part
        ∙ section_is s indexed_layout.apart.once k q z at among

    place_is : address_in t key ≡ Some (place_with z.start z.piece.size k)
    place_is = go (address_in t key) (indexed_layout.places key)
      where
        go : (m : Option SectionAddress) → IsSectionAddress p s key m → m ≡ Some (place_with z.start z.piece.size k)
        go None h = let none : None ≡ Some z = sym h ∙ part_found in absurd (let never : ⊥ = cc in never)
        go (Some x) h =
            let start : x.start ≡ z.start =
            same_Some _ _ (sym h.0 ∙ ap (option_map (λ (y : PlacedPiece). y.start)) part_found) in
            let number : x.section.0 ≡ k = same_Some _ _ (sym h.1 ∙ number_found) in
            let size : x.size ≡ z.piece.size =
            same_Some _ _ (sym h.2 ∙ ap (option_map (λ (y : PlacedPiece). y.piece.size)) part_found) in
            ap (λ n. Some (place_with n x.size x.section.0)) start
            ∙ ap (λ n. Some (place_with z.start n x.section.0)) size
            ∙ ap (λ n. Some (place_with z.start z.piece.size n)) number

    section_at : slice_get t.link_layout.placement.sections k ≡ Some (placed_of q)
    section_at =
        ap (λ l. slice_get l k) indexed_layout.link_layout.places.sections ∙ slice_get-map placed_of s.sections k
        ∙ ap (option_map placed_of) at

    begun : Beside (IsOffset s) t.link_layout.offsets.items k q
    begun = beside (IsOffset s) s.sections t.link_layout.offsets.items k q indexed_layout.link_layout.offsets at

    abbrev bytes : Option FileRange
    bytes = range_from (placed_of q) (begun.member) z.start z.piece.size

    standing_is : location_in t key ≡ option_map (location_with (place_with z.start z.piece.size k)) bytes
    unfolding location_in
    standing_is =
        ap (option_and_then (location_of t.link_layout)) place_is
        ∙ ap (λ m. option_map (location_with (place_with z.start z.piece.size k))
        (option_and_then (code.range_in t.link_layout (place_with z.start z.piece.size k)) m)) section_at
        ∙ ap (λ m. option_map (location_with (place_with z.start z.piece.size k))
        (option_and_then (λ (offset : ℕ). range_from (placed_of q) offset z.start z.piece.size) m)) (begun.at)

    shown : (m : Option FileRange) → Fits ((of_link p s q z).range) m
        → Shows (of_link p s q z) (option_map (location_with (place_with z.start z.piece.size k)) m)
    shown None h = record {
      is = λ a e. absurd (let none : ⊥ = cc in none);
      some = λ low. let k = h.some low in
          let none : None ≡ Some k.0 = k.1 in absurd (let never : ⊥ = cc in never);
    }
    shown (Some r) h = record {
      is = λ a e. let same : location_with (place_with z.start z.piece.size k) r ≡ a = same_Some _ _ e in record {
        start = sym (ap (λ (b : SectionLocation). b.start) same);
        size = sym (ap (λ (b : SectionLocation). b.size) same);
        range = ap (λ (b : SectionLocation). range_of b.range) (sym same) ∙ h.is r refl;
      };
      some = λ low. (location_with (place_with z.start z.piece.size k) r, refl);
    }

    pub shows : Shows (of_link p s q z) (location_in t key)
    shows = subst (Shows (of_link p s q z)) (sym standing_is) (shown bytes (fits s q z (begun.member) (begun.is)))

  -- what stands somewhere by the tables is an input section in the output
  pub record Stood (key : SectionRef) (a : SectionLocation) : Type 0 where
    pub number : ℕ
    pub section : PlacedOutput
    pub at : slice_get s.sections number ≡ Some section
    pub piece : PlacedPiece
    pub among : Contains section.pieces piece
    pub object : object_name p key.object.0 ≡ piece.piece.object
    pub part : key.part ≡ piece.piece.part
    pub is : IsAt (of_link p s section piece) a

  piece_of : (key : SectionRef) (m : Option PlacedPiece) (n : ℕ)
      → option_map (λ (y : PlacedPiece). y.start) m ≡ Some n → (z : PlacedPiece) × (m ≡ Some z)
  piece_of key None n e = absurd (let none : ⊥ = cc in none)
  piece_of key (Some z) n e = (z, refl)

  pub stood : (key : SectionRef) (a : SectionLocation) → location_in t key ≡ Some a → Stood key a
  unfolding location_in
  stood key a e = go (address_in t key) (indexed_layout.places key) refl e
    where
      go : (m : Option SectionAddress) → IsSectionAddress p s key m → address_in t key ≡ m
          → option_and_then (location_of t.link_layout) m ≡ Some a → Stood key a
      go None h same g = absurd (let none : ⊥ = cc in none)
      go (Some x) h same g =
          let w = piece_of key (placed_part s (object_name p key.object.0) key.part) x.start h.0 in
          let z : PlacedPiece = w.0 in
          let in_it = find_in (is_part (object_name p key.object.0) key.part) (pieces s.sections) z w.1 in
          let both = and_parts (bytes_eq z.piece.object (object_name p key.object.0))
          (is_same_part z.piece.part key.part)
          in_it.1 in
          let object : object_name p key.object.0 ≡ z.piece.object =
          sym ((bytes_eq-Decides z.piece.object (object_name p key.object.0)).0 both.0) in
          let part : key.part ≡ z.piece.part = sym (same_part z.piece.part key.part both.1) in
          let k = in_pieces s.sections z in_it.0 in
          record {
            number = k.number;
            section = k.section;
            at = k.at;
            piece = z;
            among = k.among;
            object = object;
            part = part;
            is = (shows key k.number k.section z k.at k.among object part).is a e;
          }
