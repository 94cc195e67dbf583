-- Input sections, and the fields of their sites, in the image.
use Rattle.ldmodel_laws.proofs.Common.{AreNamed, Bool, Contains, EachLater, HasField, InCommon, InTable, IsGood, Layout}
use Rattle.ldmodel_laws.proofs.Common.{LinkedSection, List, NamedObject, None, Ok, Option, Part, Patch, PlacedOutput}
use Rattle.ldmodel_laws.proofs.Common.{PlacedPiece, Project, Relocation, Segment, Site, Some, [], and_from, and_parts}
use Rattle.ldmodel_laws.proofs.Common.{ap, arith, byte_at, bytes_eq, cond, false, fields_of, filter, image_length, inl}
use Rattle.ldmodel_laws.proofs.Common.{inr, is_evaluated, le-leb, leb-true, length, linked_pieces, lt-ltb, ltb-true}
use Rattle.ldmodel_laws.proofs.Common.{map, max, min, nat_le, nat_lt, next_multiple_of, not, object_named}
use Rattle.ldmodel_laws.proofs.Common.{option_map_or, patch_end, patch_of, patched_byte, refl, section_numbered}
use Rattle.ldmodel_laws.proofs.Common.{segments, site_field, sites_at, slice_index, subst, sym, true, true≢false, width}
use Rattle.ldmodel_laws.proofs.Common.{ℕ, ◌&&◌, ◌+◌, ◌-◌, ◌<◌, ◌==◌, ◌↔◌, ◌∙◌, ◌∷◌, ◌≡◌, ◌≤◌, ◌⊎◌}
use Rattle.elfobj.specs.Profile as elf
use Rattle.emit_fields.specs.Patches as patches
use Rattle.ldmodel_laws.specs.ByteCases.{part_byte, section_byte}
use Rattle.ldmodel.specs.SectionHeaders.{Tables, header_part, tables}
use Rattle.ldmodel.specs.Segments.{SectionInFile, file_offset, in_file, loaded_end}
use Rattle.ldmodel.specs.Stayed.{FileRange, GoodLink, LinkedPiece, has_stayed, linked_piece, link_pieces, range_in}
use Rattle.ldmodel.specs.Stayed.{same_piece, sites_in, stayed}
use Rattle.ldmodel_laws.proofs.Apart.{fields_apart, some_width}
use Rattle.ldmodel_laws.proofs.Finding.{NotBoth, find_only, flat_map_in, in_flat_map, in_map, map_in}
use Rattle.ldmodel_laws.proofs.Finding.{member_of, filter_map_in}
use Rattle.ldmodel_laws.proofs.Members.{filter_in, first_or_later, in_any, in_filter, none_in_nil}
use Rattle.ldmodel_laws.proofs.PieceBytes.{before_end, names_apart, one_name, same_name}
use Rattle.ldmodel_laws.proofs.Untouched.{by_object, by_section, known, same, sites_by, wide}
use Rattle.ldmodel_laws.proofs.EachOf.{later_of_pairs, later_imply}

-- ---- output sections in the file

pub offset_by_name : (sections : List PlacedOutput) → AreNamed sections → (x : SectionInFile)
    → Contains (in_file (segments sections)) x → file_offset (segments sections) x.section ≡ x.offset
offset_by_name sections named x c =
    ap (λ m. option_map_or (λ (y : SectionInFile). y.offset) m 0)
    (find_only (λ (y : SectionInFile). bytes_eq y.section.name x.section.name) (in_file (segments sections)) x
    (later_imply (λ (y z : SectionInFile). bytes_eq y.section.name z.section.name ≡ false)
    (NotBoth (λ (y : SectionInFile). bytes_eq y.section.name x.section.name)) (λ y z h.
    one_name y.section.name z.section.name x.section.name h) (in_file (segments sections)) (names_apart sections named))
    c (same_name x.section.name))

-- ---- input sections in the image

pub linked : (l : GoodLink) (q : PlacedOutput) (z : PlacedPiece) → Contains l.layout.sections q → Contains q.pieces z
    → Contains (link_pieces l) (linked_piece l.project (segments l.layout.sections) q z)
unfolding linked_pieces
linked l q z c d =
    flat_map_in (λ (r : PlacedOutput). map (linked_piece l.project (segments l.layout.sections) r) r.pieces)
    l.layout.sections q (linked_piece l.project (segments l.layout.sections) q z) c
    (map_in (linked_piece l.project (segments l.layout.sections) q) q.pieces z d)

pub stayed_both : (old new : GoodLink) (x : LinkedPiece)
    → Contains (stayed old new) x ↔ (Contains (link_pieces new) x × (has_stayed old x ≡ true))
unfolding stayed
stayed_both old new x =
    (in_filter (has_stayed old) (link_pieces new) x, λ k. filter_in (has_stayed old) (link_pieces new) x k.0 k.1)

up_to_multiple : (n : ℕ) → n ≤ next_multiple_of n 8
up_to_multiple n = omega arith

-- the tail stands past the loaded part
pub loaded_in_image : (p : Project) (s : Layout) → loaded_end (segments s.sections) ≤ image_length p s
unfolding image_length header_part tables
loaded_in_image p s =
    let a = up_to_multiple (loaded_end (segments s.sections)) in
    let t : Tables = tables p s in
    let b = up_to_multiple (t.header_names.offset + length t.header_names.bytes) in
    omega (arith, a, b)

module _ (l : GoodLink) (good : IsGood l) where
  abbrev gs : List Segment
  gs = segments l.layout.sections

  range_inside : (q : PlacedOutput) (z : PlacedPiece) (i : ℕ) → Contains l.layout.sections q → Contains q.pieces z
      → i < (range_in gs q z).length → (range_in gs q z).offset + i < image_length l.project l.layout
  range_inside q z i there among low = go (q.has_file_bytes && not (z.piece.size == 0)) refl low
    where
      here_in : FileRange
      here_in = record { offset = file_offset gs q + (z.start - q.start); length = z.piece.size }

      none : FileRange
      none = record { offset = 0; length = 0 }

      go : (b : Bool) → (q.has_file_bytes && not (z.piece.size == 0)) ≡ b → i < (cond b here_in none).length
          → (cond b here_in none).offset + i < image_length l.project l.layout
      go true e k =
          let under = before_end l.project l.layout q z i good.spread good.named there
          (and_parts q.has_file_bytes (not (z.piece.size == 0)) e).0 among k in
          let past = loaded_in_image l.project l.layout in
          omega (arith, under, past)
      go false e k = absurd (omega (arith, k))

  pub inside_image : (x : LinkedPiece) → Contains (link_pieces l) x → (i : ℕ) → i < x.range.length
      → x.range.offset + i < image_length l.project l.layout
  unfolding linked_pieces
  inside_image x c i low =
      let k = in_flat_map (λ (q : PlacedOutput). map (linked_piece l.project gs q) q.pieces) l.layout.sections x c in
      let q : PlacedOutput = k.origin in
      let m = in_map (linked_piece l.project gs q) q.pieces x k.gives in
      let P : LinkedPiece → Type 0 = λ y. i < y.range.length
      → y.range.offset + i < image_length l.project l.layout in
      let go : P x = subst P m.gives (λ n. range_inside q m.origin i k.among m.among n) in
      go low

pub inside_old : (old new : GoodLink) → IsGood old → (x : LinkedPiece) → Contains (stayed old new) x → (i : ℕ)
    → i < x.range.length → x.range.offset + i < image_length old.project old.layout
inside_old old new good x c i low =
    let both = (stayed_both old new x).0 c in
    let found = in_any (same_piece x) (link_pieces old) both.1 in
    let alike = same x found.member found.passes in
    let inside = inside_image old good found.member found.among i (subst (λ n. i < n) alike.length low) in
    subst (λ n. n + i < image_length old.project old.layout) (sym alike.offset) inside

-- ---- fields

covers_from : (a : Patch) (i : ℕ) → patches.patch_covers a i ≡ true → (a.offset ≤ i) × (i < patch_end a)
covers_from a i e =
    let k = and_parts (nat_le a.offset i) (nat_lt i (patch_end a)) e in
    (leb-true a.offset i k.0, ltb-true i (patch_end a) k.1)

-- patches that share no byte do not both cover one
not_both : (a b : Patch) (i : ℕ) → patches.patches_meet a b ≡ false → patches.patch_covers b i ≡ true
    → patches.patch_covers a i ≡ false
not_both a b i h e = go (patches.patch_covers a i) refl
  where
    go : (c : Bool) → patches.patch_covers a i ≡ c → c ≡ false
    go false f = refl
    go true f =
        let m = covers_from a i f in
        let n = covers_from b i e in
        let meet : nat_lt (max a.offset b.offset) (min (patch_end a) (patch_end b)) ≡ true =
        lt-ltb (max a.offset b.offset) (min (patch_end a) (patch_end b)) (omega (arith, m.0, m.1, n.0, n.1)) in
        absurd (true≢false (sym meet ∙ h))

-- a byte that one of them covers is its own
of_patch : (bytes : List ℕ) (ps : List Patch) (a : Patch) (i : ℕ)
    → EachLater (λ (b c : Patch). patches.patches_meet b c ≡ false) ps → Contains ps a → patches.patch_covers a i ≡ true
    → patched_byte bytes ps i ≡ slice_index a.field (i - a.offset)
of_patch bytes [] a i h c e = absurd (none_in_nil a c)
of_patch bytes (b ∷ ps) a i h c e = go (first_or_later b ps a c) (λ k. of_patch bytes ps a i h.1 k e)
  where
    go : (b ≡ a) ⊎ Contains ps a → (Contains ps a → patched_byte bytes ps i ≡ slice_index a.field (i - a.offset))
        → cond (patches.patch_covers b i) (slice_index b.field (i - b.offset)) (patched_byte bytes ps i)
        ≡ slice_index a.field (i - a.offset)
    go (inl is) rest =
        ap (λ t. cond t (slice_index b.field (i - b.offset)) (patched_byte bytes ps i))
        (ap (λ (d : Patch). patches.patch_covers d i) is ∙ e)
        ∙ ap (λ (d : Patch). slice_index d.field (i - d.offset)) is
    go (inr k) rest =
        ap (λ t. cond t (slice_index b.field (i - b.offset)) (patched_byte bytes ps i))
        (not_both b a i (member_of (λ (d : Patch). patches.patches_meet b d ≡ false) ps a h.0 k) e) ∙ rest k

-- the section that a site of an input section lies in
record IsIn (p : Project) (s : Layout) (start : ℕ) (part : Part) (m : Option NamedObject) (t : Site) : Type 0 where
  object : NamedObject
  section : LinkedSection
  relocation : Relocation
  gives : record { object = object; section = section; start = start; relocation = relocation } ≡ t
  evaluated : is_evaluated relocation.kind ≡ true
  among : Contains (sites_at object section start) t
  byte : (name : List ℕ) → object_named p name ≡ m → (i : ℕ) → part_byte p s name part start i
      ≡ section_byte p s object start i section

is_in : (p : Project) (s : Layout) (start : ℕ) (part : Part) (m : Option NamedObject) (t : Site)
    → Contains (by_object start part m) t → IsIn p s start part m t
is_in p s start (InCommon k) m t c = absurd (none_in_nil t c)
is_in p s start (InTable k) None t c = absurd (none_in_nil t c)
is_in p s start (InTable k) (Some o) t c = go (section_numbered o k) refl c
  where
    go : (n : Option LinkedSection) → section_numbered o k ≡ n → Contains (by_section o start n) t
        → IsIn p s start (InTable k) (Some o) t
    go None e d = absurd (none_in_nil t d)
    go (Some z) e d =
        let f : Relocation → Site = λ r. record { object = o; section = z; start = start; relocation = r } in
        let comes = in_map f (filter (λ (r : Relocation). is_evaluated r.kind) z.relocations) t d in
        record {
          object = o;
          section = z;
          relocation = comes.origin;
          gives = comes.gives;
          evaluated =
              (in_filter (λ (r : Relocation). is_evaluated r.kind) z.relocations comes.origin comes.among).1;
          among = d;
          byte = λ name named i.
              ap (λ x. option_map_or (λ y. option_map_or (section_byte p s y start i) (section_numbered y k) 0) x 0)
              named ∙ ap (λ x. option_map_or (section_byte p s o start i) x 0) e;
        }

module _ (l : GoodLink) (x : LinkedPiece) (t : Site) (c : Contains (sites_in l.project x) t) where
  abbrev own : IsIn l.project l.layout x.start x.part (object_named l.project x.object) t
  own = is_in l.project l.layout x.start x.part (object_named l.project x.object) t
      (subst (λ ts. Contains ts t) (sites_by l.project x) c)

  pub field_some : 0 < width t.relocation.kind
  field_some = subst (λ (u : Site). 0 < width u.relocation.kind) own.gives
      (some_width own.relocation.kind own.evaluated)

  pub field_wide : (field : List ℕ) → site_field l.project l.layout t ≡ Ok field → length field
      ≡ width t.relocation.kind
  field_wide field e =
      wide l.project l.layout own.object own.section x.start own.relocation field own.evaluated
      (ap (site_field l.project l.layout) own.gives ∙ e)
      ∙ ap (λ (u : Site). width u.relocation.kind) own.gives

  module _ (good : IsGood l) (d : Contains (link_pieces l) x) where
    pub field_found : HasField l t
    field_found = member_of (HasField l) (sites_in l.project x) t (good.fields x d) c

    module _ (apart : elf.AreApart t.section.relocations) (field : List ℕ)
        (e : site_field l.project l.layout t ≡ Ok field) where
      abbrev here_in : Patch
      here_in = record { offset = t.relocation.offset; field = field }

      abbrev all : List Patch
      all = fields_of l.project l.layout own.object own.section x.start

      own_apart : elf.AreApart own.section.relocations
      own_apart = subst (λ (u : Site). elf.AreApart u.section.relocations) (sym own.gives) apart

      clear : EachLater (λ (a b : Patch). patches.patches_meet a b ≡ false) all
      clear = later_of_pairs (λ (a b : Patch). patches.patches_meet a b ≡ false) all
          (fields_apart l.project l.layout own.object own.section x.start own_apart)

      in_all : Contains all here_in
      in_all =
          filter_map_in (λ u. patch_of u (site_field l.project l.layout u)) (sites_at own.object own.section x.start) t
          here_in own.among (ap (patch_of t) e)

      pub field_byte : (i : ℕ) → i < length field → t.relocation.offset + i < x.range.length
          → byte_at l.project l.layout (x.range.offset + (t.relocation.offset + i)) ≡ slice_index field i
      field_byte i low inside =
          let at : ℕ = t.relocation.offset + i in
          let covered : patches.patch_covers here_in at ≡ true =
          and_from (nat_le t.relocation.offset at) (nat_lt at (t.relocation.offset + length field))
          (le-leb t.relocation.offset at (omega arith))
          (lt-ltb at (t.relocation.offset + length field) (omega (arith, low))) in
          (known l good x d).byte at inside
          ∙ own.byte x.object refl at
          ∙ of_patch own.section.bytes all here_in at clear in_all covered
          ∙ ap (slice_index field) (let same_place : t.relocation.offset + i - t.relocation.offset ≡ i = omega arith in
          same_place)
