-- A byte of an input section that stayed, outside of fields whose symbol has another value, is the same in both links.
use Rattle.ldmodel_laws.proofs.Common.{AreRead, Bool, Contains, Each, HasField, InCommon, InTable, IsGood, IsOutside}
use Rattle.ldmodel_laws.proofs.Common.{Layout, LinkedSection, List, NamedObject, NamedSymbol, None, NotDefined}
use Rattle.ldmodel_laws.proofs.Common.{NotInOutput, Number, Ok, Option, Part, Patch, PlacedOutput, PlacedPiece, Project}
use Rattle.ldmodel_laws.proofs.Common.{Relocation, SectionIndex, Segment, Site, Some, SymbolValue, [], and_parts, ap}
use Rattle.ldmodel_laws.proofs.Common.{arith, byte_at, bytes_eq, bytes_eq-Decides, cond, cons_option, eq-eqb, eqb-true}
use Rattle.ldmodel_laws.proofs.Common.{false, false≢true, filter, filter_map, find, flat_map, inl, inr, is_evaluated}
use Rattle.ldmodel_laws.proofs.Common.{leb-true, length, linked_pieces, ltb-true, map, nat_le, nat_lt, not, number_or_0}
use Rattle.ldmodel_laws.proofs.Common.{object_named, option_map_or, patch_end, patch_of, patched_byte, referenced_value}
use Rattle.ldmodel_laws.proofs.Common.{refl, section_numbered, segments, site_field, site_field_with, site_symbol}
use Rattle.ldmodel_laws.proofs.Common.{site_value, sites_at, slice_index, subst, sym, target_number, target_of, true}
use Rattle.ldmodel_laws.proofs.Common.{true≢false, width, ℕ, ◌&&◌, ◌+◌, ◌-◌, ◌<◌, ◌==◌, ◌∙◌, ◌∷◌, ◌≡◌, ◌≢◌, ◌⊎◌}
use Rattle.elfobj.specs.file.Numbers.{u16_at}
use Rattle.elfobj.specs.Object.{ObjectData, object_of}
use Rattle.elfobj.specs.Sections.{sections_of}
use Rattle.emit_fields.specs.Patches as patches
use Rattle.ldmodel_laws.specs.ByteCases.{object_byte, part_byte, section_byte}
use Rattle.ldmodel.specs.Segments.{file_offset}
use Rattle.ldmodel.specs.Stayed.{FileRange, GoodLink, LinkedPiece, has_stayed, has_other_value, linked_piece}
use Rattle.ldmodel.specs.Stayed.{link_pieces, range_in, retargeted, same_piece, sites_in, sites_in_part}
use Rattle.ldmodel.specs.Stayed.{sites_in_section, stayed, text_of, site_value_in}
use Rattle.ldmodel_laws.proofs.Apart.{Stands, stands}
use Rattle.ldmodel_laws.proofs.Finding.{flat_map_in, in_flat_map, in_map, map_in, member_of, each_member}
use Rattle.ldmodel_laws.proofs.Members.{Passes, here, later, in_any, in_filter, filter_in}
use Rattle.ldmodel_laws.proofs.PieceBytes.{byte_of_piece}
use Rattle.ldmodel_laws.proofs.Targeted.{same_value}
use Rattle.ldmodel_laws.proofs.SameParts.{same_part}

-- ---- an input section in a link

module _ (l : GoodLink) (good : IsGood l) where
  abbrev gs : List Segment
  gs = segments l.layout.sections

  piece_byte_in : (q : PlacedOutput) (z : PlacedPiece) (i : ℕ) → Contains l.layout.sections q → Contains q.pieces z
      → i < (range_in gs q z).length
      → byte_at l.project l.layout ((range_in gs q z).offset + i)
      ≡ part_byte l.project l.layout z.piece.object z.piece.part z.start i
  piece_byte_in q z i there among low = go (q.has_file_bytes && not (z.piece.size == 0)) refl low
    where
      here : FileRange
      here = record { offset = file_offset gs q + (z.start - q.start); length = z.piece.size }

      none : FileRange
      none = record { offset = 0; length = 0 }

      go : (b : Bool) → (q.has_file_bytes && not (z.piece.size == 0)) ≡ b → i < (cond b here none).length
          → byte_at l.project l.layout ((cond b here none).offset + i)
          ≡ part_byte l.project l.layout z.piece.object z.piece.part z.start i
      go true e k = byte_of_piece l.project l.layout q z i good.spread good.named there
          (and_parts q.has_file_bytes (not (z.piece.size == 0)) e).0 among k
      go false e k = absurd (omega (arith, k))

  -- what is known of a linked piece
  pub record Known (x : LinkedPiece) : Type 0 where
    pub byte : (i : ℕ) → i < x.range.length → byte_at l.project l.layout (x.range.offset + i)
        ≡ part_byte l.project l.layout x.object x.part x.start i

  pub known : (x : LinkedPiece) → Contains (link_pieces l) x → Known x
  unfolding linked_pieces
  known x c =
      let k = in_flat_map (λ (q : PlacedOutput). map (linked_piece l.project gs q) q.pieces) l.layout.sections x c in
      let q : PlacedOutput = k.origin in
      let m = in_map (linked_piece l.project gs q) q.pieces x k.gives in
      subst Known m.gives (record { byte = λ i low. piece_byte_in q m.origin i k.among m.among low })

pub linked_text : (l : GoodLink) (x : LinkedPiece) → Contains (link_pieces l) x → x.text ≡ text_of l.project x.object
unfolding linked_pieces
linked_text l x c =
    let k = in_flat_map (λ (q : PlacedOutput). map (linked_piece l.project (segments l.layout.sections) q) q.pieces)
    l.layout.sections x c in
    let m = in_map (linked_piece l.project (segments l.layout.sections) k.origin) k.origin.pieces x k.gives in
    subst (λ (y : LinkedPiece). y.text ≡ text_of l.project y.object) m.gives refl

-- ---- two linked pieces that are the same

pub record SamePiece (x y : LinkedPiece) : Type 0 where
  pub object : x.object ≡ y.object
  pub text : x.text ≡ y.text
  pub part : x.part ≡ y.part
  pub start : x.start ≡ y.start
  pub offset : x.range.offset ≡ y.range.offset
  pub length : x.range.length ≡ y.range.length

pub same : (x y : LinkedPiece) → same_piece x y ≡ true → SamePiece x y
same x y e =
    let range = and_parts _ _ e in
    let size = and_parts _ _ range.0 in
    let start = and_parts _ _ size.0 in
    let part = and_parts _ _ start.0 in
    let names = and_parts _ _ part.0 in
    let ranges = and_parts _ _ range.1 in
    record {
      object = (bytes_eq-Decides x.object y.object).0 names.0;
      text = (bytes_eq-Decides x.text y.text).0 names.1;
      part = same_part x.part y.part part.1;
      start = eqb-true x.start y.start start.1;
      offset = eqb-true x.range.offset y.range.offset ranges.0;
      length = eqb-true x.range.length y.range.length ranges.1;
    }

-- ---- fields

-- the number of a site with a field
pub number_of : (t : Site) (v : SymbolValue) (f : List ℕ) → site_field_with t v ≡ Ok f → v ≡ Number (number_or_0 v)
number_of t (Number x) f e = refl
number_of t NotDefined f e = absurd (let none : ⊥ = cc in none)
number_of t NotInOutput f e = absurd (let none : ⊥ = cc in none)

one_field : (t : Site) (v w : SymbolValue) (f g : List ℕ) → site_field_with t v ≡ Ok f → site_field_with t w ≡ Ok g
    → number_or_0 v ≡ number_or_0 w → f ≡ g
one_field t v w f g e h n =
    let values : v ≡ w = number_of t v f e ∙ ap Number n ∙ sym (number_of t w g h) in
    let both : Ok f ≡ Ok g = sym e ∙ ap (site_field_with t) values ∙ h in
    cc

-- a relocation of a section, at an address
abbrev pub site_of : NamedObject → LinkedSection → ℕ → Relocation → Site
site_of o z start = λ r. record { object = o; section = z; start = start; relocation = r }

-- what two links have of a relocation of a section that starts at two addresses: one field, or two where byte i is in
-- neither
pub record Agree (p r : Project) (s u : Layout) (o : NamedObject) (z : LinkedSection) (a b i : ℕ) (x : Relocation)
    : Type 0 where
  pub first : List ℕ
  pub second : List ℕ
  pub in_first : site_field p s (site_of o z a x) ≡ Ok first
  pub in_second : site_field r u (site_of o z b x) ≡ Ok second
  pub either : (first ≡ second)
      ⊎ (IsOutside i (site_of o z b x) × (length first ≡ width x.kind) × (length second ≡ width x.kind))

abbrev fields : Project → Layout → NamedObject → LinkedSection → ℕ → List Relocation → List Patch
fields p s o z start rs = filter_map (λ t. patch_of t (site_field p s t)) (map (site_of o z start) rs)

abbrev with_field : Relocation → List ℕ → Patch
with_field x field = record { offset = x.offset; field = field }

outside : (i : ℕ) (t : Site) (field : List ℕ) → IsOutside i t → length field ≡ width t.relocation.kind
    → patches.patch_covers (with_field t.relocation field) i ≡ false
outside i t field h l = go (nat_le t.relocation.offset i) (nat_lt i (t.relocation.offset + length field)) refl refl h
  where
    go : (a b : Bool) → nat_le t.relocation.offset i ≡ a → nat_lt i (t.relocation.offset + length field) ≡ b
        → IsOutside i t → (a && b) ≡ false
    go false b e f k = refl
    go true false e f k = refl
    go true true e f (inl k) = absurd (omega (arith, k, leb-true t.relocation.offset i e))
    go true true e f (inr k) = absurd (omega (arith, k, l, ltb-true i (t.relocation.offset + length field) f))

abbrev byte_of : List ℕ → ℕ → Patch → List Patch → ℕ
byte_of bytes i a others = cond (patches.patch_covers a i) (slice_index a.field (i - a.offset))
    (patched_byte bytes others i)

module _ (p r : Project) (s u : Layout) (o : NamedObject) (z : LinkedSection) (a b i : ℕ) (bytes : List ℕ) where
  same_bytes : (xs : List Relocation) → Each (Agree p r s u o z a b i) xs
      → patched_byte bytes (fields p s o z a xs) i ≡ patched_byte bytes (fields r u o z b xs) i
  same_bytes [] h = refl
  same_bytes (x ∷ xs) h = go h.0.either (same_bytes xs h.1)
    where
      left : patched_byte bytes (fields p s o z a (x ∷ xs)) i
          ≡ byte_of bytes i (with_field x h.0.first) (fields p s o z a xs)
      left = ap (λ m. patched_byte bytes (cons_option (patch_of (site_of o z a x) m) (fields p s o z a xs)) i)
          h.0.in_first

      right : patched_byte bytes (fields r u o z b (x ∷ xs)) i
          ≡ byte_of bytes i (with_field x h.0.second) (fields r u o z b xs)
      right = ap (λ m. patched_byte bytes (cons_option (patch_of (site_of o z b x) m) (fields r u o z b xs)) i)
          h.0.in_second

      go : (h.0.first ≡ h.0.second)
          ⊎ (IsOutside i (site_of o z b x) × (length h.0.first ≡ width x.kind) × (length h.0.second ≡ width x.kind))
          → patched_byte bytes (fields p s o z a xs) i ≡ patched_byte bytes (fields r u o z b xs) i
          → patched_byte bytes (fields p s o z a (x ∷ xs)) i ≡ patched_byte bytes (fields r u o z b (x ∷ xs)) i
      go (inl e) rest =
          left ∙ ap (λ n. cond (patches.patch_covers (with_field x h.0.first) i)
          (slice_index h.0.first (i - x.offset)) n) rest
          ∙ ap (λ f. byte_of bytes i (with_field x f) (fields r u o z b xs)) e ∙ sym right
      go (inr k) rest =
          left ∙ ap (λ c. cond c (slice_index h.0.first (i - x.offset))
          (patched_byte bytes (fields p s o z a xs) i)) (outside i (site_of o z b x) h.0.first k.0 k.1)
          ∙ rest ∙ sym (ap (λ c.
          cond c (slice_index h.0.second (i - x.offset)) (patched_byte bytes (fields r u o z b xs) i))
          (outside i (site_of o z b x) h.0.second k.0 k.2)) ∙ sym right

-- the field of a site of an evaluated relocation has its width
pub wide : (p : Project) (s : Layout) (o : NamedObject) (x : LinkedSection) (start : ℕ) (r : Relocation)
    (field : List ℕ) → is_evaluated r.kind ≡ true
    → site_field p s (record { object = o; section = x; start = start; relocation = r }) ≡ Ok field → length field
    ≡ width r.kind
wide p s o x start r field e f =
    let a : Patch = record { offset = r.offset; field = field } in
    let k : Stands r a = stands p s o x start r a e
    (ap (patch_of (record { object = o; section = x; start = start; relocation = r })) f) in
    k.wide

-- ---- objects

pub object_found : (p : Project) (name : List ℕ) (o : NamedObject) → object_named p name ≡ Some o → (o.name ≡ name)
    × Contains p.objects o
object_found p name o e = go p.objects e
  where
    go : (os : List NamedObject) → find (λ (y : NamedObject). bytes_eq y.name name) os ≡ Some o → (o.name ≡ name)
        × Contains os o
    go [] k = absurd (let none : ⊥ = cc in none)
    go (y ∷ ys) k = on (bytes_eq y.name name) refl k (go ys)
      where
        on : (b : Bool) → bytes_eq y.name name ≡ b
            → cond b (Some y) (find (λ (z : NamedObject). bytes_eq z.name name) ys) ≡ Some o
            → (find (λ (z : NamedObject). bytes_eq z.name name) ys ≡ Some o → (o.name ≡ name) × Contains ys o)
            → (o.name ≡ name) × Contains (y ∷ ys) o
        on true f m rest = let is : y ≡ o = cc in (
          ap (λ (z : NamedObject). z.name) (sym is)
              ∙ (bytes_eq-Decides y.name name).0 f,
          subst (λ z. Contains (y ∷ ys) z) is (here y ys),
        )
        on false f m rest = let k' = rest m in (k'.0, later y ys o k'.1)

abbrev named_object : List ℕ → ObjectData → NamedObject
named_object name object = record { name = name; object = object }

one_object : (o n : NamedObject) → o.name ≡ n.name → o.object ≡ n.object → o ≡ n
one_object o n e f = ap (λ name. named_object name o.object) e ∙ ap (named_object n.name) f

-- bytes that no file has spell an object without sections
no_sections : sections_of [] ≡ []
unfolding sections_of u16_at
no_sections = refl

abbrev pub IsBare : Option NamedObject → Type 0
IsBare None = Unit {0}
IsBare (Some o) = o.object.sections ≡ []

read_object : (p : Project) (name : List ℕ) (o : NamedObject) → AreRead p → object_named p name ≡ Some o → o.object
    ≡ object_of o.object.text
read_object p name o h e =
    member_of (λ (y : NamedObject). y.object ≡ object_of y.object.text) p.objects o h (object_found p name o e).1

bare : (p : Project) (name : List ℕ) (o : NamedObject) → AreRead p → object_named p name ≡ Some o → o.object.text ≡ []
    → o.object.sections ≡ []
bare p name o h e t =
    let object : o.object ≡ object_of [] = read_object p name o h e ∙ ap object_of t in
    ap (λ (d : ObjectData). d.sections) object ∙ no_sections

-- objects of one name and one text are one, or have no sections
pub same_object : (p r : Project) (name : List ℕ) → AreRead p → AreRead r → text_of p name ≡ text_of r name
    → (object_named p name ≡ object_named r name) ⊎ (IsBare (object_named p name) × IsBare (object_named r name))
same_object p r name g h e = go (object_named p name) (object_named r name) refl refl e
  where
    go : (m n : Option NamedObject) → object_named p name ≡ m → object_named r name ≡ n
        → option_map_or (λ (o : NamedObject). o.object.text) m []
        ≡ option_map_or (λ (o : NamedObject). o.object.text) n [] → (m ≡ n) ⊎ (IsBare m × IsBare n)
    go None None a b f = inl refl
    go None (Some o) a b f = inr (tt, bare r name o h b (sym f))
    go (Some o) None a b f = inr (bare p name o g a f, tt)
    go (Some o) (Some n) a b f =
        let objects : o.object ≡ n.object = read_object p name o g a ∙ ap object_of f
        ∙ sym (read_object r name n h b) in
        inl (ap Some (one_object o n ((object_found p name o a).0 ∙ sym (object_found r name n b).0) objects))

-- ---- the sites of a linked piece, by its parts

abbrev pub by_section : NamedObject → ℕ → Option LinkedSection → List Site
by_section o start None = []
by_section o start (Some z) = sites_at o z start

abbrev pub by_object : ℕ → Part → Option NamedObject → List Site
by_object start (InTable k) m = option_map_or (λ o. by_section o start (section_numbered o k)) m []
by_object start (InCommon k) m = []

in_one : (x : LinkedPiece) (o : NamedObject) (m : Option LinkedSection) → sites_in_section o x m
    ≡ by_section o x.start m
in_one x o None = refl
in_one x o (Some z) = refl

in_object : (x : LinkedPiece) (k : SectionIndex) (m : Option NamedObject)
    → option_map_or (λ o. sites_in_section o x (section_numbered o k)) m [] ≡ by_object x.start (InTable k) m
in_object x k None = refl
in_object x k (Some o) = in_one x o (section_numbered o k)

by_part : (p : Project) (x : LinkedPiece) (part : Part) → sites_in_part p x part
    ≡ by_object x.start part (object_named p x.object)
by_part p x (InTable k) = in_object x k (object_named p x.object)
by_part p x (InCommon k) = refl

pub sites_by : (p : Project) (x : LinkedPiece) → sites_in p x ≡ by_object x.start x.part (object_named p x.object)
sites_by p x = by_part p x x.part

pub unmoved : (a b : ℕ) → not (a == b) ≡ false → a ≡ b
unmoved a b e = go (a == b) refl e
  where
    go : (c : Bool) → (a == b) ≡ c → not c ≡ false → a ≡ b
    go true f k = eqb-true a b f
    go false f k = absurd (true≢false k)

-- ---- the two links

abbrev part_of_object : Project → Layout → ℕ → ℕ → Part → Option NamedObject → ℕ
part_of_object p s start i (InTable k) m = option_map_or (object_byte p s k start i) m 0
part_of_object p s start i (InCommon k) m = 0

part_by : (p : Project) (s : Layout) (object : List ℕ) (part : Part) (start i : ℕ) → part_byte p s object part start i
    ≡ part_of_object p s start i part (object_named p object)
part_by p s object (InTable k) start i = refl
part_by p s object (InCommon k) start i = refl

-- an object without sections has no sites, and no byte of one
no_sites : (start : ℕ) (part : Part) (m : Option NamedObject) → IsBare m → by_object start part m ≡ []
no_sites start (InCommon k) m e = refl
no_sites start (InTable k) None e = refl
no_sites start (InTable k) (Some o) e =
    ap (λ zs. by_section o start (find (λ (z : LinkedSection). z.number.0 == k.0) zs)) e

none : (p : Project) (s : Layout) (start i : ℕ) (part : Part) (m : Option NamedObject) → IsBare m
    → part_of_object p s start i part m ≡ 0
none p s start i (InCommon k) m e = refl
none p s start i (InTable k) None e = refl
none p s start i (InTable k) (Some o) e =
    ap (λ zs. option_map_or (section_byte p s o start i) (find (λ (z : LinkedSection). z.number.0 == k.0) zs) 0) e

-- byte i of a part that starts at two addresses, where the fields of its sections agree
module _ (p r : Project) (s u : Layout) (a b i : ℕ) (before after : List Site)
    (agree : (o : NamedObject) (z : LinkedSection) → before ≡ sites_at o z a → after ≡ sites_at o z b
    → (x : Relocation) → Contains (filter (λ (w : Relocation). is_evaluated w.kind) z.relocations) x
    → Agree p r s u o z a b i x) where
  of_one : (part : Part) (m : Option NamedObject) → before ≡ by_object a part m → after ≡ by_object b part m
      → part_of_object p s a i part m ≡ part_of_object r u b i part m
  of_one (InCommon k) m e f = refl
  of_one (InTable k) None e f = refl
  of_one (InTable k) (Some o) e f = go (section_numbered o k) e f
    where
      go : (n : Option LinkedSection) → before ≡ by_section o a n → after ≡ by_section o b n
          → option_map_or (section_byte p s o a i) n 0 ≡ option_map_or (section_byte r u o b i) n 0
      go None c d = refl
      go (Some z) c d =
          same_bytes p r s u o z a b i z.bytes (filter (λ (w : Relocation). is_evaluated w.kind) z.relocations)
          (each_member (Agree p r s u o z a b i) (filter (λ (w : Relocation). is_evaluated w.kind) z.relocations)
          (agree o z c d))

  pub parts_same : (name : List ℕ) (part : Part)
      → (object_named p name ≡ object_named r name) ⊎ (IsBare (object_named p name) × IsBare (object_named r name))
      → before ≡ by_object a part (object_named p name) → after ≡ by_object b part (object_named r name)
      → part_byte p s name part a i ≡ part_byte r u name part b i
  parts_same name part objects e f =
      part_by p s name part a i ∙ go objects ∙ sym (part_by r u name part b i)
    where
      go : (object_named p name ≡ object_named r name) ⊎ (IsBare (object_named p name) × IsBare (object_named r name))
          → part_of_object p s a i part (object_named p name) ≡ part_of_object r u b i part (object_named r name)
      go (inl same) =
          ap (part_of_object p s a i part) same
          ∙ of_one part (object_named r name) (e ∙ ap (by_object a part) same) f
      go (inr k) = none p s a i part (object_named p name) k.0 ∙ sym (none r u b i part (object_named r name) k.1)

module _ (old new : GoodLink) (g : IsGood old) (read : AreRead new.project) (x : LinkedPiece)
    (stays : Contains (stayed old new) x) where
  in_both : Contains (link_pieces new) x × (has_stayed old x ≡ true)
  unfolding stayed
  in_both = in_filter (has_stayed old) (link_pieces new) x stays

  found : Passes (same_piece x) (link_pieces old)
  found = in_any (same_piece x) (link_pieces old) in_both.1

  abbrev y : LinkedPiece
  y = found.member

  alike : SamePiece x y
  alike = same x y found.passes

  text : text_of old.project x.object ≡ text_of new.project x.object
  text = ap (text_of old.project) alike.object ∙ sym (linked_text old y found.among) ∙ sym alike.text
      ∙ linked_text new x in_both.0

  objects : (object_named old.project x.object ≡ object_named new.project x.object)
      ⊎ (IsBare (object_named old.project x.object) × IsBare (object_named new.project x.object))
  objects = same_object old.project new.project x.object g.read read text

  -- the sites of the old piece
  old_sites : sites_in old.project y ≡ by_object x.start x.part (object_named old.project x.object)
  old_sites =
      sites_by old.project y ∙ ap (λ n. by_object n y.part (object_named old.project y.object)) (sym alike.start)
      ∙ ap (λ part. by_object x.start part (object_named old.project y.object)) (sym alike.part)
      ∙ ap (λ name. by_object x.start x.part (object_named old.project name)) (sym alike.object)

  same_sites : sites_in old.project y ≡ sites_in new.project x
  same_sites = old_sites ∙ go objects ∙ sym (sites_by new.project x)
    where
      go : (object_named old.project x.object ≡ object_named new.project x.object)
          ⊎ (IsBare (object_named old.project x.object) × IsBare (object_named new.project x.object))
          → by_object x.start x.part (object_named old.project x.object)
          ≡ by_object x.start x.part (object_named new.project x.object)
      go (inl e) = ap (by_object x.start x.part) e
      go (inr k) = no_sites x.start x.part (object_named old.project x.object) k.0
          ∙ sym (no_sites x.start x.part (object_named new.project x.object) k.1)

  -- a site of it has a field in both links
  pub in_old : (t : Site) → Contains (sites_in new.project x) t → HasField old t
  in_old t c = member_of (HasField old) (sites_in old.project y) t (g.fields y found.among)
      (subst (λ ts. Contains ts t) (sym same_sites) c)

  module _ (h : IsGood new) where
    pub in_new : (t : Site) → Contains (sites_in new.project x) t → HasField new t
    in_new t c = member_of (HasField new) (sites_in new.project x) t (h.fields x in_both.0) c

    is_retargeted : (t : Site) → Contains (sites_in new.project x) t → has_other_value old new t ≡ true
        → Contains (retargeted old new) t
    unfolding retargeted
    is_retargeted t c e =
        filter_in (has_other_value old new) (flat_map (sites_in new.project) (stayed old new)) t
        (flat_map_in (sites_in new.project) (stayed old new) x t stays c) e

    module _ (i : ℕ) (clear : (t : Site) → Contains (retargeted old new) t → Contains (sites_in new.project x) t
        → IsOutside i t) where
      agree : (o : NamedObject) (z : LinkedSection) → sites_in old.project y ≡ sites_at o z x.start
          → sites_in new.project x ≡ sites_at o z x.start → (r : Relocation)
          → Contains (filter (λ (w : Relocation). is_evaluated w.kind) z.relocations) r
          → Agree old.project new.project old.layout new.layout o z x.start x.start i r
      unfolding site_field
      agree o z all_old all_new r c = go (has_other_value old new t) refl
        where
          t : Site
          t = site_of o z x.start r

          in_x : Contains (sites_in new.project x) t
          in_x = subst (λ ts. Contains ts t) (sym all_new)
              (map_in (site_of o z x.start) (filter (λ (w : Relocation). is_evaluated w.kind) z.relocations) r c)

          first : HasField old t
          first = in_old t in_x

          second : HasField new t
          second = in_new t in_x

          is : is_evaluated r.kind ≡ true
          is = (in_filter (λ (w : Relocation). is_evaluated w.kind) z.relocations r c).1

          go : (b : Bool) → has_other_value old new t ≡ b
              → Agree old.project new.project old.layout new.layout o z x.start x.start i r
          go true e = record {
            first = first.0;
            second = second.0;
            in_first = first.1;
            in_second = second.1;
            either = inr (
              clear t (is_retargeted t in_x e) in_x,
              wide old.project old.layout o z x.start r first.0 is first.1,
              wide new.project new.layout o z x.start r second.0 is second.1,
            );
          }
          go false e = record {
            first = first.0;
            second = second.0;
            in_first = first.1;
            in_second = second.1;
            either = inl (one_field t (site_value old.project old.layout t) (site_value new.project new.layout t)
                first.0 second.0 first.1 second.1 (unmoved (site_value_in old t) (site_value_in new t) e));
          }

      untouched_byte : i < x.range.length → byte_at old.project old.layout (x.range.offset + i)
          ≡ byte_at new.project new.layout (x.range.offset + i)
      untouched_byte low =
          ap (λ n. byte_at old.project old.layout (n + i)) alike.offset
          ∙ (known old g y found.among).byte i (subst (λ n. i < n) alike.length low)
          ∙ ap (λ n. part_byte old.project old.layout y.object y.part n i) (sym alike.start)
          ∙ ap (λ part. part_byte old.project old.layout y.object part x.start i) (sym alike.part)
          ∙ ap (λ name. part_byte old.project old.layout name x.part x.start i) (sym alike.object)
          ∙ parts_same old.project new.project old.layout new.layout x.start x.start i (sites_in old.project y)
          (sites_in new.project x) agree x.object x.part objects old_sites (sites_by new.project x)
          ∙ sym ((known new h x in_both.0).byte i low)

pub untouched : (old new : GoodLink) → IsGood old → IsGood new → (x : LinkedPiece) → Contains (stayed old new) x
    → (i : ℕ) → ((t : Site) → Contains (retargeted old new) t → Contains (sites_in new.project x) t → IsOutside i t)
    → i < x.range.length
    → byte_at old.project old.layout (x.range.offset + i) ≡ byte_at new.project new.layout (x.range.offset + i)
untouched old new g h x stays i clear = untouched_byte old new g h.read x stays h i clear

-- ---- retargeted sites

-- a value that gives a field is a number
is_number : (t : Site) (v : SymbolValue) (f : List ℕ) → site_field_with t v ≡ Ok f → v ≢ NotInOutput
is_number t (Number n) f e k = absurd (let none : ⊥ = cc in none)
is_number t NotDefined f e k = absurd (let none : ⊥ = cc in none)
is_number t NotInOutput f e k = absurd (let none : ⊥ = cc in none)

value_by : (p : Project) (s : Layout) (t : Site) (a : NamedSymbol) → site_symbol t ≡ Some a → site_value p s t
    ≡ referenced_value p s t.object a
value_by p s t a e = ap (λ m. option_map_or (referenced_value p s t.object) m NotDefined) e

-- a site whose symbol has another value names a target whose number is another
pub other_target : (old new : GoodLink) → IsGood old → IsGood new → (t : Site) (a : NamedSymbol)
    → Contains (retargeted old new) t → site_symbol t ≡ Some a
    → target_number old.project old.layout (target_of t.object a) ≢ target_number new.project new.layout
    (target_of t.object a)
unfolding retargeted site_field
other_target old new g h t a c e same_number =
    let both = in_filter (has_other_value old new) (flat_map (sites_in new.project) (stayed old new)) t c in
    let k = in_flat_map (sites_in new.project) (stayed old new) t both.0 in
    let first : HasField old t = in_old old new g h.read k.origin k.among t k.gives in
    let second : HasField new t = in_new old new g h.read k.origin k.among h t k.gives in
    let left : site_value old.project old.layout t ≡ referenced_value old.project old.layout t.object a =
    value_by old.project old.layout t a e in
    let right : site_value new.project new.layout t ≡ referenced_value new.project new.layout t.object a =
    value_by new.project new.layout t a e in
    let values = same_value old.project new.project old.layout new.layout t.object a
    (λ n. is_number t (site_value old.project old.layout t) first.0 first.1 (left ∙ n)) (λ n.
    is_number t (site_value new.project new.layout t) second.0 second.1 (right ∙ n)) same_number in
    let equal : site_value_in old t ≡ site_value_in new t = ap number_or_0 left ∙ values ∙ ap number_or_0 (sym right) in
    false≢true (sym (ap not (eq-eqb (site_value_in old t) (site_value_in new t) equal)) ∙ both.1)
