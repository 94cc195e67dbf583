-- The other objects of two projects of which one object differs: they are the same, with the same values of symbols.
use Rattle.emit.proofs.Common.{Bool, Contains, DiffersInContents, HasSameFrame, InCommon, InTable, Layout}
use Rattle.emit.proofs.Common.{LinkedSection, List, NamedObject, NamedSymbol, None, NotDefined, ObjectOutline, Option}
use Rattle.emit.proofs.Common.{Part, Project, Relocation, SectionIndex, Site, Some, ap, bytes_eq, cond, eq-eqb}
use Rattle.emit.proofs.Common.{eqb-true, false, false≢true, fields_of, filter, in_map, is_evaluated, object_byte}
use Rattle.emit.proofs.Common.{object_named, object_outline, option_map, option_map_or, part_byte, patch_of}
use Rattle.emit.proofs.Common.{patched_byte, refl, same_Some, section_byte, section_numbered, site_field, site_value}
use Rattle.emit.proofs.Common.{sites_at, slice_get, slice_get-map, sym, true, ℕ, ◌==◌, ◌∙◌, ◌≡◌}
use Rattle.ldmodel.specs.Relocations.{site_field_with, site_symbol}
use Rattle.ldmodel.specs.Targets.{referenced_value}
use Rattle.emit.proofs.Places.{Found, found, find_by_place, kept, same_results}

-- a site of a section is one of its object
pub object_of_site : (o : NamedObject) (x : LinkedSection) (start : ℕ) (t : Site) → Contains (sites_at o x start) t
    → t.object ≡ o
object_of_site o x start t c =
    let f : Relocation → Site = λ r. record { object = o; section = x; start = start; relocation = r } in
    let k = in_map f (filter (λ (r : Relocation). is_evaluated r.kind) x.relocations) t c in
    sym (ap (λ (u : Site). u.object) k.gives)

module _ (p q : Project) (s : Layout) (i : ℕ) (h : DiffersInContents p q i) (b : NamedObject)
    (at_i : slice_get q.objects i ≡ Some b) where
  -- the object before has the outline of the one after
  pub outline_before : (a : NamedObject) → slice_get p.objects i ≡ Some a → object_outline a ≡ object_outline b
  outline_before a e =
      same_Some _ _ (
      sym (slice_get-map object_outline p.objects i ∙ ap (option_map object_outline) e)
      ∙ ap (λ os. slice_get os i) h.outlines
      ∙ slice_get-map object_outline q.objects i ∙ ap (option_map object_outline) at_i
      )

  pub name_before : (a : NamedObject) → slice_get p.objects i ≡ Some a → a.name ≡ b.name
  name_before a e = ap (λ (x : ObjectOutline). x.name) (outline_before a e)

  -- a name that is not that of the object stands for the same object
  module _ (name : List ℕ) (other : bytes_eq b.name name ≡ false) where
    abbrev test : NamedObject → Bool
    test o = bytes_eq o.name name

    here_before : (m : Option NamedObject) → slice_get p.objects i ≡ m → kept test m ≡ None
    here_before None e = refl
    here_before (Some a) e =
        ap (λ t. cond t (Some a) None) (ap (λ n. bytes_eq n name) (name_before a e) ∙ other)

    here_after : kept test (slice_get q.objects i) ≡ None
    here_after = ap (kept test) at_i ∙ ap (λ t. cond t (Some b) None) other

    at_each : (j : ℕ) → kept test (slice_get p.objects j) ≡ kept test (slice_get q.objects j)
    at_each j = go (j == i) refl
      where
        go : (e : Bool) → (j == i) ≡ e → kept test (slice_get p.objects j) ≡ kept test (slice_get q.objects j)
        go true e =
            let is : j ≡ i = eqb-true j i e in
            ap (λ k. kept test (slice_get p.objects k)) is ∙ here_before (slice_get p.objects i) refl
            ∙ sym here_after ∙ ap (λ k. kept test (slice_get q.objects k)) (sym is)
        go false e = ap (kept test) (h.others j (λ is. false≢true (sym e ∙ eq-eqb j i is)))

    pub same_object : object_named p name ≡ object_named q name
    same_object = find_by_place test p.objects q.objects at_each

    -- and this object has its place in both
    pub place_in_both : (o : NamedObject) → object_named q name ≡ Some o
        → (j : ℕ) × (slice_get p.objects j ≡ Some o) × (slice_get q.objects j ≡ Some o)
    place_in_both o e =
        let k : Found test q.objects o = found test q.objects o e in
        (k.place, h.others k.place (λ is. elsewhere k is) ∙ k.is, k.is)
      where
        elsewhere : (k : Found test q.objects o) → k.place ≡ i → ⊥
        elsewhere k is =
            let same : o ≡ b = same_Some _ _ (sym k.is ∙ ap (slice_get q.objects) is ∙ at_i) in
            false≢true (sym other ∙ ap (λ (x : NamedObject). test x) (sym same) ∙ k.passes)

  -- a site of an object in one place of both has the same field
  module _ (frame : HasSameFrame p q s) (j : ℕ) (o : NamedObject) (in_p : slice_get p.objects j ≡ Some o)
      (in_q : slice_get q.objects j ≡ Some o) where
    value_same : (t : Site) → t.object ≡ o → site_value p s t ≡ site_value q s t
    value_same t own = go (site_symbol t)
      where
        go : (m : Option NamedSymbol) → option_map_or (referenced_value p s t.object) m NotDefined
            ≡ option_map_or (referenced_value q s t.object) m NotDefined
        go None = refl
        go (Some x) =
            ap (λ u. referenced_value p s u x) own ∙ frame.references j o o x in_p in_q
            ∙ ap (λ u. referenced_value q s u x) (sym own)

    pub field_same : (t : Site) → t.object ≡ o → site_field p s t ≡ site_field q s t
    unfolding site_field
    field_same t own = ap (site_field_with t) (value_same t own)

    fields_same : (x : LinkedSection) (start : ℕ) → fields_of p s o x start ≡ fields_of q s o x start
    fields_same x start =
        same_results (λ t. patch_of t (site_field p s t)) (λ t. patch_of t (site_field q s t)) (sites_at o x start)
        (λ t c. ap (patch_of t) (field_same t (object_of_site o x start t c)))

    pub object_byte_same : (k : SectionIndex) (start n : ℕ) → object_byte p s k start n o ≡ object_byte q s k start n o
    object_byte_same k start n = go (section_numbered o k)
      where
        go : (m : Option LinkedSection) → option_map_or (section_byte p s o start n) m 0
            ≡ option_map_or (section_byte q s o start n) m 0
        go None = refl
        go (Some x) = ap (λ fs. patched_byte x.bytes fs n) (fields_same x start)

  -- the bytes of an input section of another object are the same
  pub part_same : HasSameFrame p q s → (name : List ℕ) → bytes_eq b.name name ≡ false → (part : Part) (start n : ℕ)
      → part_byte p s name part start n ≡ part_byte q s name part start n
  part_same frame name other (InCommon k) start n = refl
  part_same frame name other (InTable k) start n =
      ap (λ m. option_map_or (object_byte p s k start n) m 0) (same_object name other)
      ∙ go (object_named q name) refl
    where
      go : (m : Option NamedObject) → object_named q name ≡ m
          → option_map_or (object_byte p s k start n) m 0 ≡ option_map_or (object_byte q s k start n) m 0
      go None e = refl
      go (Some o) e = let at = place_in_both name other o e in object_byte_same frame at.0 o at.1 at.2 k start n
