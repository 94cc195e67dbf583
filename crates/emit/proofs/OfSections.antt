-- Sections of objects as they are drawn.
use Rattle.emit.proofs.Common.{All, AreInOrder, HasRelocationsOfProfile, ImagePiece, InTable, IsRun, IsRunAt, IsRunOf}
use Rattle.emit.proofs.Common.{IsSectionOfProfile, IsSectionPiece, KnownLink, LinkedSection, List, NamedObject, Nobits}
use Rattle.emit.proofs.Common.{ObjectData, Option, Patch, PlacedPiece, Progbits, Relocation, Section, SectionKind, Some}
use Rattle.emit.proofs.Common.{[], ap, false, fields_of, filter, filter_map, get_or, get_or_from_slice_get, inl}
use Rattle.emit.proofs.Common.{is_evaluated, length, map, nil_from_length, option_map, patch_of, patched_byte}
use Rattle.emit.proofs.Common.{placed_part, refl, same_Some, section_of, site_field, size_in_file, slice_get}
use Rattle.emit.proofs.Common.{slice_get-map, slice_get_within, subst, sym, ℕ, ◌∙◌, ◌≡◌, ◌≤◌}
use Rattle.elfobj.specs.Relocations.{field_end}
use Rattle.elfobj.specs.declared.section.SectionKind.TheVariants.{Note, InitArray, FiniArray, PreinitArray, Unwind}
use Rattle.emit.proofs.OfRows.{AreZeros, filled_zeros, zero_byte}

-- the section of an object at a place
pub section_is : (o : ObjectData) (i : ℕ) (x : LinkedSection) (d : Section) → slice_get o.sections i ≡ Some x
    → get_or (map section_of o.sections) i d ≡ section_of x
section_is o i x d e =
    get_or_from_slice_get (map section_of o.sections) i (section_of x) d
    (slice_get-map section_of o.sections i ∙ ap (option_map section_of) e)

pub bytes_are : (o : ObjectData) (i : ℕ) (x : LinkedSection) (bytes : List ℕ) → slice_get o.sections i ≡ Some x
    → slice_get (map (λ (s : LinkedSection). s.bytes) o.sections) i ≡ Some bytes → bytes ≡ x.bytes
bytes_are o i x bytes e h =
    same_Some _ _
    (sym h ∙ slice_get-map (λ (s : LinkedSection). s.bytes) o.sections i
    ∙ ap (option_map (λ (s : LinkedSection). s.bytes)) e)

pub all_at : {X : Type 0} (P : X → Type 0) (xs : List X) (i : ℕ) (x : X) → All P xs → slice_get xs i ≡ Some x → P x
all_at P xs i x h e = subst P (get_or_from_slice_get xs i x x e) (h i x (slice_get_within xs i x e))

whole_in_file : (kind : SectionKind) (size : ℕ) → (kind ≡ Nobits → ⊥) → size_in_file kind size ≡ size
whole_in_file Nobits size h = absurd (h refl)
whole_in_file Progbits size h = refl
whole_in_file Note size h = refl
whole_in_file InitArray size h = refl
whole_in_file FiniArray size h = refl
whole_in_file PreinitArray size h = refl
whole_in_file Unwind size h = refl

module _ (l : KnownLink) (o : NamedObject) (x : LinkedSection) (size start n : ℕ) (y : ImagePiece)
    (profile : IsSectionOfProfile x) (relocations : HasRelocationsOfProfile n x) where
  pub nobits_piece : x.kind ≡ Nobits → AreZeros size start y → IsSectionPiece l o x size start y
  nobits_piece kind z =
      let bytes : x.bytes ≡ [] = nil_from_length x.bytes (profile.bytes ∙ ap (λ k. size_in_file k x.size) kind) in
      let fields : fields_of l.project l.layout o x start ≡ [] =
      ap (λ rs. filter_map (λ t. patch_of t (site_field l.project l.layout t))
      (map (λ r. record { object = o; section = x; start = start; relocation = r })
      (filter (λ (r : Relocation). is_evaluated r.kind) rs)))
      (relocations.none kind) in
      record {
        start = z.0;
        size = z.1;
        bytes = λ i. zero_byte y.bytes.now y.fields.now i z.2 z.3
            ∙ sym (zero_byte x.bytes (fields_of l.project l.layout o x start) i bytes fields);
        filled = filled_zeros y z.2 z.3;
        unstayed = z.4;
      }

  run_at : (w : PlacedPiece) (a : Option PlacedPiece) (run : List Patch) → a ≡ Some w → w.start ≡ start
      → IsRunAt l (record { object = o; section = x }) a run → IsRun l o x start run
  run_at w a run e at h =
      subst (λ k. IsRun l o x k run) at (subst (λ b. IsRunAt l (record { object = o; section = x }) b run) e h)

  pub full_piece : (w : PlacedPiece) → (x.kind ≡ Nobits → ⊥) → x.size ≡ size
      → placed_part l.layout o.name (InTable x.number) ≡ Some w → w.start ≡ start → y.start ≡ start → y.size ≡ size
      → y.bytes.now ≡ x.bytes → IsRunOf l (record { object = o; section = x }) y.fields.now → y.stays ≡ false
      → IsSectionPiece l o x size start y
  full_piece w kind sized placed at begun long bytes run stays =
      let is : IsRun l o x start y.fields.now =
      run_at w (placed_part l.layout o.name (InTable x.number)) y.fields.now placed at run in
      let whole : length x.bytes ≡ x.size = profile.bytes ∙ whole_in_file x.kind x.size kind in
      let own : length y.bytes.now ≡ length x.bytes = ap length bytes in
      let ends : All (λ (r : Relocation). field_end r ≤ x.size) x.relocations =
      λ k d below. (relocations.each k d below).field in
      record {
        start = begun;
        size = long;
        bytes = λ i. ap (λ b. patched_byte b y.fields.now i) bytes ∙ is.same x.bytes i;
        filled = (
          inl (own ∙ whole ∙ sized ∙ sym long),
          subst (λ m. AreInOrder 0 m y.fields.now) (sized ∙ sym long) (is.order x.size ends),
        );
        unstayed = stays;
      }

pub section_among : (o : ObjectData) (i : ℕ) (x : LinkedSection) (ys : List Section) (d : Section)
    → ys ≡ map section_of o.sections → slice_get o.sections i ≡ Some x → get_or ys i d ≡ section_of x
section_among o i x ys d e h = ap (λ l. get_or l i d) e ∙ section_is o i x d h
