-- The byte of the image by cases that stand in one another is that of the first case of `Image`.
use Rattle.ldmodel_laws.proofs.Common.{Bool, InCommon, InTable, Layout, LinkedSection, List, NamedObject, None, Option}
use Rattle.ldmodel_laws.proofs.Common.{Part, Patch, PlacedData, PlacedOutput, PlacedPiece, Project, SectionIndex, Some}
use Rattle.ldmodel_laws.proofs.Common.{[], byte_at, cond, covering_data, covering_piece, false, fields_of, file_headers}
use Rattle.ldmodel_laws.proofs.Common.{file_section_at, find, length, nat_lt, object_named, option_and_then, option_map}
use Rattle.ldmodel_laws.proofs.Common.{option_map_or, patch_covers, patched_byte, refl, section_numbered, slice_index}
use Rattle.ldmodel_laws.proofs.Common.{tail_at, true, ℕ, ◌+◌, ◌-◌, ◌∷◌, ◌≡◌}
use Rattle.ldmodel.specs.Image.{data_byte, field_byte, first_of, gap_byte, linked_part, own_byte, piece_field_byte}
use Rattle.ldmodel.specs.Image.{placed_byte, section_case, tail_case}
use Rattle.ldmodel.specs.SectionHeaders.{FilePart}
use Rattle.ldmodel.specs.Segments.{SectionInFile}
use Rattle.ldmodel_laws.specs.ByteCases.{byte_among, byte_past_headers, object_byte, output_byte, part_byte}
use Rattle.ldmodel_laws.specs.ByteCases.{section_byte}

-- the field that covers a byte, else the section's own byte
patched : (bytes : List ℕ) (fields : List Patch) (i : ℕ) (rest : List (Option ℕ))
    → first_of (field_byte fields i ∷ Some (slice_index bytes i) ∷ rest) ≡ patched_byte bytes fields i
patched bytes [] i rest = refl
patched bytes (f ∷ fs) i rest = go (patch_covers f i) (patched bytes fs i rest)
  where
    go : (b : Bool) → first_of (field_byte fs i ∷ Some (slice_index bytes i) ∷ rest) ≡ patched_byte bytes fs i
        → first_of (option_map (λ (g : Patch). slice_index g.field (i - g.offset))
        (cond b (Some f) (find (λ (g : Patch). patch_covers g i) fs)) ∷ Some (slice_index bytes i) ∷ rest)
        ≡ cond b (slice_index f.field (i - f.offset)) (patched_byte bytes fs i)
    go true h = refl
    go false h = h

module _ (p : Project) (s : Layout) where
  module _ (x : PlacedPiece) (at : ℕ) (rest : List (Option ℕ)) where
    abbrev field_in : Option (NamedObject × LinkedSection) → Option ℕ
    field_in = option_and_then (λ (z : NamedObject × LinkedSection).
        field_byte (fields_of p s z.0 z.1 x.start) (at - x.start))

    abbrev own_in : Option (NamedObject × LinkedSection) → ℕ
    own_in z = option_map_or (λ (z : NamedObject × LinkedSection). slice_index z.1.bytes (at - x.start)) z 0

    by_section : (o : NamedObject) (m : Option LinkedSection)
        → first_of (field_in (option_map (λ (y : LinkedSection). (o, y)) m)
        ∷ Some (own_in (option_map (λ (y : LinkedSection). (o, y)) m)) ∷ rest)
        ≡ option_map_or (section_byte p s o x.start (at - x.start)) m 0
    by_section o None = refl
    by_section o (Some y) = patched y.bytes (fields_of p s o y x.start) (at - x.start) rest

    by_object : (k : SectionIndex) (m : Option NamedObject)
        → first_of (field_in (option_and_then (λ (o : NamedObject).
        option_map (λ (y : LinkedSection). (o, y)) (section_numbered o k)) m)
        ∷ Some (own_in (option_and_then (λ (o : NamedObject).
        option_map (λ (y : LinkedSection). (o, y)) (section_numbered o k)) m)) ∷ rest)
        ≡ option_map_or (object_byte p s k x.start (at - x.start)) m 0
    by_object k None = refl
    by_object k (Some o) = by_section o (section_numbered o k)

    by_part : (part : Part) → first_of (field_in (linked_part p x.piece.object part)
        ∷ Some (own_in (linked_part p x.piece.object part)) ∷ rest)
        ≡ part_byte p s x.piece.object part x.start (at - x.start)
    by_part (InTable k) = by_object k (object_named p x.piece.object)
    by_part (InCommon e) = refl

  among : (q : PlacedOutput) (at : ℕ) (x : Option PlacedPiece) (d : Option PlacedData)
      → first_of (option_and_then (piece_field_byte p s at) x ∷ option_map (own_byte p at) x
      ∷ option_map (data_byte at) d ∷ Some (gap_byte q at) ∷ []) ≡ byte_among p s q at x d
  among q at (Some x) d = by_part x at (option_map (data_byte at) d ∷ Some (gap_byte q at) ∷ []) x.piece.part
  among q at None (Some d) = refl
  among q at None None = refl

  pub placed_by_cases : (q : PlacedOutput) (at : ℕ) → placed_byte p s q at ≡ output_byte p s q at
  placed_by_cases q at = among q at (covering_piece q at) (covering_data q at)

  past : (o : ℕ) (x : Option SectionInFile) (t : Option FilePart)
      → first_of (option_map (λ (y : SectionInFile). placed_byte p s y.section (y.section.start + (o - y.offset))) x
      ∷ option_map (λ (y : FilePart). slice_index y.bytes (o - y.offset)) t ∷ []) ≡ byte_past_headers p s o x t
  past o (Some x) t = placed_by_cases x.section (x.section.start + (o - x.offset))
  past o None (Some t) = refl
  past o None None = refl

  abbrev by_header : ℕ → Bool → ℕ
  by_header o b =
      cond b (slice_index (file_headers p s) o) (byte_past_headers p s o (file_section_at s o) (tail_at p s o))

  pub by_cases : (o : ℕ) → byte_at p s o ≡ by_header o (nat_lt o (length (file_headers p s)))
  unfolding byte_at
  by_cases o = go (nat_lt o (length (file_headers p s)))
    where
      go : (b : Bool) → first_of (cond b (Some (slice_index (file_headers p s) o)) None ∷ section_case p s o
          ∷ tail_case p s o ∷ []) ≡ by_header o b
      go true = refl
      go false = past o (file_section_at s o) (tail_at p s o)
