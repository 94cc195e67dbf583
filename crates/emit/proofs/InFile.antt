-- An output section of a layout with an input section that brings bytes has bytes in the file.
use Rattle.emit.proofs.Common.{All, All-nil, All-push, Bool, Contains, IsSpread, Layout, List, OutputSection}
use Rattle.emit.proofs.Common.{OutputSectionAt, PlacedOutput, PlacedPiece, Project, Region, SectionKind, Statement, []}
use Rattle.emit.proofs.Common.{any_in, ap, arith, cond, false, file_offset, is_in_file, is_nobits, length, list_any}
use Rattle.emit.proofs.Common.{member_of, ne_eqb, not, nothing_placed, output_sections, piece_end, placed_section, refl}
use Rattle.emit.proofs.Common.{regions, segments, subst, sym, true, ◌&&◌, ◌+◌, ◌-◌, ◌<◌, ◌==◌, ◌||◌, ◌∙◌, ◌∷◌, ◌≡◌, ◌≤◌}
use Rattle.elfobj.specs.declared.section.SectionKind.TheVariants as kinds
use Rattle.ldmodel_laws.specs.Traces.{AddsSection, Trace, all_added, nothing_added, region_added, section_added}
use Rattle.ldmodel.specs.Stayed.{linked_piece}
use Rattle.ldmodel.specs.Stayed.{FileRange as FileBytes}

-- an output section has bytes in the file by what stands in it
abbrev pub IsByContents : PlacedOutput → Type 0
IsByContents q =
    q.has_file_bytes
    ≡ (not (q.size == 0) && (not (length q.data_commands == 0) || list_any is_in_file q.pieces))

abbrev AllIn : Layout → Type 0
AllIn s = All IsByContents s.sections

section_in : (s : Layout) (o : OutputSection) (t : Layout) → AddsSection s o t → AllIn s → AllIn t
unfolding placed_section
section_in s o t h all =
    subst AllIn h.after
    (All-push IsByContents h.last.layout.sections (placed_section o h.head h.last)
    (subst (All IsByContents) (sym h.nothing.sections) all) refl)

traced_in : (s u : Layout) (rs : List Region) (os : List OutputSectionAt) → Trace s rs os u → AllIn s → AllIn u
traced_in s u [] [] all_added all = all
traced_in s u rs os (nothing_added {t = t} h more) all =
    traced_in t u rs os more (subst (All IsByContents) (sym h.sections) all)
traced_in s u (r ∷ rs) os (region_added origin extent more) all = traced_in _ u rs os more all
traced_in s u rs (o ∷ os) (section_added {t = t} h more) all =
    traced_in t u rs os more (section_in s o.section t h all)

pub all_by_contents : (script : List Statement) (s : Layout)
    → Trace nothing_placed (regions script) (output_sections script) s → All IsByContents s.sections
all_by_contents script s trace =
    traced_in nothing_placed s (regions script) (output_sections script) trace (All-nil IsByContents)

-- ---- an input section that brings bytes

not_nobits : (k : SectionKind) → (k ≡ kinds.Nobits → ⊥) → is_nobits k ≡ false
not_nobits kinds.Progbits h = refl
not_nobits kinds.Nobits h = absurd (h refl)
not_nobits kinds.Note h = refl
not_nobits kinds.InitArray h = refl
not_nobits kinds.FiniArray h = refl
not_nobits kinds.PreinitArray h = refl
not_nobits kinds.Unwind h = refl

module _ (q : PlacedOutput) (spread : IsSpread q) (contents : IsByContents q) (z : PlacedPiece)
    (among : Contains q.pieces z) (some : 0 < z.piece.size) (bytes : z.piece.kind ≡ kinds.Nobits → ⊥) where
  full : not (z.piece.size == 0) ≡ true
  full = ap not (ne_eqb z.piece.size 0 (λ e. absurd (omega (arith, some, e))))

  large : not (q.size == 0) ≡ true
  large =
      let inside = member_of (λ (x : PlacedPiece). (q.start ≤ x.start) × (piece_end x ≤ q.start + q.size)) q.pieces z
      spread.pieces_inside among in
      let low = inside.0 in
      let high = inside.1 in
      ap not (ne_eqb q.size 0 (λ e. absurd (omega (arith, some, low, high, e))))

  brings : is_in_file z ≡ true
  brings = ap (λ b. not b && not (z.piece.size == 0)) (not_nobits z.piece.kind bytes) ∙ full

  has_bytes : q.has_file_bytes ≡ true
  has_bytes =
      contents
      ∙ ap (λ b. b && (not (length q.data_commands == 0) || list_any is_in_file q.pieces)) large
      ∙ ap (λ b. not (length q.data_commands == 0) || b) (any_in is_in_file q.pieces z among brings)
      ∙ or_true (not (length q.data_commands == 0))
    where
      or_true : (a : Bool) → (a || true) ≡ true
      or_true true = refl
      or_true false = refl

  -- it has all its bytes in the file
  pub whole_range : (p : Project) (s : Layout)
      → (linked_piece p (segments s.sections) q z).range.length ≡ z.piece.size
  whole_range p s =
      at (q.has_file_bytes && not (z.piece.size == 0))
      (ap (λ b. b && not (z.piece.size == 0)) has_bytes ∙ full)
    where
      at : (b : Bool) → b ≡ true → (cond {A = FileBytes} b
          (record { offset = file_offset (segments s.sections) q + (z.start - q.start); length = z.piece.size })
          (record { offset = 0; length = 0 })).length
          ≡ z.piece.size
      at true e = refl
      at false e = cc
