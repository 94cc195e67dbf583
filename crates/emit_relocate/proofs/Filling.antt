-- An input section, by whether it is in the output; and an object, by its place.
use Rattle.emit_relocate.proofs.Common.{Adds, EndBelow, HasAllFields, InTable, IsAdded, IsCounted, IsLinkView}
use Rattle.emit_relocate.proofs.Common.{IsPlacedAt, IsRun, IsRunAt, KnownLink, LinkView, List, NamedObject, ObjectPlace}
use Rattle.emit_relocate.proofs.Common.{ObjectSection, Option, PlacedInput, PlacedPiece, Project, Results, Site, Some}
use Rattle.emit_relocate.proofs.Common.{[], ap, append-nil, arith, get_or, length, length-map, named_object, option_map}
use Rattle.emit_relocate.proofs.Common.{option_map_or, own_sites, placed_part, refl, same_Some, section_numbered}
use Rattle.emit_relocate.proofs.Common.{section_ref, slice_get, slice_get-get_or, slice_get-map, start_of, subst, sym}
use Rattle.emit_relocate.proofs.Common.{ℕ, ◌-◌, ◌<◌, ◌^◌, ◌∙◌, ◌≡◌, ◌≤◌}
use Rattle.std.proofs.Common.{None}
use Rattle.ldmodel.specs.Relocations.{sites_at}
use Rattle.ldmodel_project.specs.Inputs.{shown_input, shown_inputs}
use Rattle.ldmodel_project.specs.declared.input.InputObject.{InputObject}
use Rattle.emit_relocate.specs.Links.{IsPlaceOf}
use Rattle.emit_relocate.proofs.Added.{tried_nothing}

abbrev pub start_in : Option PlacedPiece → Option ℕ
start_in a = option_map (λ (y : PlacedPiece). y.start) a

pub none_in : (a : Option PlacedPiece) → None ≡ start_in a → a ≡ None
none_in None e = refl
none_in (Some y) e = cc

pub piece_in : (a : Option PlacedPiece) (start : ℕ) → Some start ≡ start_in a
    → (y : PlacedPiece) × (a ≡ Some y) × (start ≡ y.start)
piece_in None start e = cc
piece_in (Some y) start e = (y, refl, same_Some _ _ e)

module _ (l : KnownLink) (s : ObjectSection) where
  abbrev placed : Option PlacedPiece
  placed = placed_part l.layout s.object.name (InTable s.section.number)

  pub start_is : (place : ObjectPlace) → named_object l place ≡ Some s.object
      → start_of l (section_ref place s) ≡ start_in (placed_part l.layout s.object.name (InTable s.section.number))
  start_is place named =
      ap (λ n. start_in (placed_part l.layout n (InTable s.section.number)))
      (ap (λ (a : Option NamedObject). option_map_or (λ (y : NamedObject). y.name) a []) named)

  abbrev run_sites : Option PlacedPiece → List Site
  run_sites a = option_map_or (λ (y : PlacedPiece). sites_at s.object s.section y.start) a []

  -- it is not in the output: it has no fields
  pub renewed_none : IsPlaceOf l s None → (a : Results) → a.counts.fields < 2 ^ 64 → Adds l (HasAllFields l s) a a
  renewed_none gone a h = record {
    evaluated = record { run = []; patches = []; sites = own_sites l s };
    is_done = record { run = subst (λ p. IsRunAt l s p []) (sym gone) refl; patches = refl; sites = refl };
    fields = sym (append-nil a.fields);
    ends = refl;
    patches = sym (append-nil a.patches);
    counts = subst (λ p. IsCounted l (run_sites p) a.faults a.faults a.counts a.counts) (sym gone)
        ((tried_nothing l a.fields a.faults a.counts h).counts);
  }

  pub renewed_some : (m : PlacedInput) → IsPlacedAt l s m → (a b : Results) → b.ends ≡ a.ends
      → b.patches ≡ a.patches
      → IsAdded l s.object s.section m.start a.fields b.fields a.faults b.faults a.counts b.counts
      → Adds l (HasAllFields l s) a b
  renewed_some m p a b ends patches h = record {
    evaluated = record { run = h.run; patches = []; sites = own_sites l s };
    is_done = record {
      run = subst (λ q. IsRunAt l s q h.run) (sym p.piece_is)
          (subst (λ n. IsRun l s.object s.section n h.run) p.start_is h.is_run);
      patches = refl;
      sites = refl;
    };
    fields = h.fields;
    ends = ends;
    patches = patches ∙ sym (append-nil a.patches);
    counts = subst (λ q. IsCounted l (run_sites q) a.faults b.faults a.counts b.counts) (sym p.piece_is)
        (subst (λ n. IsCounted l (sites_at s.object s.section n) a.faults b.faults a.counts b.counts) p.start_is
        h.counts);
  }

-- no section in the output ends past the address space
pub not_past : (l : KnownLink) (place : ObjectPlace) (s : ObjectSection) (y : PlacedPiece) (start size : ℕ) → EndBelow l
    → named_object l place ≡ Some s.object → section_numbered s.object s.section.number ≡ Some s.section
    → placed_part l.layout s.object.name (InTable s.section.number) ≡ Some y → start ≡ y.start
    → size ≡ s.section.size → 18446744073709551615 - start < size → ⊥
not_past l place s y start size below named numbered placed at is past =
    let end = below place s.object s.section y named numbered placed in
    omega (arith, end, at, is, past)

module _ (l : KnownLink) (v : LinkView) (is : IsLinkView l v) (inputs : List InputObject)
    (same : shown_inputs inputs ≡ v.project.now.objects) where
  -- an object of a link, under its place
  pub input_at : (i : ℕ) (x : InputObject) → x ≡ get_or inputs i x → i < length inputs
      → (named_object l (record { 0 = i }) ≡ Some (shown_input x))
      × (slice_get l.project.objects i ≡ Some (shown_input x))
  input_at i x at within =
      let here : slice_get l.project.objects i ≡ Some (shown_input x) =
      ap (λ (p : Project). slice_get p.objects i) is.project ∙ ap (λ os. slice_get os i) (sym same)
      ∙ slice_get-map shown_input inputs i
      ∙ ap (option_map shown_input) (slice_get-get_or inputs i x within)
      ∙ ap (λ (y : InputObject). Some (shown_input y)) (sym at) in
      (ap (λ (k : KnownLink). slice_get l.project.objects (k.number i)) is.link ∙ here, here)

  -- no object comes after the last input
  pub all_inputs : (i : ℕ) → length inputs ≤ i → length l.project.objects ≤ i
  all_inputs i low =
      let many : length l.project.objects ≡ length inputs =
      ap (λ (p : Project). length p.objects) is.project ∙ sym (ap length same) ∙ length-map inputs shown_input in
      omega (arith, many, low)
