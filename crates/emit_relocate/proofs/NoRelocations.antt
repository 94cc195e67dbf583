-- A section without relocations: there is nothing to evaluate.
use Rattle.emit_relocate.proofs.Common.{Adds, Bool, Contains, Evaluated, FileRange, GoodLink, InTable, IsAtHand}
use Rattle.emit_relocate.proofs.Common.{IsEvaluatedAt, IsEvaluatedOf, IsRunAt, IsRunOf, KnownLink, LinkedSection, List}
use Rattle.emit_relocate.proofs.Common.{ObjectPlace, ObjectSection, Option, PlacedPiece, Relocation, Results}
use Rattle.emit_relocate.proofs.Common.{SectionRef, Some, [], ap, append-nil, arith, false, field_at, filter}
use Rattle.emit_relocate.proofs.Common.{filter_map, has_new_value, length, map, named_object, nat_lt, none_in_nil}
use Rattle.emit_relocate.proofs.Common.{option_map, option_map_or, own_sites, placed_part, refl, same_Some, section_ref}
use Rattle.emit_relocate.proofs.Common.{sites_among, slice_get, slice_get-map, subst, sym, ◌<◌, ◌^◌, ◌∙◌, ◌∷◌, ◌≡◌}
use Rattle.std.proofs.Common.{None}
use Rattle.std.proofs.lemmas.Bool.{ltb-false}
use Rattle.emit_fields.specs.Patches.{patched_byte}
use Rattle.ldmodel.specs.Relocations.{sites_at}
use Rattle.emit_relocate.specs.declared.input_section.InputSection.{InputSection}
use Rattle.emit_relocate.proofs.Added.{tried_nothing}
use Rattle.emit_relocate.proofs.Found.{there_of}

empty : {X : Type 0} (xs : List X) → length xs ≡ 0 → xs ≡ []
empty [] e = refl
empty (x ∷ xs) e = absurd (omega (arith, e))

abbrev has_any : LinkedSection → Bool
has_any x = nat_lt 0 (length x.relocations)

-- the section at hand has none
pub bare_at_hand : (l : KnownLink) (m : InputSection) (s : ObjectSection) → IsAtHand l m s
    → slice_get (map (λ (x : LinkedSection). nat_lt 0 (length x.relocations)) m.object.now.sections) m.index.0
    ≡ Some false → s.section.relocations ≡ []
bare_at_hand l m s h flag =
    let none : has_any s.section ≡ false =
    same_Some _ _ (sym (slice_get-map has_any m.object.now.sections m.index.0
    ∙ ap (option_map has_any) (there_of l m s h)) ∙ flag) in
    empty s.section.relocations (omega (arith, ltb-false 0 (length s.section.relocations) none))

module _ (old : GoodLink) (l : KnownLink) (s : ObjectSection) (bare : s.section.relocations ≡ []) where
  abbrev nothing : Evaluated
  nothing = record { run = []; patches = []; sites = [] }

  no_sites_at : (a : Option PlacedPiece)
      → option_map_or (λ (y : PlacedPiece). sites_at s.object s.section y.start) a [] ≡ []
  no_sites_at None = refl
  no_sites_at (Some y) = ap (sites_among s.object s.section y.start) bare

  no_sites : own_sites l s ≡ []
  no_sites = no_sites_at (placed_part l.layout s.object.name (InTable s.section.number))

  no_run_at : (a : Option PlacedPiece) → IsRunAt l s a []
  no_run_at None = refl
  no_run_at (Some y) = record {
    same = λ bytes i.
        ap (λ rs. patched_byte bytes (filter_map (field_at l) (sites_among s.object s.section y.start rs)) i)
        (sym bare);
    order = λ n below. omega arith;
  }

  no_run : IsRunOf l s []
  no_run = no_run_at (placed_part l.layout s.object.name (InTable s.section.number))

  bare_at : (key : SectionRef) (a : Option FileRange) → IsEvaluatedAt old l key a s nothing
  bare_at key None = record { run = no_run; patches = refl; sites = sym no_sites }
  bare_at key (Some r) = record {
    stayed = λ t d. absurd (none_in_nil t (subst (λ ts. Contains ts t) no_sites d));
    run = refl;
    patches = refl;
    sites = ap (filter (has_new_value old l)) (sym no_sites);
  }

  pub bare_added : (range : SectionRef → Option FileRange) (place : ObjectPlace) → named_object l place ≡ Some s.object
      → (a : Results) → a.counts.fields < 2 ^ 64 → Adds l (IsEvaluatedOf old l range s) a a
  bare_added range place named a h = record {
    evaluated = nothing;
    is_done = record {
      key = place;
      named = named;
      outcome = bare_at (section_ref place s) (range (section_ref place s));
    };
    fields = sym (append-nil a.fields);
    ends = refl;
    patches = sym (append-nil a.patches);
    counts = (tried_nothing l a.fields a.faults a.counts h).counts;
  }
