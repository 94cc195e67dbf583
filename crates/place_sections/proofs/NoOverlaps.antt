-- A layout in which no output sections overlap.
use Rattle.place_sections.proofs.Common.{AreOverlaps, Bool, Err, IsPlacement, LayoutCursor, LayoutStop, List, Naming}
use Rattle.place_sections.proofs.Common.{OutputSectionAt, PlacedOutputs, Places, Project, Statement, [], ap, arith}
use Rattle.place_sections.proofs.Common.{eqb-false, eqb-true, false, inl, inr, layout_of, length, map, nothing_placed}
use Rattle.place_sections.proofs.Common.{output_sections, placement, refl, run, statement_step, sym, true, ℕ, ◌==◌, ◌∙◌}
use Rattle.place_sections.proofs.Common.{◌∷◌, ◌≡◌, ◌≢◌, ◌⊎◌}
use Rattle.place_sections.specs.State.{fault_of as fault_named}
use Rattle.place_sections.specs.declared.fault.PlaceFault.{PlaceFault}
use Rattle.place_sections.specs.declared.fault.PlaceFault.TheVariants as place_fault
use Rattle.place_sections.specs.declared.stop.LayoutStop.TheVariants as stop
use Rattle.ldmodel.specs.FaultCode.{fault_of}
use Rattle.ldmodel.specs.Options.{default_options}
use Rattle.ldmodel.specs.Overlaps.{overlaps}
use Rattle.ldmodel.specs.Rows.{Piece}
use Rattle.ldmodel.specs.declared.fault.Fault as code_fault
use Rattle.place_sections.proofs.Outputs.{outputs_are}
use Rattle.place_sections.specs.Outcomes.{IsGood, AreOverlapFaults, Reports, Stops}
use Rattle.growth.specs.Memory.{no_memory}

module _ (script : List Statement) (rows : List (List Piece)) (provided : List (List ℕ)) (p : Places)
    (i : IsPlacement script rows provided p) (fs : List code_fault.Fault) (o : AreOverlaps p.sections fs) where
  abbrev alone : Project
  alone = record { objects = []; script = script; options = default_options }

  met : (q : Project) (number : ℕ → ℕ) → q.script ≡ script → map (fault_of q number) fs ≡ overlaps i.layout.sections
  met q number e = o q number i.layout.sections (sym i.places.sections)
      (outputs_are script rows provided i.layout i.placed
      ∙ ap (λ (s : List Statement). map (λ (x : OutputSectionAt). x.section.name) (output_sections s)) (sym e))

  pub is_good : fs ≡ [] → IsGood script rows provided p
  is_good none = record {
    layout = i.layout;
    placed = i.placed;
    places = i.places;
    boundaries = i.boundaries;
    many = i.many;
    in_force = i.in_force;
    apart = sym (met alone (λ k. k) refl) ∙ ap (map (fault_of alone (λ k. k))) none;
  }

  pub are_overlap_faults : fs ≢ [] → AreOverlapFaults script rows provided fs
  are_overlap_faults some = record {
    layout = i.layout;
    placed = i.placed;
    some = λ none. some (emptied fs (met alone (λ k. k) refl ∙ none));
    all = met;
  }
    where
      emptied : (gs : List code_fault.Fault) → map (fault_of alone (λ k. k)) gs ≡ [] → gs ≡ []
      emptied [] e = refl
      emptied (g ∷ gs) e = absurd (let no : ⊥ = cc in no)

-- where a layout begins
pub nothing_there : (n : Naming) (h : LayoutCursor) (d : PlacedOutputs) → h.dot ≡ 0 → h.dots.items ≡ [] → h.inputs ≡ 0
    → h.symbols.list ≡ [] → d.sections.list ≡ [] → d.regions ≡ [] → layout_of n h d ≡ nothing_placed
nothing_there n h d a b c e f g = rw (a, b, c, e, f, g) refl

pub begins : (n : Naming) (h : LayoutCursor) (d : PlacedOutputs) (rows : List (List Piece)) (provided : List (List ℕ))
    (script : List Statement)
    → h.dot ≡ 0 → h.dots.items ≡ [] → h.inputs ≡ 0 → h.symbols.list ≡ [] → d.sections.list ≡ [] → d.regions ≡ []
    → run (statement_step rows provided) (layout_of n h d) script ≡ placement script rows provided
unfolding placement
begins n h d rows provided script a b c e f g =
    ap (λ s. run (statement_step rows provided) s script) (nothing_there n h d a b c e f g)

pub stops_at : (script : List Statement) (rows : List (List Piece)) (provided : List (List ℕ)) (s : LayoutStop)
    (r : PlaceFault)
    → (placement script rows provided ≡ Err (fault_named s)) ⊎ (s ≡ stop.NoMemory no_memory) → Reports script
    (fault_named s) r
    → (s ≡ stop.NoMemory no_memory → r ≡ place_fault.NoMemory no_memory) → Stops script rows provided r
stops_at script rows provided s (place_fault.First f) (inl h) shown memory =
    record { fault = fault_named s; stops = h; shown = shown }
stops_at script rows provided s (place_fault.First f) (inr m) shown memory = let e = memory m in
    absurd (let no : ⊥ = cc in no)
stops_at script rows provided s (place_fault.Overlapping fs) h shown memory = absurd shown
stops_at script rows provided s (place_fault.NoMemory _) h shown memory = tt

pub empty_list : {X : Type 0} (xs ys : List X) (b : Bool) → ys ≡ xs → b ≡ (length ys == 0) → b ≡ true → xs ≡ []
empty_list [] ys b e f t = refl
empty_list (x ∷ xs) ys b e f t =
    let g = eqb-true (length ys) 0 (sym f ∙ t) in
    let l = ap length e in
    absurd (omega arith)

pub nonempty_list : {X : Type 0} (xs ys : List X) (b : Bool) → ys ≡ xs → b ≡ (length ys == 0) → b ≡ false → xs ≢ []
nonempty_list xs ys b e f t none =
    let g = eqb-false (length ys) 0 (sym f ∙ t) in
    let l : length ys ≡ 0 = ap length (e ∙ none) in
    g l
