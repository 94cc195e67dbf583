-- The parts of the output sections of a placement stand in order in memory.
use Rattle.emit_image.proofs.Common.{All, Bool, Each, IsSpread, Layout, List, PlacedOutput, PlacedPiece, [], arith}
use Rattle.emit_image.proofs.Common.{cond, end_of, false, get_or, inl, inr, length, nat_tests, nonempty, not, refl}
use Rattle.emit_image.proofs.Common.{subst, suc, sym, true, zero, ℕ, ◌++◌, ◌+◌, ◌-◌, ◌<◌, ◌==◌, ◌^◌, ◌∷◌, ◌≡◌, ◌≤◌, ◌⊎◌}
use Rattle.std.proofs.lemmas.List.Elements.{All-cons, All-nil}
use Rattle.ldscript.specs.statements.Numbering.{OutputSectionAt, output_sections, regions}
use Rattle.ldscript.specs.statements.declared.section.OutputSection.{OutputSection}
use Rattle.ldscript.specs.statements.declared.statement.Region.{Region}
use Rattle.ldscript.specs.statements.declared.statement.Statement.{Statement}
use Rattle.ldmodel_laws.specs.Spread.{AreApart, EachLater, data_end, piece_end}
use Rattle.ldmodel_laws.specs.Traces.{BodyEffect, dot_noted, inputs_counted, symbol_given, dot_moved, entry_placed}
use Rattle.ldmodel_laws.specs.Traces.{data_added, BodyEffects, no_effect, effect_then, AddsSection, Trace, all_added}
use Rattle.ldmodel_laws.specs.Traces.{nothing_added, region_added, section_added}
use Rattle.ldmodel.specs.Placement.{Body, opened, placed_section}
use Rattle.ldmodel.specs.Layout.{PlacedData, nothing_placed}
use Rattle.emit_image.specs.InMemory.{DataInOrder, IsInMemory, PiecesInOrder}

-- lists by their members
each_at : {X : Type 0} (P : X → Type 0) (xs : List X) → Each P xs → (i : ℕ) (d : X) → i < length xs
    → P (get_or xs i d)
each_at P [] h i d l = absurd (omega (arith, l))
each_at P (x ∷ xs) h zero d l = h.0
each_at P (x ∷ xs) h (suc i) d l = each_at P xs h.1 i d (omega (arith, l))

each_push : {X : Type 0} (P : X → Type 0) (xs : List X) (x : X) → Each P xs → P x → Each P (xs ++ x ∷ [])
each_push P [] x h k = (k, tt)
each_push P (y ∷ ys) x h k = (h.0, each_push P ys x h.1 k)

-- parts that ascend stand one after the other
inside_from : {X : Type 0} (start_of end_of : X → ℕ) (from to end : ℕ) (xs : List X) → Each (λ x. to ≤ start_of x) xs
    → Each (λ x. (from ≤ start_of x) × (end_of x ≤ end)) xs → Each (λ x. (to ≤ start_of x) × (end_of x ≤ end)) xs
inside_from start_of end_of from to end [] h k = tt
inside_from start_of end_of from to end (x ∷ xs) h k =
    ((h.0, k.0.1), inside_from start_of end_of from to end xs h.1 k.1)

pieces_in_order : (from end : ℕ) (xs : List PlacedPiece) → from ≤ end
    → Each (λ (x : PlacedPiece). (from ≤ x.start) × (piece_end x ≤ end)) xs
    → EachLater (λ (x y : PlacedPiece). piece_end x ≤ y.start) xs → PiecesInOrder from end xs
pieces_in_order from end [] l inside ascend = l
pieces_in_order from end (x ∷ xs) l inside ascend =
    let later = inside_from (λ (y : PlacedPiece). y.start) piece_end from (piece_end x) end xs ascend.0 inside.1 in
    (inside.0.0, pieces_in_order (piece_end x) end xs inside.0.1 later ascend.1)

data_in_order : (from end : ℕ) (xs : List PlacedData) → from ≤ end
    → Each (λ (x : PlacedData). (from ≤ x.start) × (data_end x ≤ end)) xs
    → EachLater (λ (x y : PlacedData). data_end x ≤ y.start) xs → DataInOrder from end xs
data_in_order from end [] l inside ascend = l
data_in_order from end (x ∷ xs) l inside ascend =
    let later = inside_from (λ (y : PlacedData). y.start) data_end from (data_end x) end xs ascend.0 inside.1 in
    (inside.0.0, data_in_order (data_end x) end xs inside.0.1 later ascend.1)

-- `.` has gone on from a start to an address, if it has moved
record HasGone (start : ℕ) (b : Body) : Type 0 where
  low : start ≤ b.layout.dot
  below : (b.layout.dot ≡ start) ⊎ (b.layout.dot < 2 ^ 64)

effect_goes : (start : ℕ) (b c : Body) → BodyEffect b c → HasGone start b → HasGone start c
effect_goes start b c dot_noted h = record { low = h.low; below = h.below }
effect_goes start b c (inputs_counted n) h = record { low = h.low; below = h.below }
effect_goes start b c (symbol_given name x) h = record { low = h.low; below = h.below }
effect_goes start b c (dot_moved to l m) h = record { low = omega (arith, h.low, l); below = inr m }
effect_goes start b c (entry_placed from e least l) h =
    record { low = omega (arith, h.low, least.above); below = inr l }
effect_goes start b c (data_added bytes l) h = record { low = omega (arith, h.low); below = inr l }

effects_go : (start : ℕ) (b c : Body) → BodyEffects b c → HasGone start b → HasGone start c
effects_go start b c no_effect h = h
effects_go start b c (effect_then {c = d} one more) h = effects_go start d c more (effect_goes start b d one h)

-- an output section that is not empty ends at an address
abbrev EndsBelow : PlacedOutput → Type 0
EndsBelow q = not (q.size == 0) ≡ true → end_of q < 2 ^ 64

abbrev EndBelow : Layout → Type 0
EndBelow s = Each EndsBelow s.sections

section_below : (s : Layout) (o : OutputSection) (t : Layout) → AddsSection s o t → EndBelow s → EndBelow t
unfolding placed_section
section_below s o t h all =
    let gone : HasGone h.head.start h.last =
    effects_go h.head.start (opened s h.row h.head) h.last h.body (record { low = omega arith; below = inl refl }) in
    subst EndBelow h.after
    (each_push EndsBelow h.last.layout.sections (placed_section o h.head h.last)
    (subst (Each EndsBelow) (sym h.nothing.sections) all)
    (λ full.
    let some : 0 < h.last.layout.dot - h.head.start = grind (arith, nat_tests) in
    let stop : h.head.start + (h.last.layout.dot - h.head.start) ≡ h.last.layout.dot = omega (arith, gone.low) in
    let under : h.last.layout.dot < 2 ^ 64 =
    elim gone.below [ inl e ↦ absurd (omega (arith, e, some)) | inr l ↦ l ] in
    omega (arith, stop, under)))

traced_below : (s u : Layout) (rs : List Region) (os : List OutputSectionAt) → Trace s rs os u → EndBelow s
    → EndBelow u
traced_below s u [] [] all_added all = all
traced_below s u rs os (nothing_added {t = t} h more) all =
    traced_below t u rs os more (subst (Each EndsBelow) (sym h.sections) all)
traced_below s u (r ∷ rs) os (region_added origin extent more) all = traced_below _ u rs os more all
traced_below s u rs (o ∷ os) (section_added {t = t} h more) all =
    traced_below t u rs os more (section_below s o.section t h all)

-- the output sections that are not empty
one_in_memory : (q : PlacedOutput) → IsSpread q → end_of q < 2 ^ 64 → IsInMemory q
one_in_memory q h l = record {
  end = l;
  pieces = pieces_in_order q.start (end_of q) q.pieces (omega arith) h.pieces_inside h.pieces_ascend;
  data_commands = data_in_order q.start (end_of q) q.data_commands (omega arith) h.data_inside h.data_ascend;
  apart = λ i j x d a b some.
      each_at (AreApart (get_or q.pieces i x)) q.data_commands
      (each_at (λ (y : PlacedPiece). Each (AreApart y) q.data_commands) q.pieces h.apart i x a) j d b;
}

all_in_memory : (qs : List PlacedOutput) → Each IsSpread qs → Each EndsBelow qs → All IsInMemory (nonempty qs)
all_in_memory [] h k = All-nil IsInMemory
all_in_memory (q ∷ qs) h k = go (not (q.size == 0)) refl (all_in_memory qs h.1 k.1)
  where
    go : (t : Bool) → not (q.size == 0) ≡ t → All IsInMemory (nonempty qs)
        → All IsInMemory (cond t (q ∷ nonempty qs) (nonempty qs))
    go true e more = All-cons IsInMemory q (nonempty qs) (one_in_memory q h.0 (k.0 e)) more
    go false e more = more

pub placed_in_memory : (script : List Statement) (s : Layout) → Each IsSpread s.sections
    → Trace nothing_placed (regions script) (output_sections script) s → All IsInMemory (nonempty s.sections)
placed_in_memory script s spread trace =
    all_in_memory s.sections spread
    (traced_below nothing_placed s (regions script) (output_sections script) trace tt)
