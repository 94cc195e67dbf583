-- Each input section of a layout ends at an address.
use Rattle.emit.proofs.Common.{All, All-nil, All-push, Body, Layout, List, OutputSection, OutputSectionAt, PlacedOutput}
use Rattle.emit.proofs.Common.{PlacedPiece, Region, Statement, [], nothing_placed, opened, output_sections}
use Rattle.emit.proofs.Common.{placed_section, regions, subst, sym, ◌+◌, ◌<◌, ◌^◌, ◌∷◌}
use Rattle.ldmodel_laws.specs.Traces.{BodyEffect, dot_noted, inputs_counted, symbol_given, dot_moved, entry_placed}
use Rattle.ldmodel_laws.specs.Traces.{data_added, BodyEffects, no_effect, effect_then, AddsSection, Trace, all_added}
use Rattle.ldmodel_laws.specs.Traces.{nothing_added, region_added, section_added}

-- an input section ends at an address
abbrev pub EndsBelow : PlacedPiece → Type 0
EndsBelow x = x.start + x.piece.size < 2 ^ 64

abbrev pub AreBelow : PlacedOutput → Type 0
AreBelow q = All EndsBelow q.pieces

-- those of a body do
effect_below : (b c : Body) → BodyEffect b c → All EndsBelow b.pieces → All EndsBelow c.pieces
effect_below b c dot_noted h = h
effect_below b c (inputs_counted n) h = h
effect_below b c (symbol_given name x) h = h
effect_below b c (dot_moved to l m) h = h
effect_below b c (entry_placed {p = p} start e least l) h =
    All-push EndsBelow b.pieces (record { start = start; piece = p }) h l
effect_below b c (data_added bytes l) h = h

effects_below : (b c : Body) → BodyEffects b c → All EndsBelow b.pieces → All EndsBelow c.pieces
effects_below b c no_effect h = h
effects_below b c (effect_then {c = d} one more) h = effects_below d c more (effect_below b d one h)

-- all output sections so far
abbrev AllIn : Layout → Type 0
AllIn s = All AreBelow s.sections

section_in : (s : Layout) (o : OutputSection) (t : Layout) → AddsSection s o t → AllIn s → AllIn t
unfolding placed_section
section_in s o t h all =
    subst AllIn h.after
    (All-push AreBelow h.last.layout.sections (placed_section o h.head h.last)
    (subst (All AreBelow) (sym h.nothing.sections) all)
    (effects_below (opened s h.row h.head) h.last h.body (All-nil EndsBelow)))

traced_in : (s u : Layout) (rs : List Region) (os : List OutputSectionAt) → Trace s rs os u → AllIn s → AllIn u
traced_in s u [] [] all_added all = all
traced_in s u rs os (nothing_added {t = t} h more) all =
    traced_in t u rs os more (subst (All AreBelow) (sym h.sections) all)
traced_in s u (r ∷ rs) os (region_added origin extent more) all = traced_in _ u rs os more all
traced_in s u rs (o ∷ os) (section_added {t = t} h more) all =
    traced_in t u rs os more (section_in s o.section t h all)

pub ends_below : (script : List Statement) (s : Layout)
    → Trace nothing_placed (regions script) (output_sections script) s → All AreBelow s.sections
ends_below script s trace =
    traced_in nothing_placed s (regions script) (output_sections script) trace (All-nil AreBelow)
