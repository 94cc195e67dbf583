-- A layout has the fills of the output sections of its script, in the order of the text.
use Rattle.emit.proofs.Common.{Layout, List, Option, OutputSection, OutputSectionAt, PlacedOutput, Region, Statement}
use Rattle.emit.proofs.Common.{[], ap, append-nil, append_assoc, map, map-append, nothing_placed, output_sections}
use Rattle.emit.proofs.Common.{placed_section, regions, sym, ℕ, ◌++◌, ◌∙◌, ◌∷◌, ◌≡◌}
use Rattle.ldmodel_laws.specs.Traces.{AddsSection, Trace, all_added, nothing_added, region_added, section_added}

-- the fills of the output sections so far
abbrev fills : Layout → List (Option (List ℕ))
fills s = map (λ (q : PlacedOutput). q.fill) s.sections

abbrev fills_of : List OutputSectionAt → List (Option (List ℕ))
fills_of os = map (λ (o : OutputSectionAt). o.section.fill) os

-- an output section adds its own
fill_added : (s : Layout) (o : OutputSection) (t : Layout) → AddsSection s o t → fills s ++ o.fill ∷ [] ≡ fills t
unfolding placed_section
fill_added s o t h =
    let fill : PlacedOutput → Option (List ℕ) = λ q. q.fill in
    ap (λ l. map fill l ++ o.fill ∷ []) (sym h.nothing.sections)
    ∙ sym (map-append fill h.last.layout.sections (placed_section o h.head h.last ∷ []))
    ∙ ap fills h.after

-- the fills so far, and those to come, are all
fills_traced : (s u : Layout) (rs : List Region) (os : List OutputSectionAt) → Trace s rs os u
    → fills s ++ fills_of os ≡ fills u
fills_traced s u [] [] all_added = append-nil (fills s)
fills_traced s u rs os (nothing_added {t = t} h more) =
    ap (λ l. map (λ (q : PlacedOutput). q.fill) l ++ fills_of os) (sym h.sections) ∙ fills_traced t u rs os more
fills_traced s u (r ∷ rs) os (region_added origin extent more) = fills_traced _ u rs os more
fills_traced s u rs (o ∷ os) (section_added {t = t} h more) =
    sym (append_assoc (fills s) (o.section.fill ∷ []) (fills_of os))
    ∙ ap (λ l. l ++ fills_of os) (fill_added s o.section t h)
    ∙ fills_traced t u rs os more

-- the fills of a layout
pub fills_are : (script : List Statement) (s : Layout)
    → Trace nothing_placed (regions script) (output_sections script) s → fills s ≡ fills_of (output_sections script)
fills_are script s trace = sym (fills_traced nothing_placed s (regions script) (output_sections script) trace)
