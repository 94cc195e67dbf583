-- A layout has the output sections of its script, in the order of the text.
use Rattle.place_sections.proofs.Common.{AreOutputs, Layout, List, OutputSection, OutputSectionAt, PlacedOutput}
use Rattle.place_sections.proofs.Common.{Project, Region, [], ap, append-nil, append_assoc, map, map-append}
use Rattle.place_sections.proofs.Common.{nothing_placed, output_sections, placed_section, sym, ℕ, ◌++◌, ◌∙◌, ◌∷◌, ◌≡◌}
use Rattle.ldscript.specs.statements.Numbering.{regions}
use Rattle.ldmodel_laws.specs.Traces.{AddsSection, Trace, all_added, nothing_added, region_added, section_added}

-- the names of the output sections so far
abbrev names : Layout → List (List ℕ)
names s = map (λ (q : PlacedOutput). q.name) s.sections

abbrev names_of : List OutputSectionAt → List (List ℕ)
names_of os = map (λ (o : OutputSectionAt). o.section.name) os

-- an output section adds its own
name_added : (s : Layout) (o : OutputSection) (t : Layout) → AddsSection s o t → names s ++ o.name ∷ [] ≡ names t
unfolding placed_section
name_added s o t h =
    let name : PlacedOutput → List ℕ = λ q. q.name in
    ap (λ l. map name l ++ o.name ∷ []) (sym h.nothing.sections)
    ∙ sym (map-append name h.last.layout.sections (placed_section o h.head h.last ∷ []))
    ∙ ap names h.after

-- the names so far, and those to come, are all
names_traced : (s u : Layout) (rs : List Region) (os : List OutputSectionAt) → Trace s rs os u
    → names s ++ names_of os ≡ names u
names_traced s u [] [] all_added = append-nil (names s)
names_traced s u rs os (nothing_added {t = t} h more) =
    ap (λ l. map (λ (q : PlacedOutput). q.name) l ++ names_of os) (sym h.sections) ∙ names_traced t u rs os more
names_traced s u (r ∷ rs) os (region_added origin extent more) = names_traced _ u rs os more
names_traced s u rs (o ∷ os) (section_added {t = t} h more) =
    sym (append_assoc (names s) (o.section.name ∷ []) (names_of os))
    ∙ ap (λ l. l ++ names_of os) (name_added s o.section t h)
    ∙ names_traced t u rs os more

-- the output sections of a layout
pub outputs_are : (p : Project) (s : Layout)
    → Trace nothing_placed (regions p.script) (output_sections p.script) s → AreOutputs p s.sections
outputs_are p s trace = sym (names_traced nothing_placed s (regions p.script) (output_sections p.script) trace)
