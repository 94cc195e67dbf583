-- A layout has the memory regions of its script, in the order of the text.
use Rattle.emit_relocate.proofs.Common.{Bool, Layout, List, MemoryRegion, Option, OutputSectionAt, PlacedOutput, Region}
use Rattle.emit_relocate.proofs.Common.{Some, Statement, [], ap, append-nil, append_assoc, bytes_eq, false}
use Rattle.emit_relocate.proofs.Common.{if◌then◌else◌, map, map-append, nothing_placed, output_sections, refl, regions}
use Rattle.emit_relocate.proofs.Common.{sym, true, ℕ, ◌++◌, ◌+◌, ◌∙◌, ◌∷◌, ◌≡◌}
use Rattle.std.proofs.Common.{None}
use Rattle.ldscript.specs.statements.declared.section.OutputSection.{OutputSection}
use Rattle.ldmodel_laws.specs.Traces.{AddsSection, Trace, all_added, nothing_added, region_added, section_added}
use Rattle.ldmodel.specs.Placement.{freed_from, load_region, placed_section}

-- the names of the regions so far
abbrev names : Layout → List (List ℕ)
names s = map (λ (r : MemoryRegion). r.name) s.regions

abbrev names_of : List Region → List (List ℕ)
names_of rs = map (λ (r : Region). r.name) rs

freed_names : (o : Option (List ℕ)) (next : ℕ) (rs : List MemoryRegion)
    → map (λ (r : MemoryRegion). r.name) (freed_from o next rs) ≡ map (λ (r : MemoryRegion). r.name) rs
freed_names None next rs = refl
freed_names (Some name) next [] = refl
freed_names (Some name) next (r ∷ rs) = by_case (bytes_eq r.name name) (freed_names (Some name) next rs) where
  by_case : (t : Bool)
      → map (λ (x : MemoryRegion). x.name) (freed_from (Some name) next rs) ≡ map (λ (x : MemoryRegion). x.name) rs
      → (if t then (record r { next = next }) else r).name
      ∷ map (λ (x : MemoryRegion). x.name) (freed_from (Some name) next rs)
      ≡ r.name ∷ map (λ (x : MemoryRegion). x.name) rs
  by_case true h = ap (λ l. r.name ∷ l) h
  by_case false h = ap (λ l. r.name ∷ l) h

-- an output section adds none
names_stay : (s : Layout) (o : OutputSection) (t : Layout) → AddsSection s o t → names t ≡ names s
names_stay s o t h =
    let q : PlacedOutput = placed_section o h.head h.last in
    ap names (sym h.after)
    ∙ freed_names (load_region o.load) (q.load + q.load_size)
    (freed_from o.region (q.start + q.size) h.last.layout.regions)
    ∙ freed_names o.region (q.start + q.size) h.last.layout.regions
    ∙ ap (map (λ (r : MemoryRegion). r.name)) h.nothing.regions

-- the names so far, and those to come, are all
names_traced : (s u : Layout) (rs : List Region) (os : List OutputSectionAt) → Trace s rs os u
    → names s ++ names_of rs ≡ names u
names_traced s u [] [] all_added = append-nil (names s)
names_traced s u rs os (nothing_added {t = t} h more) =
    ap (λ l. map (λ (r : MemoryRegion). r.name) l ++ names_of rs) (sym h.regions) ∙ names_traced t u rs os more
names_traced s u (r ∷ rs) os (region_added origin extent more) =
    sym (append_assoc (names s) (r.name ∷ []) (names_of rs))
    ∙ ap (λ l. l ++ names_of rs) (sym (map-append (λ (x : MemoryRegion). x.name) s.regions
    (record { name = r.name; origin = origin; extent = extent; next = origin } ∷ [])))
    ∙ names_traced _ u rs os more
names_traced s u rs (o ∷ os) (section_added {t = t} h more) =
    ap (λ l. l ++ names_of rs) (sym (names_stay s o.section t h)) ∙ names_traced t u rs os more

-- the memory regions of a layout
pub regions_are : (script : List Statement) (s : Layout)
    → Trace nothing_placed (regions script) (output_sections script) s → names s ≡ names_of (regions script)
regions_are script s trace = sym (names_traced nothing_placed s (regions script) (output_sections script) trace)
