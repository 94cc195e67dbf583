-- The end of an output section.
use Rattle.place_sections.proofs.Common.{Bool, Err, Fault, Head, KeyedSection, LayoutCursor, List, MemoryRegion, Naming}
use Rattle.place_sections.proofs.Common.{Ok, OutputSection, Outputs, PastAddressSpace, PlacedOutput, PlacedOutputs}
use Rattle.place_sections.proofs.Common.{Result, [], address, and_then, ap, arith, body_from, cond, false, freed_from}
use Rattle.place_sections.proofs.Common.{is_address, layout_of, load_region, ltb-true, map-append, max, option_and_then}
use Rattle.place_sections.proofs.Common.{placed_section, refl, region_named, section_end, section_of, sym, true}
use Rattle.place_sections.proofs.Common.{with_room, with_section, ℕ, ◌++◌, ◌+◌, ◌-◌, ◌<◌, ◌^◌, ◌∙◌, ◌∷◌, ◌≡◌}
use Rattle.place_sections.specs.Ends.{body_alone, ended_body, load_end}
use Rattle.ldmodel.specs.declared.rows.Piece as rows

regrouped : {X Y Z W : Type 0} (a : Result X Fault) (b : Result Y Fault) (c : Result Z Fault) (r : Result W Fault)
    → and_then a (λ _. and_then b (λ _. and_then c (λ _. r)))
    ≡ and_then (and_then a (λ _. and_then b (λ _. c))) (λ _. r)
regrouped (Ok x) (Ok y) c r = refl
regrouped (Ok x) (Err f) c r = refl
regrouped (Err f) b c r = refl

alone_same : (n : Naming) (h : LayoutCursor) (d : PlacedOutputs) (o : OutputSection) (head : Head)
    → placed_section o head (ended_body n h d) ≡ placed_section o head (body_alone n h)
unfolding placed_section
alone_same n h d o head = refl

-- the end, by the load end
pub end_is : (n : Naming) (h : LayoutCursor) (d : PlacedOutputs) (line : ℕ) (o : OutputSection) (head : Head)
    (q : PlacedOutput) → q
    ≡ placed_section o head (body_alone n h)
    → section_end line o head (ended_body n h d)
    ≡ and_then (load_end line o d.regions q) (λ _. Ok (with_section (ended_body n h d).layout o q))
unfolding section_end
end_is n h d line o head q e =
    let same : placed_section o head (ended_body n h d) ≡ q = alone_same n h d o head ∙ sym e in
    rw same (regrouped (with_room (option_and_then (region_named d.regions) o.region) q.start q.size q)
    (with_room (option_and_then (region_named d.regions) (load_region o.load)) q.load q.load_size q)
    (address line (q.load + q.load_size)) (Ok (with_section (ended_body n h d).layout o q)))

-- where a section ends
pub ends_there : (n : Naming) (h : LayoutCursor) (o : OutputSection) (head : Head) (q : PlacedOutput) → q
    ≡ placed_section o head (body_alone n h) → q.start + q.size ≡ max h.dot head.start
unfolding placed_section
ends_there n h o head q e =
    let a : q.start ≡ head.start = ap (λ (p : PlacedOutput). p.start) e in
    let b : q.size ≡ h.dot - head.start = ap (λ (p : PlacedOutput). p.size) e in
    omega (arith, a, b)

-- a chain that ends well
pub record Chained {X Y : Type 0} (r : Result X Fault) (go : X → Result Y Fault) (y : Y) : Type 0 where
  pub value : X
  pub first : r ≡ Ok value
  pub second : go value ≡ Ok y

pub chained : {X Y : Type 0} (r : Result X Fault) (go : X → Result Y Fault) (y : Y) → and_then r go ≡ Ok y
    → Chained r go y
chained (Ok x) go y e = record { value = x; first = refl; second = e }
chained (Err f) go y e = absurd (let no : ⊥ = cc in no)

pub address_is : (line x y : ℕ) → address line x ≡ Ok y → y ≡ x
address_is line x y e = go (is_address x) e
  where
    go : (b : Bool) → cond b (Ok x) (Err (PastAddressSpace line)) ≡ Ok y → y ≡ x
    go true h = cc
    go false h = absurd (let no : ⊥ = cc in no)

pub address_fits : (line x y : ℕ) → address line x ≡ Ok y → x < 2 ^ 64
address_fits line x y e = go (is_address x) refl e
  where
    go : (b : Bool) → is_address x ≡ b → cond b (Ok x) (Err (PastAddressSpace line)) ≡ Ok y → x < 2 ^ 64
    go true is h = ltb-true x (2 ^ 64) is
    go false is h = absurd (let no : ⊥ = cc in no)

pub load_end_is : (line : ℕ) (o : OutputSection) (d : PlacedOutputs) (q : PlacedOutput) (x : ℕ)
    → load_end line o d.regions q
    ≡ Ok x → x ≡ q.load + q.load_size
load_end_is line o d q x e =
    let a = chained (with_room (option_and_then (region_named d.regions) o.region) q.start q.size q) _ x e in
    let b = chained (with_room (option_and_then (region_named d.regions) (load_region o.load)) q.load q.load_size q) _
    x a.second in
    address_is line (q.load + q.load_size) x b.second

-- the layout after a section, part by part
pub joined : (n : Naming) (h t : LayoutCursor) (d : PlacedOutputs) (o : OutputSection) (x : KeyedSection)
    (sections : Outputs)
    (first second : List MemoryRegion) (end loaded : ℕ)
    → t.dot ≡ h.dot → t.dots.items ≡ h.dots.items → t.inputs ≡ h.inputs → t.symbols ≡ h.symbols
    → first ≡ freed_from o.region end d.regions → second ≡ freed_from (load_region o.load) loaded first → sections.list
    ≡ d.sections.list ++ x ∷ []
    → x.placed.start + x.placed.size ≡ end → loaded ≡ x.placed.load + x.placed.load_size
    → with_section (layout_of n h d) o (section_of n x)
    ≡ layout_of n t (record { sections = sections; regions = second })
joined n h t d o x sections first second end loaded a b c e f g s i j =
    rw (a, b, c, e, s, map-append (section_of n) d.sections.list (x ∷ []), g, f, j, i) refl

-- no end turns on where the section starts or on what is left of its row
pub end_alone : (n : Naming) (h : LayoutCursor) (d : PlacedOutputs) (line : ℕ) (o : OutputSection) (head : Head)
    (start : ℕ)
    (row : List rows.Piece) → section_end line o head (body_from n h d start row)
    ≡ section_end line o head (ended_body n h d)
unfolding section_end placed_section
end_alone n h d line o head start row = refl
