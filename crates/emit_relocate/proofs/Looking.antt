-- What names stand for at the end of a link.
use Rattle.emit_relocate.proofs.Common.{Bool, FinalScope, IsPlacementView, Layout, List, MemoryRegion, Number, Option}
use Rattle.emit_relocate.proofs.Common.{OutputSectionAt, OutputSymbol, PlacedOutput, Project, Region, Scope, Some, []}
use Rattle.emit_relocate.proofs.Common.{ap, bytes_eq, bytes_eq-Decides, cond, decision, declared_names, entry_symbol}
use Rattle.emit_relocate.proofs.Common.{false, filter, find, found_symbol, in_byte_order, inl, inr, is_defined, map}
use Rattle.emit_relocate.proofs.Common.{meaning_of, name_value, numbered, option_map, output_sections, output_symbol}
use Rattle.emit_relocate.proofs.Common.{output_symbols, placed_of, refl, region_of, regions, shown_symbol, suc, sym}
use Rattle.emit_relocate.proofs.Common.{true, true≢false, value_found, ℕ, ⊎_elim, ◌∙◌, ◌∷◌, ◌≡◌, ◌⊎◌}
use Rattle.std.specs.Prelude.{None}
use Rattle.ldscript.specs.statements.Given.{region_from, section_from}
use Rattle.ldmodel.specs.Assertions.{final_scope, number_if_any}
use Rattle.ldmodel.specs.OutputSymbols as model
use Rattle.ldmodel.specs.SymbolValues.{NotDefined, SymbolValue, entry_point, value_if_named}
use Rattle.ldmodel.specs.declared.placed.Placed.{Placed}
use Rattle.ldmodel.specs.declared.placed.PlacedRegion.{PlacedRegion}
use Rattle.place.specs.sections.OverlapFaults.{AreOutputs}
use Rattle.place.specs.terms.Scopes as code
use Rattle.emit_relocate.proofs.Declared.{no_value, same_name}
use Rattle.emit_text.proofs.ByteOrder.{In, Name, sorted_in}

-- ---- symbols

abbrev defined : model.OutputSymbol → Bool
defined x = is_defined x.decision

abbrev is_named : Name → model.OutputSymbol → Bool
is_named name x = bytes_eq x.name name

-- the symbol of the name is found, or there is none
abbrev Search : Project → Layout → Name → Option model.OutputSymbol → List Name → Type 0
Search p s name o xs =
    ((y : model.OutputSymbol) × (o ≡ Some y) × (y.value ≡ name_value p s name))
    ⊎ ((o ≡ None) × (In name xs → is_defined (decision p name) ≡ true → ⊥))

own_name : (x : Name) → bytes_eq x x ≡ true
own_name x = (bytes_eq-Decides x x).1 refl

searched : (p : Project) (s : Layout) (name : Name) (xs : List Name)
    → Search p s name (find (is_named name) (filter defined (map (output_symbol p s) xs))) xs
searched p s name [] = inr (refl, λ i e. i)
searched p s name (x ∷ xs) =
    go (is_defined (decision p x)) (bytes_eq x name) refl refl (searched p s name xs)
  where
    y : model.OutputSymbol
    y = output_symbol p s x

    rest : List model.OutputSymbol
    rest = filter defined (map (output_symbol p s) xs)

    go : (a b : Bool) → is_defined (decision p x) ≡ a → bytes_eq x name ≡ b
        → Search p s name (find (is_named name) rest) xs
        → Search p s name (find (is_named name) (cond a (y ∷ rest) rest)) (x ∷ xs)
    go false b e f (inl h) = inl h
    go false b e f (inr h) =
        inr (
          h.0,
          λ i is.
              ⊎_elim (λ same. true≢false (sym is ∙ (ap (λ (n : Name). is_defined (decision p n)) same ∙ e)))
              (λ j. h.1 j is) i,
        )
    go true true e f h =
        inl (
          y,
          ap (λ (b : Bool). cond b (Some y) (find (is_named name) rest)) f,
          ap (name_value p s) (same_name x name f),
        )
    go true false e f (inl h) =
        inl (h.0, ap (λ (b : Bool). cond b (Some y) (find (is_named name) rest)) f ∙ h.1, h.2)
    go true false e f (inr h) =
        inr (
          ap (λ (b : Bool). cond b (Some y) (find (is_named name) rest)) f ∙ h.0,
          λ i is.
              ⊎_elim (λ same. true≢false (sym (own_name name) ∙ (ap (λ (n : Name). bytes_eq n name) same ∙ f)))
              (λ j. h.1 j is) i,
        )

abbrev value_shown : Option model.OutputSymbol → SymbolValue
value_shown None = NotDefined
value_shown (Some y) = y.value

symbol_value : (p : Project) (s : Layout) (name : Name)
    → value_shown (find (is_named name) (output_symbols p s)) ≡ name_value p s name
unfolding output_symbols
symbol_value p s name =
    ⊎_elim
    (λ h. ap value_shown h.1 ∙ h.2)
    (λ h. ap value_shown h.0 ∙ sym (no_value p s name (λ i is. h.1 (sorted_in name (declared_names p) i) is)))
    (searched p s name (in_byte_order (declared_names p)))

found_shown : (p : Project) (xs : List OutputSymbol) (name : Name)
    → value_shown (find (is_named name) (map (shown_symbol p) xs)) ≡ value_found (found_symbol xs name)
found_shown p [] name = refl
found_shown p (x ∷ xs) name = go (bytes_eq x.name.now name) (found_shown p xs name)
  where
    go : (b : Bool) → value_shown (find (is_named name) (map (shown_symbol p) xs)) ≡ value_found (found_symbol xs name)
        → value_shown (cond b (Some (shown_symbol p x)) (find (is_named name) (map (shown_symbol p) xs)))
        ≡ value_found (cond b (Some x) (found_symbol xs name))
    go true e = refl
    go false e = e

-- the value of the symbol of a name is that of the name
value_is : (p : Project) (s : Layout) (xs : List OutputSymbol) (name : Name)
    → map (shown_symbol p) xs ≡ output_symbols p s → value_found (found_symbol xs name) ≡ name_value p s name
value_is p s xs name same =
    sym (found_shown p xs name)
    ∙ (ap (λ (ys : List model.OutputSymbol). value_shown (find (is_named name) ys)) same ∙ symbol_value p s name)

-- ---- the entry symbol

pub entry_none : (p : Project) (s : Layout) → None ≡ entry_symbol p → Number 0 ≡ entry_point p s
unfolding entry_point
entry_none p s e = ap (value_if_named p s) e

pub entry_some : (p : Project) (s : Layout) (xs : List OutputSymbol) (name : Name) → Some name ≡ entry_symbol p
    → map (shown_symbol p) xs ≡ output_symbols p s → value_found (found_symbol xs name) ≡ entry_point p s
unfolding entry_point
entry_some p s xs name e same = value_is p s xs name same ∙ ap (value_if_named p s) e

-- ---- output sections and memory regions

next : {A : Type 0} (x : A) (xs : List A) (o : Option ℕ) → numbered (x ∷ xs) (option_map suc o) ≡ numbered xs o
next x xs None = refl
next x xs (Some k) = refl

flip : (x y : Name) (b : Bool) → bytes_eq x y ≡ b → bytes_eq y x ≡ b
flip x y true e = (bytes_eq-Decides y x).1 (sym ((bytes_eq-Decides x y).0 e))
flip x y false e = go (bytes_eq y x) refl
  where
    go : (b : Bool) → bytes_eq y x ≡ b → b ≡ false
    go true f = absurd (true≢false (sym ((bytes_eq-Decides x y).1 (sym ((bytes_eq-Decides y x).0 f))) ∙ e))
    go false f = refl

section_later : (n : ℕ) (os : List OutputSectionAt) (name : Name) → section_from (suc n) os name
    ≡ option_map suc (section_from n os name)
section_later n [] name = refl
section_later n (o ∷ os) name = go (bytes_eq name o.section.name) (section_later (suc n) os name)
  where
    go : (b : Bool) → section_from (suc (suc n)) os name ≡ option_map suc (section_from (suc n) os name)
        → cond b (Some (suc n)) (section_from (suc (suc n)) os name)
        ≡ option_map suc (cond b (Some n) (section_from (suc n) os name))
    go true e = refl
    go false e = e

section_found : (qs : List PlacedOutput) (os : List OutputSectionAt) (name : Name)
    → map (λ (q : PlacedOutput). q.name) qs ≡ map (λ (o : OutputSectionAt). o.section.name) os
    → option_map code.section_numbers (numbered (map placed_of qs) (section_from 0 os name))
    ≡ option_map (λ (q : PlacedOutput). record { start = q.start; load = q.load; size = q.size })
    (find (λ (q : PlacedOutput). bytes_eq q.name name) qs)
section_found [] [] name same = refl
section_found [] (o ∷ os) name same = absurd (cc)
section_found (q ∷ qs) [] name same = absurd (cc)
section_found (q ∷ qs) (o ∷ os) name same =
    let one : q.name ≡ o.section.name = cc in
    let others : map (λ (x : PlacedOutput). x.name) qs ≡ map (λ (x : OutputSectionAt). x.section.name) os = cc in
    go (bytes_eq name o.section.name) refl one (section_found qs os name others)
  where
    go : (b : Bool) → bytes_eq name o.section.name ≡ b → q.name ≡ o.section.name
        → option_map code.section_numbers (numbered (map placed_of qs) (section_from 0 os name))
        ≡ option_map (λ (x : PlacedOutput). record { start = x.start; load = x.load; size = x.size })
        (find (λ (x : PlacedOutput). bytes_eq x.name name) qs)
        → option_map code.section_numbers (numbered (map placed_of (q ∷ qs)) (section_from 0 (o ∷ os) name))
        ≡ option_map (λ (x : PlacedOutput). record { start = x.start; load = x.load; size = x.size })
        (find (λ (x : PlacedOutput). bytes_eq x.name name) (q ∷ qs))
    go true e one h =
        ap (λ (b : Bool). option_map code.section_numbers (numbered (map placed_of (q ∷ qs))
        (cond b (Some 0) (section_from 1 os name)))) e
        ∙ sym (ap (λ (b : Bool).
        option_map (λ (x : PlacedOutput). record { start = x.start; load = x.load; size = x.size })
        (cond b (Some q) (find (λ (x : PlacedOutput). bytes_eq x.name name) qs)))
        (ap (λ (n : Name). bytes_eq n name) one ∙ flip name o.section.name true e))
    go false e one h =
        ap (λ (b : Bool). option_map code.section_numbers (numbered (map placed_of (q ∷ qs))
        (cond b (Some 0) (section_from 1 os name)))) e
        ∙ (ap (λ (k : Option ℕ). option_map code.section_numbers (numbered (map placed_of (q ∷ qs)) k))
        (section_later 0 os name)
        ∙ (ap (option_map code.section_numbers) (next (placed_of q) (map placed_of qs) (section_from 0 os name))
        ∙ (h
        ∙ sym (ap (λ (b : Bool).
        option_map (λ (x : PlacedOutput). record { start = x.start; load = x.load; size = x.size })
        (cond b (Some q) (find (λ (x : PlacedOutput). bytes_eq x.name name) qs)))
        (ap (λ (n : Name). bytes_eq n name) one ∙ flip name o.section.name false e)))))

region_later : (n : ℕ) (rs : List Region) (name : Name) → region_from (suc n) rs name
    ≡ option_map suc (region_from n rs name)
region_later n [] name = refl
region_later n (r ∷ rs) name = go (bytes_eq name r.name) (region_later (suc n) rs name)
  where
    go : (b : Bool) → region_from (suc (suc n)) rs name ≡ option_map suc (region_from (suc n) rs name)
        → cond b (Some (suc n)) (region_from (suc (suc n)) rs name)
        ≡ option_map suc (cond b (Some n) (region_from (suc n) rs name))
    go true e = refl
    go false e = e

region_found : (ms : List MemoryRegion) (rs : List Region) (name : Name)
    → map (λ (m : MemoryRegion). m.name) ms ≡ map (λ (r : Region). r.name) rs
    → option_map code.region_numbers (numbered (map region_of ms) (region_from 0 rs name))
    ≡ option_map (λ (m : MemoryRegion). record { origin = m.origin; extent = m.extent })
    (find (λ (m : MemoryRegion). bytes_eq m.name name) ms)
region_found [] [] name same = refl
region_found [] (r ∷ rs) name same = absurd (cc)
region_found (m ∷ ms) [] name same = absurd (cc)
region_found (m ∷ ms) (r ∷ rs) name same =
    let one : m.name ≡ r.name = cc in
    let others : map (λ (x : MemoryRegion). x.name) ms ≡ map (λ (x : Region). x.name) rs = cc in
    go (bytes_eq name r.name) refl one (region_found ms rs name others)
  where
    go : (b : Bool) → bytes_eq name r.name ≡ b → m.name ≡ r.name
        → option_map code.region_numbers (numbered (map region_of ms) (region_from 0 rs name))
        ≡ option_map (λ (x : MemoryRegion). record { origin = x.origin; extent = x.extent })
        (find (λ (x : MemoryRegion). bytes_eq x.name name) ms)
        → option_map code.region_numbers (numbered (map region_of (m ∷ ms)) (region_from 0 (r ∷ rs) name))
        ≡ option_map (λ (x : MemoryRegion). record { origin = x.origin; extent = x.extent })
        (find (λ (x : MemoryRegion). bytes_eq x.name name) (m ∷ ms))
    go true e one h =
        ap (λ (b : Bool). option_map code.region_numbers (numbered (map region_of (m ∷ ms))
        (cond b (Some 0) (region_from 1 rs name)))) e
        ∙ sym (ap (λ (b : Bool).
        option_map (λ (x : MemoryRegion). record { origin = x.origin; extent = x.extent })
        (cond b (Some m) (find (λ (x : MemoryRegion). bytes_eq x.name name) ms)))
        (ap (λ (n : Name). bytes_eq n name) one ∙ flip name r.name true e))
    go false e one h =
        ap (λ (b : Bool). option_map code.region_numbers (numbered (map region_of (m ∷ ms))
        (cond b (Some 0) (region_from 1 rs name)))) e
        ∙ (ap (λ (k : Option ℕ). option_map code.region_numbers (numbered (map region_of (m ∷ ms)) k))
        (region_later 0 rs name)
        ∙ (ap (option_map code.region_numbers) (next (region_of m) (map region_of ms) (region_from 0 rs name))
        ∙ (h
        ∙ sym (ap (λ (b : Bool).
        option_map (λ (x : MemoryRegion). record { origin = x.origin; extent = x.extent })
        (cond b (Some m) (find (λ (x : MemoryRegion). bytes_eq x.name name) ms)))
        (ap (λ (n : Name). bytes_eq n name) one ∙ flip name r.name false e)))))

-- ---- all

same_scope : (m n : Scope) → ((z : Name) → m.symbol z ≡ n.symbol z) → ((z : Name) → m.section z ≡ n.section z)
    → ((z : Name) → m.region z ≡ n.region z) → m ≡ n
same_scope m n a b c = λ i. record { symbol = λ z. a z i; section = λ z. b z i; region = λ z. c z i }

pub scope_is : (p : Project) (s : Layout) (f : FinalScope) → f.script.now ≡ p.script
    → IsPlacementView p.script s f.placement
    → map (shown_symbol p) f.symbols.list.now ≡ output_symbols p s → AreOutputs p s.sections
    → map (λ (m : MemoryRegion). m.name) s.regions ≡ map (λ (r : Region). r.name) (regions p.script)
    → meaning_of f ≡ final_scope p s
scope_is p s f script placement symbols outputs memory =
    same_scope (meaning_of f) (final_scope p s) (λ z. ap number_if_any (value_is p s f.symbols.list.now z symbols))
    (λ z.
    ap (λ (qs : List Placed). option_map code.section_numbers (numbered qs
    (section_from 0 (output_sections f.script.now) z))) placement.sections
    ∙ section_found s.sections (output_sections f.script.now) z
    (outputs ∙ sym (ap (λ st. map (λ (o : OutputSectionAt). o.section.name) (output_sections st)) script)))
    (λ z.
    ap (λ (rs : List PlacedRegion). option_map code.region_numbers (numbered rs
    (region_from 0 (regions f.script.now) z))) placement.regions
    ∙ region_found s.regions (regions f.script.now) z
    (memory ∙ sym (ap (λ st. map (λ (r : Region). r.name) (regions st)) script)))
