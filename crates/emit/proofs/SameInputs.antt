-- The input sections of a project without their relocations; where sections are dropped that nothing refers to, each
-- with the symbols that its relocations name. Both projects have the same.
use Rattle.emit.proofs.Common.{Bool, DiffersInContents, InTable, InputSection, LinkedSection, List, NamedObject}
use Rattle.emit.proofs.Common.{NamedSymbol, None, ObjectOutline, Option, Project, Relocation, Some, SymbolIndex, [], ap}
use Rattle.emit.proofs.Common.{cond, cons_option, enumerate_from, false, filter_map, flat_map, map, map-append, map-map}
use Rattle.emit.proofs.Common.{object_outline, pos, refl, sym, true, zip, ℕ, ◌++◌, ◌+◌, ◌∙◌, ◌∷◌, ◌≡◌}
use Rattle.elfobj.specs.declared.relocation.RelocationKind.TheVariants as kind
use Rattle.ldmodel.specs.InputSections.{block_at, block_of, common_block, common_blocks, input_sections, is_same_entry}
use Rattle.ldmodel.specs.InputSections.{linked_input, object_inputs}
use Rattle.ldmodel.specs.Names.{Common, Decision, Duplicate, Entry, Provided, Script, Strong, Undefined, Weak, decision}
use Rattle.ldmodel_laws.specs.Outline.{SectionOutline, section_outline}
use Rattle.emit.proofs.SameNames.{same_decision}

-- the symbols that relocations name, where sections are dropped that nothing refers to
abbrev targets : (gc : Bool) → List Relocation → List SymbolIndex
targets true rs = map (λ (r : Relocation). r.symbol) rs
targets false rs = []

-- a relocation of which nothing but its symbol is told
abbrev pub naming : SymbolIndex → Relocation
naming k = record { offset = 0; symbol = k; kind = kind.None; addend = pos 0 }

-- an input section without its relocations, but for their symbols where these matter
abbrev pub bare : (gc : Bool) → InputSection → InputSection
bare gc x = record x { relocations = map naming (targets gc x.relocations) }

-- ---- of one project

-- a linked section of object number n, from its outline and its targets
abbrev outlined_input : ℕ → List ℕ → SectionOutline × List SymbolIndex → InputSection
outlined_input n object x = record {
  id = record { object = n; part = InTable x.0.number };
  object = object;
  name = x.0.name;
  kind = x.0.kind;
  flags = x.0.flags;
  size = x.0.size;
  alignment = x.0.alignment;
  relocations = map naming x.1;
}

-- the common block that a symbol of object number n owns, by what names stand for
abbrev outlined_block : (List ℕ → Decision) → ℕ → List ℕ → ℕ × NamedSymbol → Option InputSection
outlined_block stands n object x = block_of object (record { object = n; symbol = x.0 }) (stands x.1.name)

-- the input sections of object number n, from its outline and its targets
abbrev outlined_inputs : (List ℕ → Decision) → ℕ → ObjectOutline × List (List SymbolIndex) → List InputSection
outlined_inputs stands n x =
    map (outlined_input n x.0.name) (zip x.0.sections x.1)
    ++ filter_map (outlined_block stands n x.0.name) (enumerate_from 0 x.0.symbols)

abbrev targets_of : (gc : Bool) → NamedObject → List (List SymbolIndex)
targets_of gc o = map (λ (x : LinkedSection). targets gc x.relocations) o.object.sections

module _ (gc : Bool) where
  bare_none : map naming (targets gc []) ≡ []
  bare_none = go gc
    where
      go : (b : Bool) → map naming (targets b []) ≡ []
      go true = refl
      go false = refl

  module _ (object : List ℕ) (entry : Entry) (xs ys : List InputSection) (rest : map (bare gc) xs ≡ ys) where
    block_bare : (d : Decision) → map (bare gc) (cons_option (block_of object entry d) xs)
        ≡ cons_option (block_of object entry d) ys
    block_bare (Common owner size alignment) = go (is_same_entry owner entry)
      where
        go : (b : Bool)
            → map (bare gc) (cons_option (cond b (Some (common_block object owner size alignment)) None) xs)
            ≡ cons_option (cond b (Some (common_block object owner size alignment)) None) ys
        go true = λ i. record (common_block object owner size alignment) { relocations = bare_none i } ∷ rest i
        go false = rest
    block_bare (Strong e) = rest
    block_bare (Weak e) = rest
    block_bare Script = rest
    block_bare Provided = rest
    block_bare Undefined = rest
    block_bare Duplicate = rest

  sections_bare : (n : ℕ) (o : NamedObject) (xs : List LinkedSection) → map (bare gc) (map (linked_input n o) xs)
      ≡ map (outlined_input n o.name)
      (zip (map section_outline xs) (map (λ (x : LinkedSection). targets gc x.relocations) xs))
  sections_bare n o [] = refl
  sections_bare n o (x ∷ xs) = ap (λ ys. bare gc (linked_input n o x) ∷ ys) (sections_bare n o xs)

  module _ (p : Project) where
    blocks_bare : (n : ℕ) (o : NamedObject) (ss : List (ℕ × NamedSymbol))
        → map (bare gc) (filter_map (block_at p n o) ss) ≡ filter_map (outlined_block (decision p) n o.name) ss
    blocks_bare n o [] = refl
    blocks_bare n o (x ∷ ss) =
        block_bare o.name (record { object = n; symbol = x.0 }) (filter_map (block_at p n o) ss)
        (filter_map (outlined_block (decision p) n o.name) ss) (blocks_bare n o ss) (decision p x.1.name)

    object_bare : (n : ℕ) (o : NamedObject) → map (bare gc) (object_inputs p n o)
        ≡ outlined_inputs (decision p) n (object_outline o, targets_of gc o)
    object_bare n o =
        map-append (bare gc) (map (linked_input n o) o.object.sections) (common_blocks p n o)
        ∙ λ i. sections_bare n o o.object.sections i ++ blocks_bare n o (enumerate_from 0 o.object.symbols) i

    objects_bare : (n : ℕ) (os : List NamedObject)
        → map (bare gc) (flat_map (λ (o : ℕ × NamedObject). object_inputs p o.0 o.1) (enumerate_from n os))
        ≡ flat_map (λ (x : ℕ × (ObjectOutline × List (List SymbolIndex))). outlined_inputs (decision p) x.0 x.1)
        (enumerate_from n (zip (map object_outline os) (map (targets_of gc) os)))
    objects_bare n [] = refl
    objects_bare n (o ∷ os) =
        map-append (bare gc) (object_inputs p n o)
        (flat_map (λ (x : ℕ × NamedObject). object_inputs p x.0 x.1) (enumerate_from (n + 1) os))
        ∙ λ i. object_bare n o i ++ objects_bare (n + 1) os i

    inputs_bare : map (bare gc) (input_sections p)
        ≡ flat_map (λ (x : ℕ × (ObjectOutline × List (List SymbolIndex))). outlined_inputs (decision p) x.0 x.1)
        (enumerate_from 0 (zip (map object_outline p.objects) (map (targets_of gc) p.objects)))
    unfolding input_sections
    inputs_bare = objects_bare 0 p.objects

-- ---- of two projects

-- as many empty lists as an object has sections
abbrev no_targets : ObjectOutline → List (List SymbolIndex)
no_targets x = map (λ (y : SectionOutline). []) x.sections

none_seen : (os : List NamedObject) → map (targets_of false) os ≡ map no_targets (map object_outline os)
none_seen [] = refl
none_seen (o ∷ os) =
    λ i. sym (map-map (λ (y : SectionOutline). []) section_outline o.object.sections) i ∷ none_seen os i

module _ {p q : Project} {place : ℕ} (h : DiffersInContents p q place) where
  same_targets : (gc : Bool) → p.options.gc ≡ gc → map (targets_of gc) p.objects ≡ map (targets_of gc) q.objects
  same_targets true on = h.references on
  same_targets false off = none_seen p.objects ∙ (ap (map no_targets) h.outlines ∙ sym (none_seen q.objects))

  pub same_inputs : (gc : Bool) → p.options.gc ≡ gc
      → map (bare gc) (input_sections p) ≡ map (bare gc) (input_sections q)
  same_inputs gc is =
      inputs_bare gc p
      ∙ ((λ i. flat_map
      (λ (x : ℕ × (ObjectOutline × List (List SymbolIndex))). outlined_inputs (same_decision h i) x.0 x.1)
      (enumerate_from 0 (zip (h.outlines i) (same_targets gc is i))))
      ∙ sym (inputs_bare gc q))
