-- Input sections by their keys: their names and relocations, and the faults of orphans.
use Rattle.gather.proofs.Common.{All, All-append, All-filter, All-head, All-map, All-tail, AscendingSections, Bool}
use Rattle.gather.proofs.Common.{Common, Contains, Decision, Duplicate, Entry, InputSection, IsFound, LinkedSection}
use Rattle.gather.proofs.Common.{List, NamedObject, None, Project, Provided, Script, SectionId, SectionRef, Some}
use Rattle.gather.proofs.Common.{Strong, Undefined, Weak, [], and_parts, ap, block_at, candidates, common_blocks, cond}
use Rattle.gather.proofs.Common.{enumerate_from, eqb, eqb-true, false, filter, get_or, input_sections, linked_input}
use Rattle.gather.proofs.Common.{live, map, name_of_part, object_inputs, object_name, option_map_or, orphans, refl}
use Rattle.gather.proofs.Common.{section_id, slice_get, slice_get-get_or, subst, sym, true, ℕ, ◌∙◌, ◌∷◌, ◌≡◌}
use Rattle.ldmodel.specs.Fault as fault
use Rattle.ldmodel.specs.Fault.{Fault}
use Rattle.ldmodel.specs.FaultCode.{fault_of, section_at}
use Rattle.ldmodel.specs.InputSections.{block_of, common_block, is_same_entry}
use Rattle.ldmodel.specs.Link.{gathering_faults}
use Rattle.ldmodel.specs.declared.fault.Fault.TheVariants.{Orphan}
use Rattle.gather.proofs.Lists.{all_filter_map, all_flat_map, all_numbered}
use Rattle.gather.proofs.ByNumber.{section_found}

-- a common block, by the entry that owns it
pub record IsBlock (name : List ℕ) (i : ℕ) (s : InputSection) : Type 0 where
  pub size : ℕ
  pub alignment : ℕ
  pub symbol : ℕ
  pub is : common_block name (record { object = i; symbol = symbol }) size alignment ≡ s

block_is : (name : List ℕ) (e : Entry) (d : Decision) (s : InputSection) → block_of name e d ≡ Some s
    → IsBlock name e.object s
block_is name e (Common owner size al) s h = go (is_same_entry owner e) refl h
  where
    go : (b : Bool) → is_same_entry owner e ≡ b → cond b (Some (common_block name owner size al)) None ≡ Some s
        → IsBlock name e.object s
    go false same g = absurd (cc)
    go true same g =
        let both = and_parts (eqb owner.object e.object) (eqb owner.symbol e.symbol) same in
        let is : common_block name owner size al ≡ s = cc in record {
          size = size;
          alignment = al;
          symbol = owner.symbol;
          is = ap (λ (n : ℕ). common_block name (record { object = n; symbol = owner.symbol }) size al)
              (sym (eqb-true owner.object e.object both.0)) ∙ is;
        }
block_is name e (Strong x) s h = absurd (cc)
block_is name e Script s h = absurd (cc)
block_is name e (Weak x) s h = absurd (cc)
block_is name e Provided s h = absurd (cc)
block_is name e Undefined s h = absurd (cc)
block_is name e Duplicate s h = absurd (cc)

module _ (p : Project) (up : AscendingSections p) where
  name_is : (i : ℕ) (o : NamedObject) → slice_get p.objects i ≡ Some o → object_name p i ≡ o.name
  name_is i o e = ap (λ m. option_map_or (λ (o : NamedObject). o.name) m []) e

  linked_found : (i : ℕ) (o : NamedObject) → slice_get p.objects i ≡ Some o
      → All (IsFound p) (map (linked_input i o) o.object.sections)
  linked_found i o e = All-map (IsFound p) (linked_input i o) o.object.sections (λ k d low.
      of_section k (get_or o.object.sections k d) (slice_get-get_or o.object.sections k d low))
    where
      of_section : (k : ℕ) (x : LinkedSection) → slice_get o.object.sections k ≡ Some x
          → IsFound p (linked_input i o x)
      of_section k x is =
          let there : section_at p i x.number ≡ Some x = section_found p i k o x up e is in record {
            object = name_is i o e;
            name = ap (λ m. option_map_or (λ (y : LinkedSection). y.name) m []) there;
            relocations = ap (λ m. option_map_or (λ (y : LinkedSection). y.relocations) m []) there;
          }

  blocks_found : (i : ℕ) (o : NamedObject) → slice_get p.objects i ≡ Some o → All (IsFound p) (common_blocks p i o)
  blocks_found i o e = all_filter_map (IsFound p) (block_at p i o) (enumerate_from 0 o.object.symbols) (λ x s is.
      of_block s (block_is o.name (record { object = i; symbol = x.0 }) _ s is))
    where
      of_block : (s : InputSection) → IsBlock o.name i s → IsFound p s
      of_block s b = subst (IsFound p) b.is (record { object = name_is i o e; name = refl; relocations = refl })

  pub all_found : All (IsFound p) (input_sections p)
  unfolding input_sections
  all_found =
      all_flat_map (IsFound p) (λ (o : ℕ × NamedObject). object_inputs p o.0 o.1) (enumerate_from 0 p.objects)
      (all_numbered (λ (o : ℕ × NamedObject). All (IsFound p) (object_inputs p o.0 o.1)) p.objects (λ i o e.
      All-append (IsFound p) (map (linked_input i o) o.object.sections) (common_blocks p i o) (linked_found i o e)
      (blocks_found i o e)))

  pub found_one : (s : InputSection) → Contains (input_sections p) s → IsFound p s
  found_one s c = subst (IsFound p) c.2 (all_found c.0 s c.1)

  fault_by : SectionId → Fault
  fault_by x = fault.Orphan (object_name p x.object) (name_of_part p x.object x.part)

  by_keys : (ks : List SectionRef) → map (λ k. fault_of p (λ key. key) (Orphan k)) ks
      ≡ map fault_by (map (section_id (λ key. key)) ks)
  unfolding fault_of fault_by
  by_keys [] = refl
  by_keys (k ∷ ks) = ap (λ l. fault_by (section_id (λ key. key) k) ∷ l) (by_keys ks)

  by_ids : (ss : List InputSection) → All (IsFound p) ss → map fault_by (map (λ (s : InputSection). s.id) ss)
      ≡ map (λ (x : InputSection). fault.Orphan x.object x.name) ss
  unfolding fault_by
  by_ids [] h = refl
  by_ids (s ∷ ss) h =
      let is : IsFound p s = All-head (IsFound p) s ss h in
      ap (λ (name : List ℕ). fault.Orphan name (name_of_part p s.id.object s.id.part)
      ∷ map fault_by (map (λ (s : InputSection). s.id) ss)) is.object
      ∙ (ap (λ (name : List ℕ). fault.Orphan s.object name ∷ map fault_by (map (λ (s : InputSection). s.id) ss)) is.name
      ∙ ap (λ l. fault.Orphan s.object s.name ∷ l) (by_ids ss (All-tail (IsFound p) s ss h)))

  -- the orphans as faults, where the live sections are some of all
  pub orphan_faults : (test : InputSection → Bool) (ks : List SectionRef) → live p ≡ filter test (candidates p)
      → map (section_id (λ key. key)) ks ≡ map (λ (s : InputSection). s.id) (orphans p)
      → map (λ k. fault_of p (λ key. key) (Orphan k)) ks ≡ gathering_faults p
  unfolding gathering_faults orphans
  orphan_faults test ks in_order are =
      let found : All (IsFound p) (live p) =
      subst (All (IsFound p)) (sym in_order)
      (All-filter test (IsFound p) (candidates p) (All-filter _ (IsFound p) (input_sections p) all_found)) in
      by_keys ks ∙ (ap (map fault_by) are
      ∙ by_ids _ (All-filter _ (IsFound p) (live p) found))
