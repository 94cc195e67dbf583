-- A step on a slab, and the same step on the entries that it shows.
use Rattle.ldmodel_project.proofs.Common.{AreNamesDistinct, Bool, CanStep, Contents, Fits, IsOrdered, KeysAreStable}
use Rattle.ldmodel_project.proofs.Common.{List, Listed, NamedObject, None, Option, Put, Slab, Some, StagedObjects, Stay}
use Rattle.ldmodel_project.proofs.Common.{Step, ap, arith, cond, count_by, entry_at, eqb-true, false, get, is_some}
use Rattle.ldmodel_project.proofs.Common.{key_count, map, map-map, named_at, named_under, nat_eq, next_count}
use Rattle.ldmodel_project.proofs.Common.{next_entries, next_entry, next_named, next_slot, refl, subst, sym, true}
use Rattle.ldmodel_project.proofs.Common.{unnamed, unwrap_or, ℕ, ◌<◌, ◌∙◌, ◌≡◌}
use Rattle.ldmodel_project.specs.declared.staged.Step.TheVariants.{Remove, Move}
use Rattle.ldmodel_project.proofs.Counts.{map-same}
use Rattle.ldmodel_project.proofs.Keys.{key_count-entries, key_count-map, named_under-entries, named_under-map}

-- a key is listed after the step where the slab has it then
pub next_count-entries : (slots : Slab NamedObject) (order : List ℕ) (step : Step) (k : ℕ) → IsOrdered slots order
    → next_count (map (entry_at slots) order) step k ≡ cond (is_some (next_slot slots step k)) 1 0
next_count-entries slots order (Put new named) k h =
    at_key (nat_eq k new) (key_count-entries slots order k ∙ h.listed k)
  where
    at_key : (b : Bool) → key_count (map (entry_at slots) order) k ≡ cond (is_some (get slots k)) 1 0
        → cond b 1 (key_count (map (entry_at slots) order) k) ≡ cond (is_some (cond b (Some named) (get slots k))) 1 0
    at_key true e = refl
    at_key false e = e
next_count-entries slots order (Remove old) k h = at_key (nat_eq k old) (key_count-entries slots order k ∙ h.listed k)
  where
    at_key : (b : Bool) → key_count (map (entry_at slots) order) k ≡ cond (is_some (get slots k)) 1 0
        → cond b 0 (key_count (map (entry_at slots) order) k) ≡ cond (is_some (cond b None (get slots k))) 1 0
    at_key true e = refl
    at_key false e = e
next_count-entries slots order (Move moved) k h = key_count-entries slots order k ∙ h.listed k
next_count-entries slots order Stay k h = key_count-entries slots order k ∙ h.listed k

-- the object under a key that is listed after the step is that of the slab then
pub next_named-entries : (slots : Slab NamedObject) (order : List ℕ) (step : Step) (k : ℕ)
    → 0 < next_count (map (entry_at slots) order) step k
    → next_named (map (entry_at slots) order) step k ≡ unwrap_or (next_slot slots step k) unnamed
next_named-entries slots order (Put new named) k h = at_key (nat_eq k new) h (key_count-entries slots order k)
  where
    at_key : (b : Bool) → 0 < cond b 1 (key_count (map (entry_at slots) order) k)
        → key_count (map (entry_at slots) order) k ≡ count_by (nat_eq k) order
        → unwrap_or (cond b (Some named) None) (named_under (map (entry_at slots) order) k)
        ≡ unwrap_or (cond b (Some named) (get slots k)) unnamed
    at_key true h e = refl
    at_key false h e = named_under-entries slots order k (omega arith)
next_named-entries slots order (Remove old) k h = at_key (nat_eq k old) h (key_count-entries slots order k)
  where
    at_key : (b : Bool) → 0 < cond b 0 (key_count (map (entry_at slots) order) k)
        → key_count (map (entry_at slots) order) k ≡ count_by (nat_eq k) order
        → named_under (map (entry_at slots) order) k ≡ unwrap_or (cond b None (get slots k)) unnamed
    at_key true h e = absurd (omega arith)
    at_key false h e = named_under-entries slots order k (omega arith)
next_named-entries slots order (Move moved) k h =
    let e = key_count-entries slots order k in
    named_under-entries slots order k (omega arith)
next_named-entries slots order Stay k h =
    let e = key_count-entries slots order k in
    named_under-entries slots order k (omega arith)

-- what a commit has to know: what is kept, before and after the step on the slab
pub record Stepped (c : Contents) (s : StagedObjects) (old new : Slab NamedObject) (order : List ℕ) : Type 0 where
  pub entries : map (entry_at old) order ≡ c.entries
  pub ordered : IsOrdered old order
  pub fits : Fits c s
  pub slots : (k : ℕ) → get new k ≡ next_slot old s.step k

-- the entries after the step
pub Stepped-entries : (c : Contents) (s : StagedObjects) (old new : Slab NamedObject) (order : List ℕ)
    → Stepped c s old new order
    → map (entry_at new) s.order.items ≡ map (next_entry c.entries s.step) s.order.items
Stepped-entries c s old new order h =
    map-same (entry_at new) (next_entry c.entries s.step) s.order.items
    (λ k listed.
    let counted : 0 < next_count c.entries s.step k = omega (arith, h.fits.keys k) in
    let counted_here : 0 < next_count (map (entry_at old) order) s.step k =
    subst (λ (es : List Listed). 0 < next_count es s.step k) (sym h.entries) counted in
    let named : next_named (map (entry_at old) order) s.step k ≡ unwrap_or (next_slot old s.step k) unnamed =
    next_named-entries old order s.step k counted_here in
    let found : named_at new k ≡ unwrap_or (next_slot old s.step k) unnamed =
    ap (λ (o : Option NamedObject). unwrap_or o unnamed) (h.slots k) in
    let there : next_named (map (entry_at old) order) s.step k ≡ next_named c.entries s.step k =
    ap (λ (es : List Listed). next_named es s.step k) h.entries in
    let same : named_at new k ≡ next_named c.entries s.step k = found ∙ (sym named ∙ there) in
    ap (λ (o : NamedObject). let e : Listed = record { key = k; named = o } in e) same)

-- and the slab in the staged order
pub Stepped-ordered : (c : Contents) (s : StagedObjects) (old new : Slab NamedObject) (order : List ℕ)
    → Stepped c s old new order → IsOrdered new s.order.items
Stepped-ordered c s old new order h = record {
  listed = λ k.
      let there : next_count (map (entry_at old) order) s.step k ≡ next_count c.entries s.step k =
      ap (λ (es : List Listed). next_count es s.step k) h.entries in
      let here : next_count (map (entry_at old) order) s.step k ≡ cond (is_some (next_slot old s.step k)) 1 0 =
      next_count-entries old order s.step k h.ordered in
      let found : cond (is_some (get new k)) 1 0 ≡ cond (is_some (next_slot old s.step k)) 1 0 =
      ap (λ (o : Option NamedObject). cond (is_some o) 1 0) (h.slots k) in
      h.fits.keys k ∙ (sym there ∙ (here ∙ sym found));
  names =
      let same : map (λ (e : Listed). e.named) (map (entry_at new) s.order.items)
      ≡ map (λ (e : Listed). e.named) (map (next_entry c.entries s.step) s.order.items) =
      ap (map (λ (e : Listed). e.named)) (Stepped-entries c s old new order h) in
      let objects : map (λ (e : Listed). e.named) (map (next_entry c.entries s.step) s.order.items)
      ≡ map (named_at new) s.order.items =
      sym same ∙ map-map (λ (e : Listed). e.named) (entry_at new) s.order.items in
      subst AreNamesDistinct objects h.fits.names;
}

-- a key that is listed before and after has one name
pub Fits-stable : (c : Contents) (s : StagedObjects) → Fits c s → KeysAreStable c.entries (next_entries c.entries s)
Fits-stable c s h k before later =
    let count : 0 < count_by (nat_eq k) s.order.items =
    omega (arith, key_count-map (next_named c.entries s.step) s.order.items k, later) in
    ap (λ (o : NamedObject). o.name) (named_under-map (next_named c.entries s.step) s.order.items k count)
    ∙ kept s.step h.step
  where
    kept : (step : Step) → CanStep c step → (next_named c.entries step k).name ≡ (named_under c.entries k).name
    kept (Put new named) can = at_key (nat_eq k new) refl
      where
        at_key : (b : Bool) → nat_eq k new ≡ b → (unwrap_or (cond b (Some named) None) (named_under c.entries k)).name
            ≡ (named_under c.entries k).name
        at_key true same =
            let e : k ≡ new = eqb-true k new same in
            can.1 (subst (λ n. 0 < key_count c.entries n) e before) ∙ ap (λ n. (named_under c.entries n).name) (sym e)
        at_key false same = refl
    kept (Remove old) can = refl
    kept (Move moved) can = refl
    kept Stay can = refl
