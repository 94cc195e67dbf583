-- The input sections of a project, object by object.
use Rattle.gather.proofs.Common.{All, All-append, All-cons, All-head, All-map, All-nil, Bool, Common, Contains}
use Rattle.gather.proofs.Common.{Decision, Duplicate, Entry, InputSection, List, NamedObject, NamedSymbol, None, Option}
use Rattle.gather.proofs.Common.{Project, Provided, Script, Some, Strong, Undefined, Weak, [], and_parts, ap, arith}
use Rattle.gather.proofs.Common.{block_at, common_blocks, cond, cons_option, decision, enumerate_from, eqb, eqb-true}
use Rattle.gather.proofs.Common.{false, filter_map, flat_map, input_sections, linked_input, map, object_inputs, refl}
use Rattle.gather.proofs.Common.{slice_get, subst, suc, sym, true, ℕ, ◌+◌, ◌∙◌, ◌∷◌, ◌≡◌}
use Rattle.ldmodel.specs.InputSections.{block_of, common_block, is_same_entry}
use Rattle.gather.specs.OfObjects.{IsOfObject}

-- what holds of the sections of each object holds of all
module _ (p : Project) (P : InputSection → Type 0)
    (each : (i : ℕ) (o : NamedObject) → slice_get p.objects i ≡ Some o → All P (object_inputs p i o)) where
  from_each : (n : ℕ) (os : List NamedObject)
      → ((k : ℕ) (o : NamedObject) → slice_get os k ≡ Some o → All P (object_inputs p (n + k) o))
      → All P (flat_map (λ (o : ℕ × NamedObject). object_inputs p o.0 o.1) (enumerate_from n os))
  from_each n [] h = All-nil P
  from_each n (o ∷ os) h =
      let first : n + 0 ≡ n = omega arith in
      All-append P (object_inputs p n o)
      (flat_map (λ (o : ℕ × NamedObject). object_inputs p o.0 o.1) (enumerate_from (n + 1) os))
      (subst (λ (m : ℕ). All P (object_inputs p m o)) first (h 0 o refl))
      (from_each (n + 1) os (λ k x e.
      let next : n + suc k ≡ (n + 1) + k = omega arith in
      subst (λ (m : ℕ). All P (object_inputs p m x)) next (h (suc k) x e)))

  pub all_sections : All P (input_sections p)
  unfolding input_sections
  all_sections =
      from_each 0 p.objects (λ k o e.
      let from : k ≡ 0 + k = omega arith in
      subst (λ (m : ℕ). All P (object_inputs p m o)) from (each k o e))

  pub one_section : (s : InputSection) → Contains (input_sections p) s → P s
  one_section s c = subst P c.2 (all_sections c.0 s c.1)

-- an input section of object number i, of this name
record IsOf (i : ℕ) (name : List ℕ) (s : InputSection) : Type 0 where
  number : s.id.object ≡ i
  named : s.object ≡ name

block_is : (name : List ℕ) (e : Entry) (d : Decision) → All (IsOf e.object name) (cons_option (block_of name e d) [])
block_is name e (Common owner size al) = go (is_same_entry owner e) refl
  where
    go : (b : Bool) → is_same_entry owner e ≡ b
        → All (IsOf e.object name) (cons_option (cond b (Some (common_block name owner size al)) None) [])
    go true same =
        let both = and_parts (eqb owner.object e.object) (eqb owner.symbol e.symbol) same in
        All-cons (IsOf e.object name) (common_block name owner size al) []
        (record { number = eqb-true owner.object e.object both.0; named = refl }) (All-nil (IsOf e.object name))
    go false same = All-nil (IsOf e.object name)
block_is name e (Strong x) = All-nil (IsOf e.object name)
block_is name e Script = All-nil (IsOf e.object name)
block_is name e (Weak x) = All-nil (IsOf e.object name)
block_is name e Provided = All-nil (IsOf e.object name)
block_is name e Undefined = All-nil (IsOf e.object name)
block_is name e Duplicate = All-nil (IsOf e.object name)

with_option : (P : InputSection → Type 0) (m : Option InputSection) (xs : List InputSection)
    → All P (cons_option m []) → All P xs → All P (cons_option m xs)
with_option P None xs h k = k
with_option P (Some x) xs h k = All-cons P x xs (All-head P x [] h) k

module _ (p : Project) where
  of_blocks : (i : ℕ) (o : NamedObject) (es : List (ℕ × NamedSymbol))
      → All (IsOf i o.name) (filter_map (block_at p i o) es)
  of_blocks i o [] = All-nil (IsOf i o.name)
  of_blocks i o (e ∷ es) =
      with_option (IsOf i o.name) (block_at p i o e) (filter_map (block_at p i o) es)
      (block_is o.name (record { object = i; symbol = e.0 }) (decision p e.1.name)) (of_blocks i o es)

  of_object : (i : ℕ) (o : NamedObject) → All (IsOf i o.name) (object_inputs p i o)
  of_object i o =
      All-append (IsOf i o.name) (map (linked_input i o) o.object.sections) (common_blocks p i o)
      (All-map (IsOf i o.name) (linked_input i o) o.object.sections
      (λ k d low. record { number = refl; named = refl }))
      (of_blocks i o (enumerate_from 0 o.object.symbols))

  is_of : (i : ℕ) (o : NamedObject) → slice_get p.objects i ≡ Some o → (s : InputSection) → IsOf i o.name s
      → IsOfObject p s
  is_of i o at s is = record { object = o; at = ap (slice_get p.objects) is.number ∙ at; name = sym is.named }

  pub of_objects : (s : InputSection) → Contains (input_sections p) s → IsOfObject p s
  of_objects s c =
      one_section p (IsOfObject p) (λ i o at k d low. is_of i o at _ (of_object i o k d low)) s c
