-- The run of each section of an object of a link is there.
use Rattle.emit.proofs.Common.{AreRunsUnless, Bool, Contains, Contains-append_left, Contains-append_right, IfNone}
use Rattle.emit.proofs.Common.{InTable, InputSection, IsRunUnless, IsSome, KnownLink, LinkedSection, List, NamedObject}
use Rattle.emit.proofs.Common.{None, ObjectSection, Option, Patch, Project, SectionRef, Some, [], ap, arith, cond}
use Rattle.emit.proofs.Common.{ends_of, enumerate_from, false, false_from_ne_true, flat_map, get_or_from_slice_get}
use Rattle.emit.proofs.Common.{length, length-append, ltb-true, map, nat_lt, option_map, refl, same_Some, sections_in}
use Rattle.emit.proofs.Common.{slice_get, slice_get-map, slice_get_within, slice_index_or, subst, suc, sym, take, zero}
use Rattle.emit.proofs.Common.{ℕ, ◌+◌, ◌<◌, ◌∙◌, ◌∷◌, ◌≡◌, ◌≤◌}
use Rattle.ldmodel.specs.InputSections.{common_blocks, input_sections, linked_input, object_inputs}
use Rattle.emit.proofs.Numbering.{linked_long, run_of, section_at}
use Rattle.place.specs.IndexedLayout.{linked_in, linked_of}
use Rattle.gather.specs.SectionTable.{IsTableOf, number_of}
use Rattle.gather.specs.Slots.{no_slots, slots_of}
use Rattle.gather.specs.declared.input_section_table.InputSectionTable.{InputSectionTable}
use Rattle.gather.specs.declared.slots.Slots.{Slots}

abbrev flat : List (List Patch) → List Patch
flat runs = flat_map (λ run. run) runs

-- where a run begins and ends
record Ended (m : ℕ) (runs : List (List Patch)) (n : ℕ) : Type 0 where
  pub begin : ℕ
  pub end : ℕ
  pub from : slice_get (m ∷ ends_of m runs) n ≡ Some begin
  pub to : slice_get (ends_of m runs) n ≡ Some end
  pub order : begin ≤ end
  pub above : m ≤ begin
  pub within : end ≤ m + length (flat runs)
  pub long : n < length (ends_of m runs)

ended : (m : ℕ) (runs : List (List Patch)) (n : ℕ) (run : List Patch) → slice_get runs n ≡ Some run → Ended m runs n
ended m [] n run e = absurd (let none : ⊥ = cc in none)
ended m (r ∷ rs) zero run e = record {
  begin = m;
  end = m + length r;
  from = refl;
  to = refl;
  order = omega arith;
  above = omega arith;
  within = omega (arith, length-append r (flat rs));
  long = omega arith;
}
ended m (r ∷ rs) (suc n) run e =
    let k = ended (m + length r) rs n run e in
    record {
      begin = k.begin;
      end = k.end;
      from = k.from;
      to = k.to;
      order = k.order;
      above = omega (arith, k.above);
      within = omega (arith, k.within, length-append r (flat rs));
      long = omega (arith, k.long);
    }

-- where the run of a number stands
pub record Stands (ends : List ℕ) (patches : List Patch) (number : ℕ) : Type 0 where
  pub begin : ℕ
  pub end : ℕ
  pub from : slice_get (0 ∷ ends) number ≡ Some begin
  pub to : slice_get (0 ∷ ends) (number + 1) ≡ Some end
  pub order : begin ≤ end
  pub within : end ≤ length patches
  pub long : number < length ends

pub run_stands : (l : KnownLink) (stays : SectionRef → Bool) (o : NamedObject) (x : LinkedSection)
    (ends : List ℕ) (patches : List Patch) (place section number : ℕ) → AreRunsUnless l stays patches ends
    → slice_get l.project.objects place ≡ Some o → slice_get o.object.sections section ≡ Some x
    → number ≡ linked_in (take place l.project.objects) + section → Stands ends patches number
run_stands l stays o x ends patches place section number runs there own sum =
    let ss : List ObjectSection = sections_in l.project.objects in
    let number_is : number ≡ length (sections_in (take place l.project.objects)) + section =
    sum ∙ ap (λ n. n + section) (sym (linked_long (take place l.project.objects))) in
    let found : slice_get ss number ≡ Some (record { object = o; section = x }) =
    ap (slice_get ss) number_is ∙ section_at l.project.objects place o section x there own in
    let one = run_of (IsRunUnless l stays) ss runs.runs number (record { object = o; section = x }) runs.each found in
    let k = ended 0 runs.runs number one.run one.at in
    let suc_is : number + 1 ≡ suc number = omega arith in
    record {
      begin = k.begin;
      end = k.end;
      from = ap (λ es. slice_get (0 ∷ es) number) runs.ends ∙ k.from;
      to = ap (slice_get (0 ∷ ends)) suc_is ∙ ap (λ es. slice_get es number) runs.ends ∙ k.to;
      order = k.order;
      within = omega (arith, k.within, ap length runs.patches);
      long = omega (arith, k.long, ap length runs.ends);
    }

-- ---- the linked sections before an object are counted

contains_at : {X : Type 0} (xs : List X) (k : ℕ) (x : X) → slice_get xs k ≡ Some x → Contains xs x
contains_at xs k x e = (k, slice_get_within xs k x e, get_or_from_slice_get xs k x x e)

past : {X : Type 0} (xs : List X) (n : ℕ) (d : X) → slice_get xs n ≡ None → slice_index_or xs n d ≡ d
past [] n d e = refl
past (x ∷ xs) zero d e = absurd (let none : ⊥ = cc in none)
past (x ∷ xs) (suc n) d e = past xs n d e

no_entry : (a : Option Slots) → option_map (λ (x : Slots). x.linked) a ≡ None → a ≡ None
no_entry None h = refl
no_entry (Some x) h = absurd (let none : ⊥ = cc in none)

from_object : (p : Project) (n : ℕ) (os : List NamedObject) (i : ℕ) (o : NamedObject) (s : InputSection)
    → slice_get os i ≡ Some o → ((m : ℕ) → m ≡ n + i → Contains (object_inputs p m o) s)
    → Contains (flat_map (λ (q : ℕ × NamedObject). object_inputs p q.0 q.1) (enumerate_from n os)) s
from_object p n [] i o s e h = absurd (let none : ⊥ = cc in none)
from_object p n (y ∷ ys) zero o s e h =
    Contains-append_left (object_inputs p n y)
    (flat_map (λ (q : ℕ × NamedObject). object_inputs p q.0 q.1) (enumerate_from (n + 1) ys)) s
    (subst (λ z. Contains (object_inputs p n z) s) (sym (same_Some _ _ e)) (h n (omega arith)))
from_object p n (y ∷ ys) (suc i) o s e h =
    Contains-append_right (object_inputs p n y)
    (flat_map (λ (q : ℕ × NamedObject). object_inputs p q.0 q.1) (enumerate_from (n + 1) ys)) s
    (from_object p (n + 1) ys i o s e (λ m q. h m (omega (arith, q))))

is_input : (p : Project) (place : ℕ) (o : NamedObject) (i : ℕ) (x : LinkedSection)
    → slice_get p.objects place ≡ Some o → slice_get o.object.sections i ≡ Some x
    → Contains (input_sections p) (linked_input place o x)
unfolding input_sections
is_input p place o i x there own =
    let s = linked_input place o x in
    from_object p 0 p.objects place o s there
    (λ m q.
    let same : place ≡ m = omega (arith, q) in
    subst (λ j. Contains (object_inputs p j o) s) same
    (Contains-append_left (map (linked_input place o) o.object.sections) (common_blocks p place o) s
    (contains_at (map (linked_input place o) o.object.sections) i s
    (slice_get-map (linked_input place o) o.object.sections i ∙ ap (option_map (linked_input place o)) own))))

none_below : (k n : ℕ) → n ≡ 0 → nat_lt k n ≡ false
none_below k n e = false_from_ne_true (nat_lt k n) (λ t. absurd (omega (arith, ltb-true k n t, e)))

none_is_some : (a : Option ℕ) → a ≡ None → IsSome a → ⊥
none_is_some None e h = absurd (let none : ⊥ = cc in none)
none_is_some (Some n) e h = absurd (let none : ⊥ = cc in none)

pub is_counted : (p : Project) (t : InputSectionTable) (place : ℕ) (o : NamedObject) (i : ℕ) (x : LinkedSection)
    → IsTableOf p t → slice_get p.objects place ≡ Some o → slice_get o.object.sections i ≡ Some x
    → linked_of t place ≡ None → ⊥
is_counted p t place o i x h there own none =
    let slots = t.objects.items in
    let k = x.number.0 in
    let empty : (slots_of slots place).count ≡ 0 =
    ap (λ (s : Slots). s.count) (past slots place no_slots (no_entry (slice_get slots place) none)) in
    let some = h.all (linked_input place o x) (is_input p place o i x there own) in
    none_is_some (number_of t place (InTable x.number))
    (ap (λ b. cond b (Some ((slots_of slots place).begin + k)) None)
    (none_below k (slots_of slots place).count empty)) some

pub if_none : {X : Type 0} {P : Type 0} (a : Option X) → P → IfNone a P
if_none None h = h
if_none (Some x) h = tt

pub not_some : (a : Option ℕ) (n : ℕ) → a ≡ None → a ≡ Some n → ⊥
not_some a n e f = cc
