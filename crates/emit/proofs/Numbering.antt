-- Numbers of the sections of objects.
use Rattle.emit.proofs.Common.{AllPairs, AllZip, AreRunsUnless, Bool, EachLater, HaveNumbers, IsRunUnless, KnownLink}
use Rattle.emit.proofs.Common.{LinkedSection, List, NamedObject, ObjectData, ObjectSection, Patch, Section, SectionRef}
use Rattle.emit.proofs.Common.{Some, [], ap, arith, drop, ends_of, eqb-true, false, false_from_ne_true, flat_map}
use Rattle.emit.proofs.Common.{get_or, later_of_map, later_of_pairs, length, length-append, length-map, map, option_map}
use Rattle.emit.proofs.Common.{refl, same_Some, section_of, sections_in, sections_of, slice_get, slice_get-map, subst}
use Rattle.emit.proofs.Common.{suc, sum_by-cons, sym, take, zero, ℕ, ◌++◌, ◌+◌, ◌-◌, ◌<◌, ◌==◌, ◌∙◌, ◌∷◌, ◌≡◌, ◌≤◌}
use Rattle.place.specs.IndexedLayout.{linked_in}
use Rattle.emit.proofs.Lists.{get_left, get_right}

-- sections whose numbers ascend have different ones
pub numbers_differ : (o : ObjectData) (xs : List Section) → xs ≡ map section_of o.sections
    → AllPairs (λ s t. s.number.0 < t.number.0) xs → HaveNumbers o
numbers_differ o xs e h =
    later_of_map (λ (s t : Section). (s.number.0 == t.number.0) ≡ false) section_of o.sections
    (subst (EachLater (λ (s t : Section). (s.number.0 == t.number.0) ≡ false)) e
    (later_of_pairs (λ (s t : Section). (s.number.0 == t.number.0) ≡ false) xs
    (λ i j d l m. apart (get_or xs i d).number.0 (get_or xs j d).number.0 (h i j d l m))))
  where
    apart : (m n : ℕ) → m < n → (m == n) ≡ false
    apart m n l = false_from_ne_true (m == n) (λ t. absurd (omega (arith, l, eqb-true m n t)))

-- ---- the fields of a section

pub linked_long : (objects : List NamedObject) → length (sections_in objects) ≡ linked_in objects
linked_long [] = refl
linked_long (o ∷ os) =
    omega (
      arith,
      length-append (sections_of o o.object.sections) (sections_in os),
      length-map o.object.sections (λ x. let s : ObjectSection = record { object = o; section = x } in s),
      sum_by-cons (λ (y : NamedObject). length y.object.sections) o os,
      linked_long os,
    )

-- a section of an object among all sections
pub section_at : (objects : List NamedObject) (place : ℕ) (o : NamedObject) (i : ℕ) (x : LinkedSection)
    → slice_get objects place ≡ Some o → slice_get o.object.sections i ≡ Some x
    → slice_get (sections_in objects) (length (sections_in (take place objects)) + i)
    ≡ Some (record { object = o; section = x })
section_at [] place o i x e f = absurd (let none : ⊥ = cc in none)
section_at (y ∷ ys) zero o i x e f =
    let zero_is : 0 + i ≡ i = omega arith in
    let same : y ≡ o = same_Some _ _ e in
    ap (slice_get (sections_in (y ∷ ys))) zero_is
    ∙ get_left (sections_of y y.object.sections) (sections_in ys) i (record { object = o; section = x })
    (ap (λ (z : NamedObject). slice_get (sections_of z z.object.sections) i) same
    ∙ slice_get-map (λ z. record { object = o; section = z }) o.object.sections i
    ∙ ap (option_map (λ z. record { object = o; section = z })) f)
section_at (y ∷ ys) (suc place) o i x e f =
    let own : List ObjectSection = sections_of y y.object.sections in
    let before : ℕ = length (sections_in (take place ys)) in
    let sum : length (own ++ sections_in (take place ys)) + i ≡ length own + (before + i) =
    omega (arith, length-append own (sections_in (take place ys))) in
    ap (slice_get (own ++ sections_in ys)) sum ∙ get_right own (sections_in ys) (before + i)
    ∙ section_at ys place o i x e f

abbrev flat : List (List Patch) → List Patch
flat runs = flat_map (λ run. run) runs

take_own : (xs ys : List Patch) → take (length xs) (xs ++ ys) ≡ xs
take_own [] ys = refl
take_own (x ∷ xs) ys = ap (λ l. x ∷ l) (take_own xs ys)

drop_own : (xs ys : List Patch) (n : ℕ) → drop (length xs + n) (xs ++ ys) ≡ drop n ys
drop_own [] ys n = let e : 0 + n ≡ n = omega arith in ap (λ k. drop k ys) e
drop_own (x ∷ xs) ys n =
    let e : suc (length xs) + n ≡ suc (length xs + n) = omega arith in
    ap (λ k. drop k (x ∷ (xs ++ ys))) e ∙ drop_own xs ys n

record Cut (m begin end : ℕ) (runs : List (List Patch)) (run : List Patch) : Type 0 where
  pub from : m ≤ begin
  pub is : take (end - begin) (drop (begin - m) (flat runs)) ≡ run

-- a run, from where those before it end
run_cut : (m : ℕ) (runs : List (List Patch)) (n : ℕ) (run : List Patch) (begin end : ℕ) → slice_get runs n ≡ Some run
    → slice_get (m ∷ ends_of m runs) n ≡ Some begin → slice_get (ends_of m runs) n ≡ Some end → Cut m begin end runs run
run_cut m [] n run begin end e f g = absurd (let none : ⊥ = cc in none)
run_cut m (r ∷ rs) zero run begin end e f g =
    let same : r ≡ run = same_Some _ _ e in
    let from : m ≡ begin = same_Some _ _ f in
    let to : m + length r ≡ end = same_Some _ _ g in
    let none : begin - m ≡ 0 = omega (arith, from) in
    let long : end - begin ≡ length r = omega (arith, from, to) in
    record {
      from = omega (arith, from);
      is = ap (λ k. take (end - begin) (drop k (r ++ flat rs))) none
          ∙ ap (λ k. take k (r ++ flat rs)) long ∙ take_own r (flat rs) ∙ same;
    }
run_cut m (r ∷ rs) (suc n) run begin end e f g =
    let rest = run_cut (m + length r) rs n run begin end e f g in
    let split : begin - m ≡ length r + (begin - (m + length r)) = omega (arith, rest.from) in
    record {
      from = omega (arith, rest.from);
      is = ap (λ k. take (end - begin) (drop k (r ++ flat rs))) split
          ∙ ap (take (end - begin)) (drop_own r (flat rs) (begin - (m + length r))) ∙ rest.is;
    }

pub record Run (R : ObjectSection → List Patch → Type 0) (s : ObjectSection) (runs : List (List Patch)) (n : ℕ)
    : Type 0 where
  pub run : List Patch
  pub at : slice_get runs n ≡ Some run
  pub is : R s run

pub run_of : (R : ObjectSection → List Patch → Type 0) (ss : List ObjectSection) (runs : List (List Patch)) (n : ℕ)
    (s : ObjectSection) → AllZip R ss runs → slice_get ss n ≡ Some s → Run R s runs n
run_of R [] runs n s h e = absurd (let none : ⊥ = cc in none)
run_of R (x ∷ xs) [] n s h e = absurd h
run_of R (x ∷ xs) (r ∷ rs) zero s h e =
    record { run = r; at = refl; is = subst (λ z. R z r) (same_Some _ _ e) h.0 }
run_of R (x ∷ xs) (r ∷ rs) (suc n) s h e =
    let rest = run_of R xs rs n s h.1 e in record { run = rest.run; at = rest.at; is = rest.is }

pub run_found : (l : KnownLink) (stays : SectionRef → Bool) (o : NamedObject) (x : LinkedSection)
    (ends : List ℕ) (patches run : List Patch) (place section first number begin end : ℕ)
    → first ≡ linked_in (take place l.project.objects)
    → AreRunsUnless l stays patches ends → slice_get l.project.objects place ≡ Some o
    → slice_get o.object.sections section ≡ Some x
    → number ≡ first + section → slice_get (0 ∷ ends) number ≡ Some begin
    → slice_get (0 ∷ ends) (number + 1) ≡ Some end → run ≡ take (end - begin) (drop begin patches)
    → IsRunUnless l stays (record { object = o; section = x }) run
run_found l stays o x ends patches run place section first number begin end before runs there own sum from to is =
    let ss : List ObjectSection = sections_in l.project.objects in
    let number_is : number ≡ length (sections_in (take place l.project.objects)) + section =
    sum ∙ ap (λ n. n + section) (before ∙ sym (linked_long (take place l.project.objects))) in
    let found : slice_get ss number ≡ Some (record { object = o; section = x }) =
    ap (slice_get ss) number_is ∙ section_at l.project.objects place o section x there own in
    let one = run_of (IsRunUnless l stays) ss runs.runs number (record { object = o; section = x }) runs.each found in
    let begins : slice_get (0 ∷ ends_of 0 runs.runs) number ≡ Some begin =
    ap (λ es. slice_get (0 ∷ es) number) (sym runs.ends) ∙ from in
    let suc_is : number + 1 ≡ suc number = omega arith in
    let ended : slice_get (ends_of 0 runs.runs) number ≡ Some end =
    ap (λ es. slice_get es number) (sym runs.ends) ∙ ap (slice_get (0 ∷ ends)) (sym suc_is) ∙ to in
    let cut = run_cut 0 runs.runs number one.run begin end one.at begins ended in
    let none : begin - 0 ≡ begin = omega arith in
    let same : run ≡ one.run =
    is ∙ ap (λ ps. take (end - begin) (drop begin ps)) runs.patches
    ∙ ap (λ k. take (end - begin) (drop k (flat runs.runs))) (sym none) ∙ cut.is in
    subst (IsRunUnless l stays (record { object = o; section = x })) (sym same) one.is
