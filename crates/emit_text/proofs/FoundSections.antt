-- Where sections stand in the order of their numbers, the one of a number is the first of that number.
use Rattle.emit_text.proofs.Common.{All, AllPairs, IfNone, IfSome, List, MatchOption, None, Option, Section, Some, []}
use Rattle.emit_text.proofs.Common.{ap, arith, cond, false, get_or, get_or_default, length, map, numbered, refl}
use Rattle.emit_text.proofs.Common.{slice_get, subst, suc, sym, true, zero, ℕ, ◌<◌, ◌==◌, ◌∙◌, ◌∷◌, ◌≡◌, ◌≢◌}
use Rattle.elfobj.specs.Numbering.{IsNumberedAt}
use Rattle.elfobj.specs.declared.section.LinkedIndex.{LinkedIndex}
use Rattle.elfobj.specs.Sections.{LinkedSection, section_of}
use Rattle.elfobj.specs.declared.section.SectionIndex.{SectionIndex}

abbrev Ascend : List LinkedSection → Type 0
Ascend xs = AllPairs (λ (s t : Section). s.number.0 < t.number.0) (map section_of xs)

abbrev IsAt : List LinkedSection → SectionIndex → ℕ → Type 0
IsAt xs k i = (d : Section) → (get_or (map section_of xs) i d).number.0 ≡ k.0

ascend_rest : (x : LinkedSection) (xs : List LinkedSection) → Ascend (x ∷ xs) → Ascend xs
ascend_rest x xs up i j d h k = up (suc i) (suc j) d (omega (arith, h)) (omega (arith, k))

is_same : (a b : ℕ) → a ≡ b → (a == b) ≡ true
is_same a b h = search (arith, h)

is_other : (a b : ℕ) → a < b → (a == b) ≡ false
is_other a b h = search (arith, h)

is_different : (a b : ℕ) → a ≢ b → (a == b) ≡ false
is_different a b h = search (arith, h)

pub first_numbered : (xs : List LinkedSection) (k : SectionIndex) (i : ℕ) → Ascend xs → i < length (map section_of xs)
    → IsAt xs k i → numbered xs k ≡ slice_get xs i
first_numbered [] k i up h n = absurd (omega (arith, h))
first_numbered (x ∷ xs) k zero up h n =
    ap (λ b. cond b (Some x) (numbered xs k)) (is_same x.number.0 k.0 (n (section_of x)))
first_numbered (x ∷ xs) k (suc i) up h n =
    let below : x.number.0 < k.0 = let a = up 0 (suc i) (section_of x) (omega arith) h in let b = n (section_of x) in
    omega (arith, a, b) in
    ap (λ b. cond b (Some x) (numbered xs k)) (is_other x.number.0 k.0 below)
    ∙ first_numbered xs k i (ascend_rest x xs up) (omega (arith, h)) n

pub none_numbered : (xs : List LinkedSection) (k : SectionIndex)
    → All (λ (s : Section). s.number.0 ≢ k.0) (map section_of xs) → numbered xs k ≡ None
none_numbered [] k h = refl
none_numbered (x ∷ xs) k h =
    ap (λ b. cond b (Some x) (numbered xs k)) (is_different x.number.0 k.0 (h 0 (section_of x) (omega arith)))
    ∙ none_numbered xs k (λ i d l. h (suc i) d (omega (arith, l)))

pub found_or_none : (r : Option LinkedIndex) (xs : List LinkedSection) (k : SectionIndex) → Ascend xs
    → IfSome r (λ i. IsNumberedAt (map section_of xs) k i.0)
    → IfNone r (All (λ (s : Section). s.number.0 ≢ k.0) (map section_of xs))
    → MatchOption r (numbered xs k ≡ None) (λ i. numbered xs k ≡ slice_get xs i.0)
found_or_none None xs k up h n = none_numbered xs k n
found_or_none (Some i) xs k up h n = first_numbered xs k i.0 up h.within h.number_is

-- the section at a place, whose number it is
pub found_at : (xs : List LinkedSection) (sections : List Section) (k : SectionIndex) (i : ℕ) (s : Section)
    → sections ≡ map section_of xs → AllPairs (λ (t u : Section). t.number.0 < u.number.0) sections
    → i < length sections → s ≡ get_or sections i s → s.number.0 ≡ k.0 → numbered xs k ≡ slice_get xs i
found_at xs sections k i s e up h is n =
    let whole = ap (λ (ss : List Section). length ss) e in
    first_numbered xs k i (subst (AllPairs (λ (t u : Section). t.number.0 < u.number.0)) e up) (omega (arith, h, whole))
    (λ d. ap (λ (ss : List Section). (get_or ss i d).number.0) (sym e)
    ∙ ap (λ (t : Section). t.number.0) (get_or_default sections i d s h)
    ∙ ap (λ (t : Section). t.number.0) (sym is) ∙ n)
