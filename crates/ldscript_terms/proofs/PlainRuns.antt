-- Bytes at the front of a word that spell themselves and meet those of a name, and a `*` at the end of a word.
use Rattle.ldscript_terms.proofs.Common.{AnyRun, BeginsWith, Byte, List, Matches, Part, Passed, SpellsPattern, [], ap}
use Rattle.ldscript_terms.proofs.Common.{append-nil, arith, drop, get_or, is_plain, length, refl, subst, sym, true, ℕ}
use Rattle.ldscript_terms.proofs.Common.{◌+◌, ◌<◌, ◌∙◌, ◌∷◌, ◌≡◌, ◌≢◌}
use Rattle.std.proofs.lemmas.List.{drop_more, length-drop}
use Rattle.ldscript_terms.specs.Matching.{nothing, part}
use Rattle.ldscript_terms.specs.Front.{front, front_part}
use Rattle.ldscript_terms.specs.declared.part.CodePart.TheVariants as code
use Rattle.ldscript_terms.proofs.Fronts.{front_of_plain}
use Rattle.ldscript_terms.proofs.Reading.{begins_with, none_left}
use Rattle.ldscript_terms.proofs.Stars.{Searches, missed_byte, missed_empty, passed_more, passed_none}

-- parts that stand at these places of a word and of a name, past those that took a byte each
abbrev pub IsPast : List ℕ → List ℕ → ℕ → Type 0
IsPast word name k = (ps : List Part) → SpellsPattern ps word → (qs : List Part) × SpellsPattern qs (drop k word)
    × Passed ps qs name (drop k name)

pub past_none : (word name : List ℕ) → IsPast word name 0
past_none word name ps s = (ps, s, passed_none ps name)

plain_first : (word : List ℕ) (k b : ℕ) → k < length word → get_or word k 0 ≡ b → is_plain b ≡ true
    → BeginsWith (drop k word) (Byte b) (drop (k + 1) word)
plain_first word k b l e p =
    let d : drop k word ≡ b ∷ drop (k + 1) word = drop_more word k 0 l ∙ ap (λ x. x ∷ drop (k + 1) word) e in
    let f : front (drop k word) ≡ front_part (Byte b) 1 = ap front d ∙ front_of_plain b (drop (k + 1) word) p in
    subst (λ r. BeginsWith (drop k word) (Byte b) r) (ap (drop 1) d)
    (begins_with (drop k word) (Byte b) 1 f (omega (arith, ap length d)))

pub past_more : (word name : List ℕ) (k b : ℕ) → k < length word → k < length name → get_or word k 0 ≡ b
    → get_or name k 0 ≡ b → is_plain b ≡ true → IsPast word name k → IsPast word name (k + 1)
past_more word name k b l m e f p h ps s =
    let q = h ps s in
    let o = (plain_first word k b l e p).only q.0 q.1 in (
      o.0,
      o.2,
      passed_more word (code.Byte b) ps q.0 o.0 name (drop k name) b (drop (k + 1) name) q.2 o.1 tt
          (drop_more name k 0 m ∙ ap (λ x. x ∷ drop (k + 1) name) f) refl,
    )

-- a byte that comes next, and what is left of a name has another one first, or none
differs : (ps qs rs : List Part) (name left : List ℕ) (b : ℕ) → Passed ps qs name left → qs ≡ Byte b ∷ rs
    → ((c : ℕ) (more : List ℕ) → left ≡ c ∷ more → b ≢ c) → Matches ps name → ⊥
differs ps qs rs name [] b passed e apart = missed_empty [] (code.Byte b) ps qs rs name [] passed e tt refl
differs ps qs rs name (c ∷ more) b passed e apart =
    missed_byte [] (code.Byte b) ps qs rs name (c ∷ more) c more passed e tt refl
    (λ met. apart c more refl (sym (ap (λ v. get_or v 0 0) met)))

-- the same at a place of a word
pub front_differs : (word name : List ℕ) (k : ℕ) (ps : List Part) → k < length word
    → is_plain (get_or word k 0) ≡ true → (k < length name → get_or word k 0 ≢ get_or name k 0)
    → (qs : List Part) × SpellsPattern qs (drop k word) × Passed ps qs name (drop k name) → Matches ps name → ⊥
front_differs word name k ps l p apart h =
    let o = (plain_first word k (get_or word k 0) l refl p).only h.0 h.1 in
    differs ps h.0 o.0 name (drop k name) (get_or word k 0) h.2 o.1
    (λ c more e be.
    let low : k < length name = omega (arith, ap length e, length-drop k name) in
    apart low (be ∙ sym (ap (λ v. get_or v 0 0) (sym (drop_more name k 0 low) ∙ e))))

-- a word that has ended behind a star
pub star_at_end : {A : Type 0} (word left : List ℕ) → word ≡ [] → Searches A word left → A
star_at_end word left e h =
    h.2.0 (subst (λ qs. Matches (AnyRun ∷ qs) left) (sym (none_left e h.1))
    (part left [] tt (sym (append-nil left)) nothing))
