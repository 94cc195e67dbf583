-- How parts at the front of a pattern meet a name.
use Rattle.ldscript_terms.proofs.Common.{AnyRun, CodePart, IsSingle, List, Matches, Meets, Part, Passed, SpellsPattern}
use Rattle.ldscript_terms.proofs.Common.{[], ap, append_assoc, arith, drop, drop-append_seam, get_or, length, part_of}
use Rattle.ldscript_terms.proofs.Common.{refl, subst, sym, take, ℕ, ◌++◌, ◌+◌, ◌↔◌, ◌∙◌, ◌∷◌, ◌≡◌}
use Rattle.std.proofs.lemmas.List.{drop-drop, take-append-drop}
use Rattle.ldscript_terms.specs.Matching.{nothing, part}
use Rattle.ldscript_terms.specs.declared.part.CodePart.TheVariants as code

-- a part that takes one byte takes the first
pub record TakesOne (p : Part) (ps : List Part) (x : List ℕ) : Type 0 where
  pub byte : ℕ
  pub rest : List ℕ
  pub is : x ≡ byte ∷ rest
  pub met : Meets p (byte ∷ [])
  pub others : Matches ps rest

pub one_byte : (word : List ℕ) (p : CodePart) (bytes : List ℕ) → IsSingle p → Meets (part_of word p) bytes
    → (b : ℕ) × (bytes ≡ b ∷ []) × Meets (part_of word p) (b ∷ [])
one_byte word code.AnyRun bytes s m = absurd s
one_byte word code.AnyByte bytes s m = (m.0, m.1, (m.0, refl))
one_byte word (code.Byte b) bytes s m = (b, m, refl)
one_byte word (code.OneOf i j) bytes s m = (m.0, m.2, (m.0, m.1, refl))

pub takes_one : (word : List ℕ) (p : CodePart) (ps : List Part) (x : List ℕ) → IsSingle p
    → Matches (part_of word p ∷ ps) x → TakesOne (part_of word p) ps x
takes_one word p ps x s (part bytes rest m e others) =
    let o = one_byte word p bytes s m in
    record { byte = o.0; rest = rest; is = e ∙ ap (λ v. v ++ rest) o.1; met = o.2; others = others }

-- `*` takes bytes before what it could take
pub star_before : (ps : List Part) (n : ℕ) (x : List ℕ) → Matches (AnyRun ∷ ps) (drop n x) → Matches (AnyRun ∷ ps) x
star_before ps n x (part bytes rest m e others) =
    part (take n x ++ bytes) rest tt
    (sym (take-append-drop n x) ∙ ap (λ v. take n x ++ v) e ∙ sym (append_assoc (take n x) bytes rest)) others

pub star_none : (ps : List Part) (x : List ℕ) → Matches ps x → Matches (AnyRun ∷ ps) x
star_none ps x m = part [] x tt refl m

-- `*` takes nothing, or the first byte too
pub star_misses : (ps : List Part) (x : List ℕ) → (Matches ps x → ⊥) → Matches (AnyRun ∷ ps) x
    → Matches (AnyRun ∷ ps) (drop 1 x)
star_misses ps x none (part [] rest m e others) = absurd (none (subst (λ v. Matches ps v) (sym e) others))
star_misses ps x none (part (b ∷ bytes) rest m e others) = part bytes rest tt (ap (drop 1) e) others

-- of parts that have passed the first bytes of a name
pub passed_none : (ps : List Part) (name : List ℕ) → Passed ps ps name name
passed_none ps name = record { count = 0; here = refl; on = λ x m. m; back = λ m. m }

-- what is left of the name, where the pattern matches it
left_of : (ps qs : List Part) (name left : List ℕ) → Passed ps qs name left → Matches ps name → Matches qs left
left_of ps qs name left passed m = subst (λ v. Matches qs v) (sym passed.here) (passed.on name m)

pub passed_more : (word : List ℕ) (p : CodePart) (ps qs rs : List Part) (name left : List ℕ) (b : ℕ) (more : List ℕ)
    → Passed ps qs name left
    → qs ≡ part_of word p ∷ rs → IsSingle p → left ≡ b ∷ more → Meets (part_of word p) (b ∷ []) → Passed ps rs name more
passed_more word p ps qs rs name left b more passed e single l met = record {
  count = passed.count + 1;
  here = sym (ap (drop 1) (sym passed.here ∙ l)) ∙ drop-drop 1 passed.count name;
  on = λ x m.
      let t = takes_one word p rs (drop passed.count x) single
      (subst (λ v. Matches v (drop passed.count x)) e (passed.on x m)) in
      subst (λ v. Matches rs v) (sym (ap (drop 1) t.is) ∙ drop-drop 1 passed.count x) t.others;
  back = λ m. passed.back (subst (λ v. Matches v left) (sym e) (part (b ∷ []) more met l m));
}

taken : (word : List ℕ) (p : CodePart) (ps qs rs : List Part) (name left : List ℕ) → Passed ps qs name left
    → qs ≡ part_of word p ∷ rs → IsSingle p
    → Matches ps name → TakesOne (part_of word p) rs left
taken word p ps qs rs name left passed e single m =
    takes_one word p rs left single (subst (λ v. Matches v left) e (left_of ps qs name left passed m))

pub missed_empty : (word : List ℕ) (p : CodePart) (ps qs rs : List Part) (name left : List ℕ) → Passed ps qs name left
    → qs ≡ part_of word p ∷ rs
    → IsSingle p → left ≡ [] → Matches ps name → ⊥
missed_empty word p ps qs rs name left passed e single l m =
    let t = taken word p ps qs rs name left passed e single m in
    let h : length {A = ℕ} [] ≡ length (t.byte ∷ t.rest) = ap length (sym l ∙ t.is) in
    omega (arith, h)

pub missed_byte : (word : List ℕ) (p : CodePart) (ps qs rs : List Part) (name left : List ℕ) (b : ℕ) (more : List ℕ)
    → Passed ps qs name left
    → qs ≡ part_of word p ∷ rs → IsSingle p → left ≡ b ∷ more → (Meets (part_of word p) (b ∷ []) → ⊥)
    → Matches ps name → ⊥
missed_byte word p ps qs rs name left b more passed e single l none m =
    let t = taken word p ps qs rs name left passed e single m in
    let same : b ≡ t.byte = ap (λ v. get_or v 0 0) (sym l ∙ t.is) in
    none (subst (λ v. Meets (part_of word p) (v ∷ [])) (sym same) t.met)

pub nothing_left : (x : List ℕ) → Matches [] x → x ≡ []
nothing_left x nothing = refl

pub whole_at_end : (ps qs : List Part) (name left : List ℕ) → Passed ps qs name left → qs ≡ [] → left ≡ []
    → Matches ps name
whole_at_end ps qs name left passed e l =
    passed.back (subst (λ v. Matches v left) (sym e) (subst (λ v. Matches [] v) (sym l) nothing))

pub missed_at_end : (ps qs : List Part) (name left : List ℕ) (b : ℕ) (more : List ℕ) → Passed ps qs name left → qs ≡ []
    → left ≡ b ∷ more → Matches ps name → ⊥
missed_at_end ps qs name left b more passed e l m =
    let none = nothing_left left (subst (λ v. Matches v left) e (left_of ps qs name left passed m)) in
    let h : length (b ∷ more) ≡ length {A = ℕ} [] = ap length (sym l ∙ none) in
    omega (arith, h)

-- from a star on, as after the first
pub star_goes_on : (ps qs : List Part) (name left : List ℕ) → Passed ps (AnyRun ∷ qs) name left
    → Matches (AnyRun ∷ qs) left ↔ Matches ps name
star_goes_on ps qs name left passed = (passed.back, left_of ps (AnyRun ∷ qs) name left passed)

pub star_from_star : (ps qs : List Part) (name left : List ℕ) → Passed ps (AnyRun ∷ qs) name left
    → Matches (AnyRun ∷ qs) left ↔ Matches (AnyRun ∷ ps) name
star_from_star ps qs name left passed = (λ m. star_none _ name (passed.back m), λ m. later m)
  where
    later : Matches (AnyRun ∷ ps) name → Matches (AnyRun ∷ qs) left
    later (part bytes rest m e others) =
        let n = passed.count in
        let r : rest ≡ drop (length bytes) name = sym (ap (drop (length bytes)) e ∙ drop-append_seam bytes rest) in
        let moved : drop n rest ≡ drop (length bytes) (drop n name) =
        ap (drop n) r ∙ drop-drop n (length bytes) name ∙ ap (λ k. drop k name) (omega arith)
        ∙ sym (drop-drop (length bytes) n name) in
        subst (λ v. Matches (AnyRun ∷ qs) v) (sym passed.here)
        (star_before _ (length bytes) (drop n name)
        (subst (λ v. Matches (AnyRun ∷ qs) v) moved (passed.on rest others)))

star_ends : (ps : List Part) → (Matches ps [] → ⊥) → Matches (AnyRun ∷ ps) [] → ⊥
star_ends ps none (part bytes rest m e others) = none (subst (λ v. Matches ps v) (empty bytes rest (sym e)) others)
  where
    empty : (a b : List ℕ) → a ++ b ≡ [] → b ≡ []
    empty [] b e = e
    empty (x ∷ a) b e = absurd (cc)

-- steps of the search behind a star, of which A is what is asked
abbrev pub Searches : Type 0 → List ℕ → List ℕ → Type 0
Searches A word left = (qs : List Part) × SpellsPattern qs word × (Matches (AnyRun ∷ qs) left ↔ A)

pub star_step : {A : Type 0} (qs rs : List Part) (name left : List ℕ) → Passed qs (AnyRun ∷ rs) name left
    → Matches (AnyRun ∷ qs) name ↔ A → Matches (AnyRun ∷ rs) left ↔ A
star_step qs rs name left passed h =
    let g = star_from_star qs rs name left passed in
    (λ m. h.0 (g.0 m), λ a. g.1 (h.1 a))

pub miss_step : {A : Type 0} (qs : List Part) (name : List ℕ) (b : ℕ) (more : List ℕ) → (Matches qs name → ⊥)
    → name ≡ b ∷ more
    → Matches (AnyRun ∷ qs) name ↔ A → Matches (AnyRun ∷ qs) more ↔ A
miss_step qs name b more none l h =
    let d : drop 1 name ≡ more = ap (drop 1) l in (
      λ m. h.0 (star_before _ 1 name (subst (λ v. Matches (AnyRun ∷ qs) v) (sym d) m)),
      λ a. subst (λ v. Matches (AnyRun ∷ qs) v) d (star_misses _ name none (h.1 a)),
    )

pub miss_end : {A : Type 0} (qs : List Part) (name : List ℕ) → (Matches qs name → ⊥) → name ≡ []
    → Matches (AnyRun ∷ qs) name ↔ A → A → ⊥
miss_end qs name none l h a =
    star_ends qs (subst (λ v. Matches qs v → ⊥) l none) (subst (λ v. Matches (AnyRun ∷ qs) v) l (h.1 a))
