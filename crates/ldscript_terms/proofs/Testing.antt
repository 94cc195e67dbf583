-- The test of a name is the relation, and no word spells two patterns.
use Rattle.ldscript_terms.proofs.Common.{AnyByte, AnyRun, Bool, Byte, IsTrue, List, Matches, Meets, OneOf, Part, [], ap}
use Rattle.ldscript_terms.proofs.Common.{eq-eqb, eqb, eqb-true, false, inl, inr, is_in_any, refl, subst, sym, true, ℕ}
use Rattle.ldscript_terms.proofs.Common.{◌&&◌, ◌++◌, ◌||◌, ◌↔◌, ◌∙◌, ◌∷◌, ◌≡◌}
use Rattle.std.proofs.lemmas.Bool.{or_cases}
use Rattle.ldscript_terms.specs.Matching.{nothing, part, passes_some_end, passes_after_one, passes_after, is_match}
use Rattle.ldscript_terms.proofs.Stars.{nothing_left}

and_left : (x y : Bool) → (x && y) ≡ true → x ≡ true
and_left true y e = refl
and_left false y e = e

and_right : (x y : Bool) → (x && y) ≡ true → y ≡ true
and_right true y e = e
and_right false y e = absurd (cc)

both : (x y : Bool) → x ≡ true → y ≡ true → (x && y) ≡ true
both true y a b = b
both false y a b = a

or_left : (x y : Bool) → x ≡ true → (x || y) ≡ true
or_left true y e = refl
or_left false y e = absurd (cc)

or_right : (x y : Bool) → y ≡ true → (x || y) ≡ true
or_right true y e = refl
or_right false y e = e

-- a name whose parts are met, by what is known of the rest
abbrev Sound : List Part → (List ℕ → Bool) → Type 0
Sound ps test = (name : List ℕ) → test name ≡ true → Matches ps name

abbrev Complete : List Part → (List ℕ → Bool) → Type 0
Complete ps test = (name : List ℕ) → Matches ps name → test name ≡ true

run_before : (ps : List Part) (b : ℕ) (name : List ℕ) → Matches (AnyRun ∷ ps) name → Matches (AnyRun ∷ ps) (b ∷ name)
run_before ps b name (part bytes rest m e others) = part (b ∷ bytes) rest tt (ap (λ v. b ∷ v) e) others

some_end_sound : (ps : List Part) (test : List ℕ → Bool) → Sound ps test → (name : List ℕ)
    → passes_some_end test name ≡ true → Matches (AnyRun ∷ ps) name
some_end_sound ps test sound [] e = part [] [] tt refl (sound [] e)
some_end_sound ps test sound (b ∷ bs) e =
    elim (or_cases (test (b ∷ bs)) (passes_some_end test bs) e) [
      | inl h ↦ part [] (b ∷ bs) tt refl (sound (b ∷ bs) h)
      | inr h ↦ run_before ps b bs (some_end_sound ps test sound bs h)
    ]

some_end_complete : (test : List ℕ → Bool) (bytes rest : List ℕ) → test rest ≡ true
    → passes_some_end test (bytes ++ rest) ≡ true
some_end_complete test [] [] e = e
some_end_complete test [] (b ∷ bs) e = or_left (test (b ∷ bs)) (passes_some_end test bs) e
some_end_complete test (b ∷ bytes) rest e =
    or_right (test (b ∷ (bytes ++ rest))) (passes_some_end test (bytes ++ rest)) (some_end_complete test bytes rest e)

one_sound : (p : Part) (ps : List Part) (first : ℕ → Bool) (test : List ℕ → Bool)
    → ((b : ℕ) → first b ≡ true → Meets p (b ∷ [])) → Sound ps test
    → (name : List ℕ) → passes_after_one first test name ≡ true → Matches (p ∷ ps) name
one_sound p ps first test meets sound [] e = absurd (cc)
one_sound p ps first test meets sound (b ∷ bs) e =
    part (b ∷ []) bs (meets b (and_left (first b) (test bs) e)) refl (sound bs (and_right (first b) (test bs) e))

one_complete : (first : ℕ → Bool) (test : List ℕ → Bool) (b : ℕ) (bytes rest name : List ℕ) → first b ≡ true
    → bytes ≡ b ∷ [] → name ≡ bytes ++ rest → test rest ≡ true
    → passes_after_one first test name ≡ true
one_complete first test b bytes rest name m e n t =
    subst (λ v. passes_after_one first test v ≡ true) (sym (n ∙ ap (λ v. v ++ rest) e)) (both (first b) (test rest) m t)

sound_after : (p : Part) (ps : List Part) (test : List ℕ → Bool) → Sound ps test → (name : List ℕ)
    → passes_after p test name ≡ true → Matches (p ∷ ps) name
sound_after AnyRun ps test sound name e = some_end_sound ps test sound name e
sound_after AnyByte ps test sound name e = one_sound AnyByte ps (λ b. true) test (λ b h. (b, refl)) sound name e
sound_after (Byte x) ps test sound name e =
    one_sound (Byte x) ps (λ b. eqb b x) test (λ b h. ap (λ k. k ∷ []) (eqb-true b x h)) sound name e
sound_after (OneOf rs) ps test sound name e =
    one_sound (OneOf rs) ps (λ b. is_in_any b rs) test (λ b h. (b, h, refl)) sound name e

complete_after : (p : Part) (test : List ℕ → Bool) (bytes rest name : List ℕ) → Meets p bytes → name ≡ bytes ++ rest
    → test rest ≡ true → passes_after p test name ≡ true
complete_after AnyRun test bytes rest name m e t =
    subst (λ v. passes_some_end test v ≡ true) (sym e) (some_end_complete test bytes rest t)
complete_after AnyByte test bytes rest name m e t = one_complete (λ b. true) test m.0 bytes rest name refl m.1 e t
complete_after (Byte x) test bytes rest name m e t =
    one_complete (λ b. eqb b x) test x bytes rest name (eq-eqb x x refl) m e t
complete_after (OneOf rs) test bytes rest name m e t =
    one_complete (λ b. is_in_any b rs) test m.0 bytes rest name m.1 m.2 e t

sound : (ps : List Part) → Sound ps (is_match ps)
unfolding is_match
sound [] [] e = nothing
sound [] (b ∷ bs) e = absurd (cc)
sound (p ∷ ps) name e = sound_after p ps (is_match ps) (sound ps) name e

complete : (ps : List Part) → Complete ps (is_match ps)
unfolding is_match
complete [] name m = subst (λ v. is_match [] v ≡ true) (sym (nothing_left name m)) refl
complete (p ∷ ps) name (part bytes rest m e others) =
    complete_after p (is_match ps) bytes rest name m e (complete ps rest others)

pub match_by_splitting : (ps : List Part) (name : List ℕ) → (is_match ps name ≡ true) ↔ Matches ps name
match_by_splitting ps name = (sound ps name, complete ps name)

-- two tests of one fact say the same
pub same_test : {A : Type 0} (a b : Bool) → IsTrue a ↔ A → (b ≡ true) ↔ A → a ≡ b
same_test true true f g = refl
same_test false false f g = refl
same_test true false f g = sym (g.1 (f.0 refl))
same_test false true f g = f.1 (g.0 refl)
