-- A word read part by part.
use Rattle.ldscript_terms.proofs.Common.{AnyRun, BeginsWith, Bool, EndsHere, IsSpelled, IsTrue, List, None, Part}
use Rattle.ldscript_terms.proofs.Common.{SpellsPart, SpellsPattern, [], ap, arith, drop, drop-append_seam, eq-eqb, eqb}
use Rattle.ldscript_terms.proofs.Common.{eqb-true, exact_name, false, false≢true, length, length-append, refl, spelled}
use Rattle.ldscript_terms.proofs.Common.{subst, suc, sym, take, zero, ℕ, ◌++◌, ◌<◌, ◌↔◌, ◌∙◌, ◌∷◌, ◌≡◌, ◌≤◌}
use Rattle.std.proofs.lemmas.List.{nil_from_length, take-append-drop}
use Rattle.ldscript_terms.specs.Spelling.{IsPatternOf, nothing, part}
use Rattle.ldscript_terms.specs.Front.{front, front_part}
use Rattle.ldscript_terms.specs.Forms.{with_rest, spelled_within}
use Rattle.ldscript_terms.proofs.Fronts.{front_same, front_of_spelled, spelled_at_front, nothing_in_front, empty_front}

pub none_left : {word : List ℕ} {ps : List Part} → word ≡ [] → SpellsPattern ps word → ps ≡ []
none_left e nothing = refl
none_left e (part {first = p} bytes more s eq others) = absurd (nothing_in_front bytes more p s (sym e ∙ eq))

first_of : {word : List ℕ} {ps : List Part} (p : Part) (n : ℕ) → front word ≡ front_part p n → SpellsPattern ps word
    → (0 < length word)
    → (qs : List Part) × (ps ≡ p ∷ qs) × SpellsPattern qs (drop n word)
first_of p n e nothing some = absurd (omega arith)
first_of p n e (part {first = q} {parts = qs} {word = word} bytes more s eq others) some =
    let f : front word ≡ front_part q (length bytes) = ap front eq ∙ front_of_spelled q bytes more s in
    let h = front_same p q n (length bytes) (sym e ∙ f) in
    let d : more ≡ drop n word = sym
    (ap (drop n) eq ∙ ap (λ k. drop k (bytes ++ more)) (sym h.1) ∙ drop-append_seam bytes more) in
    (qs, ap (λ v. v ∷ qs) h.0, subst (λ v. SpellsPattern qs v) d others)

no_first : {word : List ℕ} {ps : List Part} → front word ≡ None → 0 < length word → SpellsPattern ps word → ⊥
no_first e some nothing = omega arith
no_first e some (part {first = q} {word = word} bytes more s eq others) =
    let f : front word ≡ front_part q (length bytes) = ap front eq ∙ front_of_spelled q bytes more s in
    cc

-- the steps of a reader
pub ends_empty : (word : List ℕ) → word ≡ [] → EndsHere word
ends_empty word e ps s = none_left e s

pub ends_unspelled : (word : List ℕ) → front word ≡ None → 0 < length word → EndsHere word
ends_unspelled word e some ps s = absurd (no_first e some s)

pub begins_with : (word : List ℕ) (p : Part) (n : ℕ) → front word ≡ front_part p n → 0 < length word
    → BeginsWith word p (drop n word)
begins_with word p n e some = record {
  on = λ qs s. part (take n word) (drop n word) (spelled_at_front word p n e) (sym (take-append-drop n word)) s;
  only = λ ps s. first_of p n e s some;
}

pub spelled_step : (word : List ℕ) (p : Part) (rest : List ℕ) → BeginsWith word p rest → IsSpelled rest ↔ IsSpelled word
spelled_step word p rest b = (λ s. (p ∷ s.0, b.on s.0 s.1), λ s. let o = b.only s.0 s.1 in (o.0, o.2))

nothing_spelled : {word : List ℕ} → SpellsPattern [] word → word ≡ []
nothing_spelled nothing = refl

pub spelled_end : (word : List ℕ) → EndsHere word → IsSpelled word ↔ word ≡ []
spelled_end word ends = (
  λ s. nothing_spelled (subst (λ v. SpellsPattern v word) (ends s.0 s.1) s.1),
  λ e. ([], subst (λ v. SpellsPattern [] v) (sym e) nothing),
)

some_word : (word bytes rest : List ℕ) (p : Part) → SpellsPart p bytes → word ≡ bytes ++ rest → 0 < length word
some_word [] bytes rest p s e = absurd (nothing_in_front bytes rest p s e)
some_word (b ∷ bs) bytes rest p s e = omega arith

pub one_pattern : (ps qs : List Part) (word : List ℕ) → SpellsPattern ps word → SpellsPattern qs word → ps ≡ qs
one_pattern [] qs word nothing s = sym (none_left refl s)
one_pattern (p ∷ ps) qs word (part bytes rest s e others) t =
    let f : front word ≡ front_part p (length bytes) = ap front e ∙ front_of_spelled p bytes rest s in
    let q = first_of p (length bytes) f t (some_word word bytes rest p s e) in
    let d : drop (length bytes) word ≡ rest = ap (drop (length bytes)) e ∙ drop-append_seam bytes rest in
    ap (λ v. p ∷ v) (one_pattern ps q.0 rest others (subst (λ v. SpellsPattern q.0 v) d q.2)) ∙ sym q.1

-- the parts that a word spells are those that are read from it
some_bytes : (bytes : List ℕ) (p : Part) → SpellsPart p bytes → 0 < length bytes
some_bytes [] p s = absurd (nothing_in_front [] [] p s refl)
some_bytes (b ∷ bs) p s = omega arith

spelled_in : (n : ℕ) (ps : List Part) (word : List ℕ) → SpellsPattern ps word → length word ≤ n
    → spelled_within n word ≡ ps
spelled_in zero [] word nothing l = refl
spelled_in (suc n) [] word nothing l = ap (λ f. with_rest f (λ k. spelled_within n (drop k []))) empty_front
spelled_in zero (p ∷ ps) word (part bytes rest s e others) l =
    let no : length word < length word = omega
    (arith, some_bytes bytes p s, ap length e, length-append bytes rest, l) in
    absurd (omega (arith, no))
spelled_in (suc n) (p ∷ ps) word (part bytes rest s e others) l =
    let f : front word ≡ front_part p (length bytes) = ap front e ∙ front_of_spelled p bytes rest s in
    let d : drop (length bytes) word ≡ rest = ap (drop (length bytes)) e ∙ drop-append_seam bytes rest in
    let short : length rest ≤ n = omega (arith, some_bytes bytes p s, ap length e, length-append bytes rest, l) in
    ap (λ f. with_rest f (λ k. spelled_within n (drop k word))) f
    ∙ ap (λ v. p ∷ spelled_within n v) d ∙ ap (λ v. p ∷ v) (spelled_in n ps rest others short)

pub spelled_is : (ps : List Part) (word : List ℕ) → SpellsPattern ps word → spelled word ≡ ps
spelled_is ps word s = spelled_in (length word) ps word s (omega arith)

pub only_pattern : (ps : List Part) (word : List ℕ) → SpellsPattern ps word → IsPatternOf word ps
only_pattern ps word s = record { spelled = s; only = λ qs t. one_pattern qs ps word t s }

-- the word `*`
star_word : SpellsPattern (AnyRun ∷ []) (42 ∷ [])
star_word = part (42 ∷ []) [] refl refl nothing

word_of_star : {word : List ℕ} → SpellsPattern (AnyRun ∷ []) word → word ≡ 42 ∷ []
word_of_star (part bytes rest met e others) = e ∙ ap (λ v. v ++ rest) met ∙ ap (λ v. 42 ∷ v) (nothing_spelled others)

pub any_is_star : (word : List ℕ) → SpellsPattern (spelled word) word → word ≡ 42 ∷ [] ↔ spelled word ≡ AnyRun ∷ []
any_is_star word s = (
  λ e. ap spelled e ∙ spelled_is (AnyRun ∷ []) (42 ∷ []) star_word,
  λ e. word_of_star (subst (λ v. SpellsPattern v word) e s),
)

-- what is kept of a word that has not bytes alone
pub wild_form : (ps : List Part) (word kept : List ℕ) → SpellsPattern ps word → kept ≡ word → exact_name ps ≡ None
    → SpellsPattern (spelled kept) kept × (exact_name (spelled kept) ≡ None)
wild_form ps word kept s e none =
    subst (λ w. SpellsPattern (spelled w) w × (exact_name (spelled w) ≡ None)) (sym e)
    (subst (λ v. SpellsPattern v word) (sym (spelled_is ps word s)) s, ap exact_name (spelled_is ps word s) ∙ none)

pub wild_spells : (ps : List Part) (word kept : List ℕ) → SpellsPattern ps word → kept ≡ word
    → SpellsPattern (spelled kept) word
wild_spells ps word kept s e = subst (λ v. SpellsPattern v word) (sym (ap spelled e ∙ spelled_is ps word s)) s

pub some_left : (xs : List ℕ) (b : Bool) → b ≡ eqb (length xs) 0 → b ≡ false → 0 < length xs
some_left [] b e f = absurd (false≢true (sym f ∙ e))
some_left (x ∷ xs) b e f = omega arith

pub empty_test : (xs : List ℕ) (b : Bool) → b ≡ eqb (length xs) 0 → IsTrue b ↔ xs ≡ []
empty_test xs b e = (
  λ t. nil_from_length xs (eqb-true (length xs) 0 (sym e ∙ t)),
  λ n. e
      ∙ eq-eqb (length xs) 0 (ap length n),
)
