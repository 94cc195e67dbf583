-- What is known of words and a file, once one more is known; which word is the first that takes a section.
use Rattle.gather.proofs.Common.{Bool, List, None, Option, Some, WordAt, [], ap, arith, cond, drop, drop-cons, false}
use Rattle.gather.proofs.Common.{first_taker, get_or, inl, inr, length, option_map, refl, replicate, same_Some, set}
use Rattle.gather.proofs.Common.{shown_word, shown_words, slice_get, slice_get-map, slice_get_read, subst, suc, sym}
use Rattle.gather.proofs.Common.{takes_by, takes_from, true, zero, ℕ, ◌+◌, ◌<◌, ◌∙◌, ◌∷◌, ◌≡◌, ◌⊎◌}
use Rattle.gather.specs.Known.{AreKnown, SaysFrom, SaysTaken}
use Rattle.gather.specs.declared.word.WordAt as code

-- what stands in a list after a change at one place
at_place : {X : Type 0} (xs : List X) (place k : ℕ) (x y : X) → slice_get (set xs place x) k ≡ Some y
    → ((k ≡ place) × (x ≡ y)) ⊎ (slice_get xs k ≡ Some y)
at_place [] place k x y e = inr e
at_place (z ∷ zs) zero zero x y e = inl (refl, cc)
at_place (z ∷ zs) zero (suc k) x y e = inr e
at_place (z ∷ zs) (suc place) zero x y e = inr e
at_place (z ∷ zs) (suc place) (suc k) x y e = elim (at_place zs place k x y e) as (λ s. ((suc k ≡ suc place) × (x ≡ y))
    ⊎ (slice_get zs k ≡ Some y)) [ inl both ↦ inl (ap suc both.0, both.1) | inr same ↦ inr same ]

-- the word at a place
word_at : (words : List code.WordAt) (place : ℕ) (x : code.WordAt) (w : WordAt) → place < length words
    → x ≡ get_or words place x → slice_get (shown_words words) place ≡ Some w → shown_word x ≡ w
word_at words place x w low is at =
    let here : slice_get words place ≡ Some x = slice_get_read words (length words) place x refl low is in
    let shown : Some (shown_word x) ≡ Some w =
    sym (slice_get-map shown_word words place ∙ ap (option_map shown_word) here) ∙ at in
    same_Some (shown_word x) w shown

shown_at : (words : List code.WordAt) (place : ℕ) (x : code.WordAt) → place < length words
    → x ≡ get_or words place x → slice_get (shown_words words) place ≡ Some (shown_word x)
shown_at words place x low is =
    slice_get-map shown_word words place
    ∙ ap (option_map shown_word) (slice_get_read words (length words) place x refl low is)

pub says_from : (file : List ℕ) (words : List code.WordAt) (place : ℕ) (x : code.WordAt) (answer : Bool)
    → place < length words → x ≡ get_or words place x → answer ≡ takes_from file (shown_word x)
    → SaysFrom file words place answer
says_from file words place x answer low is says w at =
    says ∙ ap (takes_from file) (word_at words place x w low is at)

-- the words from a place on, and those after it
one_on : (file section : List ℕ) (words : List code.WordAt) (place : ℕ) (x : code.WordAt) → place < length words
    → x ≡ get_or words place x
    → first_taker file section (shown_words (drop place words))
    ≡ cond (takes_by file section (shown_word x)) (Some x.statement.0)
    (first_taker file section (shown_words (drop (place + 1) words)))
one_on file section words place x low is =
    let next : suc place ≡ place + 1 = omega arith in
    ap (λ l. first_taker file section (shown_words l))
    (drop-cons words place x low ∙ ap (λ y. y ∷ drop (suc place) words) (sym is) ∙ ap (λ n. x ∷ drop n words) next)

-- it takes the section, or doesn't
pub taken_here : (file section : List ℕ) (words : List code.WordAt) (place : ℕ) (x : code.WordAt) (answer : Bool)
    → place < length words → x ≡ get_or words place x → SaysTaken file section words place answer → answer ≡ true
    → first_taker file section (shown_words (drop place words)) ≡ Some x.statement.0
taken_here file section words place x answer low is says taken =
    one_on file section words place x low is
    ∙ ap (λ b. cond b (Some x.statement.0) (first_taker file section (shown_words (drop (place + 1) words))))
    (sym (says (shown_word x) (shown_at words place x low is)) ∙ taken)

pub passed_here : (file section : List ℕ) (words : List code.WordAt) (place : ℕ) (x : code.WordAt) (answer : Bool)
    → place < length words → x ≡ get_or words place x → SaysTaken file section words place answer → answer ≡ false
    → first_taker file section (shown_words (drop place words))
    ≡ first_taker file section (shown_words (drop (place + 1) words))
passed_here file section words place x answer low is says passed =
    one_on file section words place x low is
    ∙ ap (λ b. cond b (Some x.statement.0) (first_taker file section (shown_words (drop (place + 1) words))))
    (sym (says (shown_word x) (shown_at words place x low is)) ∙ passed)

-- one more is known
pub known_more : (file : List ℕ) (words : List code.WordAt) (known : List (Option Bool)) (place : ℕ) (found : Bool)
    → ((w : WordAt) → slice_get (shown_words words) place ≡ Some w → found ≡ takes_from file w)
    → AreKnown file words known → AreKnown file words (set known place (Some found))
known_more file words known place found here are k w b at is =
    elim (at_place known place k (Some found) (Some b) is) as (λ s. b ≡ takes_from file w) [
      | inl both ↦ sym (same_Some found b both.1)
          ∙ here w (subst (λ n. slice_get (shown_words words) n ≡ Some w) both.0 at)
      | inr same ↦ are k w b at same
    ]

-- nothing is known
none_there : (n k : ℕ) (b : Bool) → slice_get (replicate n None) k ≡ Some (Some b) → ⊥
none_there zero k b e = cc
none_there (suc n) zero b e = cc
none_there (suc n) (suc k) b e = none_there n k b e

pub nothing_known : (file : List ℕ) (words : List code.WordAt) (n : ℕ) → AreKnown file words (replicate n None)
nothing_known file words n k w b at is = absurd (none_there n k b is)
