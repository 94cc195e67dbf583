-- What lines say.
use Rattle.ldi_stream.proofs.Common.{EditHead, HasNo, IsEdit, IsNoEdit, IsRead, List, Says, SaysNothing, [], ap, arith}
use Rattle.ldi_stream.proofs.Common.{codes, decimal, edit_of, eq-eqb, false, false≢true, first_word, later_words}
use Rattle.ldi_stream.proofs.Common.{length, numbers, query_of, refl, subst, suc, sym, zero, ℕ, ◌++◌, ◌<◌, ◌==◌, ◌^◌}
use Rattle.ldi_stream.proofs.Common.{◌∙◌, ◌∷◌, ◌≡◌, ◌≤◌}
use Rattle.ldmodel.specs.Commands as commands
use Rattle.ldmodel.specs.Commands.{Command, Edit, Ask, HasWords, IsWord, edit_line, query_line, line}
use Rattle.ldmodel.specs.Edits.{Change, Add, Replace, Move, Remove, SetScript}
use Rattle.ldi_stream.specs.declared.head.CommandHead.TheVariants as head
use Rattle.ldi_stream.specs.declared.head.Query.{Query}
use Rattle.ldi_stream.proofs.StreamBytes.{first_cut, no_cut, decimal_no, no_by_test}

-- two texts that differ at a place
abbrev byte_at : ℕ → List ℕ → ℕ
byte_at i [] = 0
byte_at zero (b ∷ bs) = b
byte_at (suc i) (b ∷ bs) = byte_at i bs

apart : (i : ℕ) (xs ys : List ℕ) → xs ≡ ys → (byte_at i xs == byte_at i ys) ≡ false → ⊥
apart i xs ys e h = false≢true (sym h ∙ eq-eqb (byte_at i xs) (byte_at i ys) (ap (byte_at i) e))

-- ---- by the first word

only_add : (words : List ℕ) → ((name : List ℕ) (at : ℕ) (bytes : List ℕ)
    → IsEdit (codes "add") words (Add name at bytes) → ⊥) → IsNoEdit (codes "add") words
only_add words h (Add name at bytes) e = h name at bytes e
only_add words h (Replace name bytes) e = apart 0 _ _ e.begins refl
only_add words h (Move name to) e = apart 0 _ _ e.begins refl
only_add words h (Remove name) e = apart 0 _ _ e.begins refl
only_add words h (SetScript text) e = apart 0 _ _ e.begins refl

only_replace : (words : List ℕ) → ((name bytes : List ℕ) → IsEdit (codes "replace") words (Replace name bytes) → ⊥)
    → IsNoEdit (codes "replace") words
only_replace words h (Add name at bytes) e = apart 0 _ _ e.begins refl
only_replace words h (Replace name bytes) e = h name bytes e
only_replace words h (Move name to) e = apart 0 _ _ e.begins refl
only_replace words h (Remove name) e = apart 2 _ _ e.begins refl
only_replace words h (SetScript text) e = apart 0 _ _ e.begins refl

only_move : (words : List ℕ) → ((name : List ℕ) (to : ℕ) → IsEdit (codes "move") words (Move name to) → ⊥)
    → IsNoEdit (codes "move") words
only_move words h (Add name at bytes) e = apart 0 _ _ e.begins refl
only_move words h (Replace name bytes) e = apart 0 _ _ e.begins refl
only_move words h (Move name to) e = h name to e
only_move words h (Remove name) e = apart 0 _ _ e.begins refl
only_move words h (SetScript text) e = apart 0 _ _ e.begins refl

-- ---- words that say nothing

abbrev pub NoName : List ℕ → Type 0
NoName words = (name rest : List ℕ) → IsWord name → words ≡ name ++ 32 ∷ rest → ⊥

abbrev pub NoNumbers : List ℕ → Type 0
NoNumbers words = (at count : ℕ) → at < 2 ^ 64 → count ≤ 2 ^ 26 → words ≡ numbers at count → ⊥

abbrev pub NoCount : List ℕ → Type 0
NoCount word = (n : ℕ) → n ≤ 2 ^ 26 → word ≡ decimal n → ⊥

abbrev pub NoNumber : List ℕ → Type 0
NoNumber word = (n : ℕ) → n < 2 ^ 64 → word ≡ decimal n → ⊥

pub one_word : (words : List ℕ) → HasNo 32 words → NoName words
one_word words h name rest w e = no_cut 32 words name rest h e

pub bad_name : (words n rest : List ℕ) → words ≡ n ++ 32 ∷ rest → HasNo 32 n → (IsWord n → ⊥) → NoName words
bad_name words n rest cut h bad name rest' w e =
    bad (subst IsWord (sym (first_cut 32 n name rest rest' h w.no_space (sym cut ∙ e)).0) w)

pub one_number : (words : List ℕ) → HasNo 32 words → NoNumbers words
one_number words h at count a c e = no_cut 32 words (decimal at) _ h e

module _ (words p l : List ℕ) (cut : words ≡ p ++ 32 ∷ l) (h : HasNo 32 p) where
  parts : (at count : ℕ) → at < 2 ^ 64 → words ≡ numbers at count → (p ≡ decimal at) × (l ≡ decimal count)
  parts at count a e = first_cut 32 p (decimal at) l _ h (decimal_no 32 at (omega arith) a) (sym cut ∙ e)

  pub bad_place : NoNumber p → NoNumbers words
  bad_place bad at count a c e = bad at a (parts at count a e).0

  pub bad_length : NoCount l → NoNumbers words
  bad_length bad at count a c e = bad count c (parts at count a e).1

module _ (words n rest : List ℕ) (w : IsWord n) (cut : words ≡ n ++ 32 ∷ rest) where
  after : (name later : List ℕ) → IsWord name → name ++ 32 ∷ later ≡ words → rest ≡ later
  after name later v e = (first_cut 32 n name rest later w.no_space v.no_space (sym cut ∙ sym e)).1

  pub no_add_numbers : NoNumbers rest → IsNoEdit (codes "add") words
  no_add_numbers h =
      only_add words (λ name at bytes e. h at (length bytes) e.in_range.1 e.in_range.2
      (after name _ e.in_range.0 e.goes_on))

  pub no_replace_length : NoCount rest → IsNoEdit (codes "replace") words
  no_replace_length h =
      only_replace words (λ name bytes e. h (length bytes) e.in_range.1 (after name _ e.in_range.0 e.goes_on))

  pub no_move_place : NoNumber rest → IsNoEdit (codes "move") words
  no_move_place h = only_move words (λ name to e. h to e.in_range.1 (after name _ e.in_range.0 e.goes_on))

-- ---- lines

line_of : (c : Change) → edit_line c ≡ first_word c ++ 32 ∷ later_words c
line_of (Add name at bytes) = refl
line_of (Replace name bytes) = refl
line_of (Move name to) = refl
line_of (Remove name) = refl
line_of (SetScript text) = refl

no_space_first : (c : Change) → HasNo 32 (first_word c)
no_space_first (Add name at bytes) = no_by_test 32 (codes "add") refl
no_space_first (Replace name bytes) = no_by_test 32 (codes "replace") refl
no_space_first (Move name to) = no_by_test 32 (codes "move") refl
no_space_first (Remove name) = no_by_test 32 (codes "remove") refl
no_space_first (SetScript text) = no_by_test 32 (codes "script") refl

no_space_query : (q : commands.Query) → HasNo 32 (query_line q)
no_space_query commands.Image = no_by_test 32 (codes "image") refl
no_space_query commands.Map = no_by_test 32 (codes "map") refl
no_space_query commands.Faults = no_by_test 32 (codes "faults") refl

pub query_says : (text : List ℕ) (q : Query) → length text ≤ 512 → query_line (query_of q) ≡ text
    → Says text (head.Ask q)
unfolding line
query_says text q short e =
    record { is = record { short = subst (λ (l : List ℕ). length l ≤ 512) (sym e) short; words = tt }; spelled = e }

pub edit_says : (text first words : List ℕ) (h : EditHead) → length text ≤ 512 → text ≡ first ++ 32 ∷ words
    → IsRead first words h → Says text (head.Edit h)
unfolding line
edit_says text first words h short cut r payload l =
    let e = r payload l in
    let same : edit_line (edit_of h payload) ≡ text =
    line_of (edit_of h payload) ∙ ap (λ w. w ++ 32 ∷ later_words (edit_of h payload)) e.begins
    ∙ ap (λ w. first ++ 32 ∷ w) e.goes_on ∙ sym cut in
    record {
      is = record { short = subst (λ (t : List ℕ). length t ≤ 512) (sym same) short; words = e.in_range };
      spelled = same;
    }

pub no_words : (text : List ℕ) → HasNo 32 text → ((q : commands.Query) → query_line q ≡ text → ⊥) → SaysNothing text
unfolding line
no_words text n h (Edit c) l = no_cut 32 text (first_word c) (later_words c) n (sym l.spelled ∙ line_of c)
no_words text n h (Ask q) l = h q l.spelled

pub no_edit : (text first words : List ℕ) → text ≡ first ++ 32 ∷ words → HasNo 32 first → IsNoEdit first words
    → SaysNothing text
unfolding line
no_edit text first words cut n h (Edit c) l =
    let same = first_cut 32 (first_word c) first (later_words c) words (no_space_first c) n
    (sym (line_of c) ∙ l.spelled ∙ cut) in
    h c (record { in_range = l.is.words; begins = same.0; goes_on = same.1 })
no_edit text first words cut n h (Ask q) l = no_cut 32 (query_line q) first words (no_space_query q) (l.spelled ∙ cut)
