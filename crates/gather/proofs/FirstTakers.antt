-- Where each word that takes a section passes one of two tests, the first statement that takes it is the lesser of the
-- first ones by the words of each.
use Rattle.gather.proofs.Common.{AreTablesOf, Bool, FileTables, IfSome, Input, InputStatementAt, LinkedSection, List}
use Rattle.gather.proofs.Common.{None, Option, SectionWord, Some, Statement, WordAt, [], and_parts, ap, arith, bytes_eq}
use Rattle.gather.proofs.Common.{bytes_eq-Decides, cond, eqb, eqb-true, exact_name, false, false≢true, filter, first_in}
use Rattle.gather.proofs.Common.{first_match, first_taker, input_statements, is_for, is_for_more, is_named, is_none}
use Rattle.gather.proofs.Common.{is_wild, lesser, list_any, matches_by, min, option_map, option_map_or, own_wild}
use Rattle.gather.proofs.Common.{position_from, refl, shown_listed, shown_words, subst, sym, takes, takes_by, true}
use Rattle.gather.proofs.Common.{word_takes, words_from, words_of, ℕ, ◌&&◌, ◌++◌, ◌+◌, ◌||◌, ◌∙◌, ◌∷◌, ◌≡◌, ◌≤◌}
use Rattle.std.proofs.lemmas.Iterator.Adapters.{position_from-zero}
use Rattle.ldscript.specs.terms.Parts.{Part, AnyRun, AnyByte, Byte, OneOf}
use Rattle.ldscript.specs.terms.Matching.{is_match}
use Rattle.gather.specs.Matches.{matches_of}

-- a pattern of bytes alone matches its name alone
exact_only : (ps : List Part) (name q : List ℕ) → exact_name ps ≡ Some q → is_match ps name ≡ true → name ≡ q
unfolding is_match
exact_only [] [] q e m = cc
exact_only [] (b ∷ bs) q e m = absurd (false≢true m)
exact_only (Byte x ∷ ps) [] q e m = absurd (false≢true m)
exact_only (Byte x ∷ ps) (b ∷ bs) q e m = go (exact_name ps) refl e (λ r a h. exact_only ps bs r a h)
  where
    go : (o : Option (List ℕ)) → exact_name ps ≡ o → option_map (λ bytes. x ∷ bytes) o ≡ Some q
        → ((r : List ℕ) → exact_name ps ≡ Some r → is_match ps bs ≡ true → bs ≡ r) → b ∷ bs ≡ q
    go None a h rest = cc
    go (Some r) a h rest =
        let both = and_parts (eqb b x) (is_match ps bs) m in
        let first : b ≡ x = eqb-true b x both.0 in
        let later : bs ≡ r = rest r a both.1 in
        cc
exact_only (AnyRun ∷ ps) name q e m = cc
exact_only (AnyByte ∷ ps) name q e m = cc
exact_only (OneOf ranges ∷ ps) name q e m = cc

same_bytes : (a : List ℕ) → bytes_eq a a ≡ true
same_bytes a = grind (arith, bytes_eq-Decides)

abbrev Ascends : ℕ → List WordAt → Type 0
Ascends n [] = Unit {0}
Ascends n (w ∷ ws) = (n ≤ w.statement) × Ascends w.statement ws

from_below : (n m : ℕ) (ws : List WordAt) → n ≤ m → Ascends m ws → Ascends n ws
from_below n m [] l a = tt
from_below n m (w ∷ ws) l a = (omega (arith, l, a.0), a.1)

words_ascend : (k : ℕ) (i : Input) (ws : List SectionWord) (rest : List WordAt) → Ascends (k + 1) rest
    → Ascends k (words_of k i ws ++ rest)
words_ascend k i [] rest a = from_below k (k + 1) rest (omega arith) a
words_ascend k i (w ∷ ws) rest a = (omega arith, words_ascend k i ws rest a)

all_ascend : (k : ℕ) (is : List InputStatementAt) → Ascends k (words_from k is)
all_ascend k [] = tt
all_ascend k (i ∷ is) = words_ascend k i.input i.input.sections (words_from (k + 1) is) (all_ascend (k + 1) is)

kept_ascend : (p : WordAt → Bool) (n : ℕ) (ws : List WordAt) → Ascends n ws → Ascends n (filter p ws)
kept_ascend p n [] a = tt
kept_ascend p n (w ∷ ws) a = go (p w) (kept_ascend p w.statement ws a.1)
  where
    go : (b : Bool) → Ascends w.statement (filter p ws) → Ascends n (cond b (w ∷ filter p ws) (filter p ws))
    go true later = (a.0, later)
    go false later = from_below n w.statement (filter p ws) a.0 later

lesser_left : (n : ℕ) (o : Option ℕ) → IfSome o (λ m. n ≤ m) → lesser (Some n) o ≡ Some n
lesser_left n None h = refl
lesser_left n (Some m) h = let e : min n m ≡ n = omega (arith, h) in ap (λ k. Some k) e

lesser_right : (n : ℕ) (o : Option ℕ) → IfSome o (λ m. n ≤ m) → lesser o (Some n) ≡ Some n
lesser_right n None h = refl
lesser_right n (Some m) h = let e : min m n ≡ n = omega (arith, h) in ap (λ k. Some k) e

module _ (file section : List ℕ) where
  abbrev first : List WordAt → Option ℕ
  first ws = first_taker file section ws

  abbrev taken : WordAt → Bool
  taken w = takes_by file section w

  at_once : (w : WordAt) (ws : List WordAt) → taken w ≡ true → first (w ∷ ws) ≡ Some w.statement
  at_once w ws h = ap (λ b. cond b (Some w.statement) (first ws)) h

  passed : (b : Bool) (w : WordAt) (ws : List WordAt) → taken w ≡ false → first (cond b (w ∷ ws) ws) ≡ first ws
  passed true w ws h = ap (λ b. cond b (Some w.statement) (first ws)) h
  passed false w ws h = refl

  first_above : (p : WordAt → Bool) (n : ℕ) (ws : List WordAt) → Ascends n ws
      → IfSome (first (filter p ws)) (λ m. n ≤ m)
  first_above p n [] a = tt
  first_above p n (w ∷ ws) a = go (p w) (taken w) refl (first_above p n ws (from_below n w.statement ws a.0 a.1))
    where
      go : (b t : Bool) → taken w ≡ t → IfSome (first (filter p ws)) (λ m. n ≤ m)
          → IfSome (first (cond b (w ∷ filter p ws) (filter p ws))) (λ m. n ≤ m)
      go false t e h = h
      go true true e h = subst (λ x. IfSome (cond x (Some w.statement) (first (filter p ws))) (λ m. n ≤ m)) (sym e) a.0
      go true false e h = subst (λ x. IfSome (cond x (Some w.statement) (first (filter p ws))) (λ m. n ≤ m)) (sym e) h

  -- what comes later does not come first
  stays_left : (b : Bool) (w : WordAt) (ws : List WordAt) → taken w ≡ true → IfSome (first ws) (λ m. w.statement ≤ m)
      → lesser (Some w.statement) (first (cond b (w ∷ ws) ws)) ≡ Some w.statement
  stays_left true w ws h l = ap (lesser (Some w.statement)) (at_once w ws h)
      ∙ lesser_left w.statement (Some w.statement) (omega arith)
  stays_left false w ws h l = lesser_left w.statement (first ws) l

  -- each word that takes the section passes one of these tests
  abbrev Covers : (p q : WordAt → Bool) → Type 0
  Covers p q = (w : WordAt) → taken w ≡ true → p w ≡ false → q w ≡ false → ⊥

  named_or_wild : Covers (is_named section) is_wild
  named_or_wild w h = go (exact_name w.word.pattern) refl
    where
      go : (o : Option (List ℕ)) → exact_name w.word.pattern ≡ o → option_map_or (λ own. bytes_eq own section) o false
          ≡ false → is_none o ≡ false → ⊥
      go None e n l = false≢true (sym l)
      go (Some q) e n l =
          let both = and_parts (is_match w.input.file file) (word_takes file section w.word) h in
          let of_word = and_parts (is_match w.word.pattern section) _ both.1 in
          let is : section ≡ q = exact_only w.word.pattern section q e of_word.0 in
          false≢true (sym n ∙ ap (bytes_eq q) is ∙ same_bytes q)

  for_one_or_more : Covers (is_for file) is_for_more
  for_one_or_more w h = go (exact_name w.input.file) refl
    where
      go : (o : Option (List ℕ)) → exact_name w.input.file ≡ o → option_map_or (λ own. bytes_eq own file) o false
          ≡ false → is_none o ≡ false → ⊥
      go None e n l = false≢true (sym l)
      go (Some q) e n l =
          let both = and_parts (is_match w.input.file file) (word_takes file section w.word) h in
          let is : file ≡ q = exact_only w.input.file file q e both.0 in
          false≢true (sym n ∙ ap (bytes_eq q) is ∙ same_bytes q)

  first_of_both : (p q : WordAt → Bool) → Covers p q → (n : ℕ) (ws : List WordAt) → Ascends n ws
      → lesser (first (filter p ws)) (first (filter q ws)) ≡ first ws
  first_of_both p q covers n [] a = refl
  first_of_both p q covers n (w ∷ ws) a =
      go (p w) (q w) (taken w) refl refl refl (first_of_both p q covers w.statement ws a.1)
      (first_above p w.statement ws a.1) (first_above q w.statement ws a.1)
    where
      go : (b d t : Bool) → p w ≡ b → q w ≡ d → taken w ≡ t
          → lesser (first (filter p ws)) (first (filter q ws)) ≡ first ws
          → IfSome (first (filter p ws)) (λ m. w.statement ≤ m)
          → IfSome (first (filter q ws)) (λ m. w.statement ≤ m)
          → lesser (first (cond b (w ∷ filter p ws) (filter p ws)))
          (first (cond d (w ∷ filter q ws) (filter q ws))) ≡ first (w ∷ ws)
      go b d false eb ed et rest l r =
          ap (λ o. lesser o (first (cond d (w ∷ filter q ws) (filter q ws)))) (passed b w (filter p ws) et)
          ∙ ap (lesser (first (filter p ws))) (passed d w (filter q ws) et)
          ∙ rest ∙ sym (passed true w ws et)
      go true d true eb ed et rest l r =
          ap (λ o. lesser o (first (cond d (w ∷ filter q ws) (filter q ws)))) (at_once w (filter p ws) et)
          ∙ stays_left d w (filter q ws) et r ∙ sym (at_once w ws et)
      go false true true eb ed et rest l r =
          ap (lesser (first (filter p ws))) (at_once w (filter q ws) et)
          ∙ lesser_right w.statement (first (filter p ws)) l ∙ sym (at_once w ws et)
      go false false true eb ed et rest l r = absurd (covers w et eb ed)

  -- by the names of sections
  by_names : (ws : List WordAt) → Ascends 0 ws
      → lesser (first (filter (is_named section) ws)) (first (filter is_wild ws)) ≡ first ws
  by_names ws a = first_of_both (is_named section) is_wild named_or_wild 0 ws a

  -- and by those of files before
  by_files : (ws : List WordAt) → Ascends 0 ws
      → lesser
      (lesser (first (filter (is_named section) (filter (is_for file) ws)))
      (first (filter is_wild (filter (is_for file) ws))))
      (lesser (first (filter (is_named section) (filter is_for_more ws)))
      (first (filter is_wild (filter is_for_more ws))))
      ≡ first ws
  by_files ws a =
      ap (λ o. lesser o (lesser (first (filter (is_named section) (filter is_for_more ws)))
      (first (filter is_wild (filter is_for_more ws)))))
      (by_names (filter (is_for file) ws) (kept_ascend (is_for file) 0 ws a))
      ∙ ap (lesser (first (filter (is_for file) ws)))
      (by_names (filter is_for_more ws) (kept_ascend is_for_more 0 ws a))
      ∙ first_of_both (is_for file) is_for_more for_one_or_more 0 ws a

  one_more : (m t a : Bool) (k : ℕ) (o : Option ℕ) → cond (m && t) (Some k) (cond (m && a) (Some k) o)
      ≡ cond (m && (t || a)) (Some k) o
  one_more true true a k o = refl
  one_more true false a k o = refl
  one_more false t a k o = refl

  not_and : (m : Bool) → m && false ≡ false
  not_and true = refl
  not_and false = refl

  first_of_words : (k : ℕ) (i : Input) (ws : List SectionWord) (rest : List WordAt)
      → first (words_of k i ws ++ rest)
      ≡ cond (is_match i.file file && list_any (word_takes file section) ws) (Some k) (first rest)
  first_of_words k i [] rest = ap (λ b. cond b (Some k) (first rest)) (sym (not_and (is_match i.file file)))
  first_of_words k i (w ∷ ws) rest =
      ap (cond (is_match i.file file && word_takes file section w) (Some k)) (first_of_words k i ws rest)
      ∙ one_more (is_match i.file file) (word_takes file section w) (list_any (word_takes file section) ws) k
      (first rest)

  first_from : (k : ℕ) (is : List InputStatementAt)
      → position_from (λ (i : InputStatementAt). takes file section i.input) k is ≡ first (words_from k is)
  first_from k [] = refl
  first_from k (i ∷ is) =
      ap (cond (takes file section i.input) (Some k)) (first_from (k + 1) is)
      ∙ sym (first_of_words k i.input i.input.sections (words_from (k + 1) is))

  first_of_script : (script : List Statement) → first (words_from 0 (input_statements script))
      ≡ first_match script file section
  unfolding first_match
  first_of_script script =
      sym (position_from-zero (λ (i : InputStatementAt). takes file section i.input) (input_statements script)
      ∙ first_from 0 (input_statements script))

  -- tables of its words find the first match
  pub first_in_tables : (t : FileTables) (script : List Statement) → AreTablesOf t (input_statements script)
      → first_in t file section ≡ first_match script file section
  first_in_tables t script are =
      let ws = words_from 0 (input_statements script) in
      ap (λ l. lesser (lesser (first l) (first (own_wild t file))) (lesser (first (shown_listed t.others section))
      (first (shown_words t.others.wild.items)))) (are.named file section)
      ∙ ap (λ l. lesser (lesser (first (filter (is_named section) (filter (is_for file) ws))) (first l))
      (lesser (first (shown_listed t.others section)) (first (shown_words t.others.wild.items)))) (are.wild file)
      ∙ ap (λ l. lesser (lesser (first (filter (is_named section) (filter (is_for file) ws)))
      (first (filter is_wild (filter (is_for file) ws)))) (lesser (first l)
      (first (shown_words t.others.wild.items)))) (are.others_named section)
      ∙ ap (λ l. lesser (lesser (first (filter (is_named section) (filter (is_for file) ws)))
      (first (filter is_wild (filter (is_for file) ws))))
      (lesser (first (filter (is_named section) (filter is_for_more ws))) (first l))) are.others_wild
      ∙ by_files ws (all_ascend 0 (input_statements script))
      ∙ first_of_script script

-- so do they for all sections of an object
pub matches_by_tables : (t : FileTables) (script : List Statement) → AreTablesOf t (input_statements script)
    → (file : List ℕ) (sections : List LinkedSection) → matches_by t file sections ≡ matches_of script file sections
matches_by_tables t script are file [] = refl
matches_by_tables t script are file (s ∷ ss) =
    ap (λ n. n ∷ matches_by t file ss) (first_in_tables file s.name t script are)
    ∙ ap (λ ns. first_match script file s.name ∷ ns) (matches_by_tables t script are file ss)
