-- Input statements: no tokens are two of them.
use Rattle.ldscript.proofs.Common.{Bool, CloseBrace, CloseParenthesis, Err, IfOk, IfSome, Input, InputStatement, Lexeme}
use Rattle.ldscript.proofs.Common.{List, Mark, None, NoneAt, Ok, OpenParenthesis, Option, Pattern, Punctuation, Reads}
use Rattle.ldscript.proofs.Common.{Result, Rule, Semicolon, Some, [], ap, codes, excluded_files, false, false≢true, inl}
use Rattle.ldscript.proofs.Common.{input_statement, inr, is_free_word, is_reserved, key, mark, pattern, refl, selected}
use Rattle.ldscript.proofs.Common.{some, statements, subst, sym, token, true, word_part, ℕ, ◌∙◌, ◌∷◌, ◌≡◌, ◌⊎◌, ◌▸◌}
use Rattle.ldscript_tokens.specs.Tokens.{Word}
use Rattle.ldscript_terms.specs.Parts as patterns
use Rattle.ldscript_terms.specs.Spelling.{SpellsPattern}
use Rattle.ldscript_terms.proofs.Reading.{one_pattern}
use Rattle.ldscript.specs.Grammar.{sort, excluded, exclusion, one, bare, selection, plain, kept, input}
use Rattle.ldscript_statements.specs.declared.input.Sort.{Sort}
use Rattle.ldscript_statements.specs.declared.input.Sort.TheVariants.{ByName, ByAlignment}
use Rattle.ldscript_statements.specs.declared.input.SectionWord.{SectionWord}
use Rattle.ldscript.proofs.Singles.{Single, tokens_same, mark_fixed, key_fixed, skip_single, pair_single, keys_differ}
use Rattle.ldscript.proofs.Singles.{behind, behind_tree, marks_differ, same_words}
use Rattle.ldscript.proofs.Each.{EachListed, some_single}
use Rattle.ldscript.proofs.Lists.{Listed, closing_single}

pub pattern_single : Single pattern
pattern_single ts r s a b x y =
    let e = tokens_same (Word x.0) (Word y.0) ts r s x.3 y.3 in
    let w = same_words Pattern x.0 y.0 e.0 in
    (one_pattern a b x.0 x.2 (subst (λ v. SpellsPattern b v) (sym w) y.2), e.1)

-- a word of the language is no pattern
pub pattern_no_key : (w : List ℕ) → is_free_word w ≡ false → (p : List patterns.Part) (ts r s : List Lexeme)
    → pattern p ts r → key Pattern w ts s → ⊥
pattern_no_key w k p ts r s x y =
    let e = tokens_same (Word x.0) (Word w) ts r s x.3 y in
    false≢true (sym k ∙ sym (ap is_free_word (same_words Pattern x.0 w e.0)) ∙ x.1)

pub word_no_mark : (w : List ℕ) (m : Mark) (ts r s : List Lexeme) → token (Word w) ts r → mark m ts s → ⊥
word_no_mark w m ts r s x y = let e = (tokens_same (Word w) (Punctuation m) ts r s x y).0 in cc

pub patterns_listed : EachListed (λ ts. Unit {0}) (mark CloseParenthesis) pattern
patterns_listed = record {
  single = λ ts r s a b x y h k. pattern_single ts r s a b x y;
  closes = mark_fixed CloseParenthesis;
  no_close = λ x ts r s d e. word_no_mark d.0 CloseParenthesis ts r s d.3 e;
  at_close = λ ts r d. tt;
  at_start = λ x ts r d. tt;
}

-- WORD {WORD} ")"
pub closed_patterns_single : Single (λ ps. some pattern ps ▸ mark CloseParenthesis)
closed_patterns_single = some_single patterns_listed

sort_free : is_free_word (codes "SORT") ≡ false
unfolding is_free_word is_reserved
sort_free = refl

sort_by_name_free : is_free_word (codes "SORT_BY_NAME") ≡ false
unfolding is_free_word is_reserved
sort_by_name_free = refl

sort_by_alignment_free : is_free_word (codes "SORT_BY_ALIGNMENT") ≡ false
unfolding is_free_word is_reserved
sort_by_alignment_free = refl

pub keep_free : is_free_word (codes "KEEP") ≡ false
unfolding is_free_word is_reserved
keep_free = refl

-- the word of a sort
sort_key : (a : Sort) (ts r : List Lexeme) → sort a ts r → (w : List ℕ) × (is_free_word w ≡ false) × key Pattern w ts r
sort_key ByName ts r (inl d) = (codes "SORT", sort_free, d)
sort_key ByName ts r (inr d) = (codes "SORT_BY_NAME", sort_by_name_free, d)
sort_key ByAlignment ts r d = (codes "SORT_BY_ALIGNMENT", sort_by_alignment_free, d)

name_no_alignment : (ts r s : List Lexeme) → sort ByName ts r → sort ByAlignment ts s → ⊥
name_no_alignment ts r s (inl x) y = keys_differ Pattern (codes "SORT") (codes "SORT_BY_ALIGNMENT") refl refl ts r s x y
name_no_alignment ts r s (inr x) y =
    keys_differ Pattern (codes "SORT_BY_NAME") (codes "SORT_BY_ALIGNMENT") refl refl ts r s x y

pub sort_single : Single sort
sort_single ts r s ByName ByName x y =
    let a = sort_key ByName ts r x in
    let b = sort_key ByName ts s y in
    (refl, (tokens_same (Word a.0) (Word b.0) ts r s a.2 b.2).1)
sort_single ts r s ByAlignment ByAlignment x y = (refl, key_fixed Pattern (codes "SORT_BY_ALIGNMENT") ts r s x y)
sort_single ts r s ByName ByAlignment x y = absurd (name_no_alignment ts r s x y)
sort_single ts r s ByAlignment ByName x y = absurd (name_no_alignment ts s r y x)

exclude_file_free : is_free_word (codes "EXCLUDE_FILE") ≡ false
unfolding is_free_word is_reserved
exclude_file_free = refl

-- "(" WORD {WORD} ")"
pub excluded_files_single : Single excluded_files
excluded_files_single = skip_single (mark OpenParenthesis) (λ ps. some pattern ps ▸ mark CloseParenthesis)
    (mark_fixed OpenParenthesis) closed_patterns_single

exclusion_single : Single exclusion
exclusion_single = skip_single (key Pattern (codes "EXCLUDE_FILE")) excluded_files
    (key_fixed Pattern (codes "EXCLUDE_FILE")) excluded_files_single

section_words_same : (a b : SectionWord) → a.pattern ≡ b.pattern → a.excluded ≡ b.excluded → a ≡ b
section_words_same a b e f =
    let mk : List patterns.Part → List (List patterns.Part)
    → SectionWord = λ p x. record { pattern = p; excluded = x } in
    ap (λ p. mk p a.excluded) e ∙ ap (λ x. mk b.pattern x) f

-- where a word stands at once, there is no EXCLUDE_FILE
no_exclusion : (p : List patterns.Part) (ps : List (List patterns.Part)) (ts us r s : List Lexeme) → ts ≡ us
    → pattern p us r → exclusion ps ts s → ⊥
no_exclusion p ps ts us r s e x y =
    pattern_no_key (codes "EXCLUDE_FILE") exclude_file_free p ts r y.0 (subst (λ l. pattern p l r) (sym e) x) y.1

one_cases : (x y : List (List patterns.Part)) (p q : List patterns.Part) (ts r s : List Lexeme)
    → (excluded x ▸ pattern p) ts r → (excluded y ▸ pattern q) ts s → (x ≡ y) × (p ≡ q) × (r ≡ s)
one_cases [] [] p q ts r s d e =
    let h = pattern_single e.0 r s p q (subst (λ l. pattern p l r) (sym d.1 ∙ e.1) d.2) e.2 in
    (refl, h.0, h.1)
one_cases [] (y ∷ ys) p q ts r s d e = absurd (no_exclusion p (y ∷ ys) ts d.0 r e.0 d.1 d.2 e.1)
one_cases (x ∷ xs) [] p q ts r s d e = absurd (no_exclusion q (x ∷ xs) ts e.0 s d.0 e.1 e.2 d.1)
one_cases (x ∷ xs) (y ∷ ys) p q ts r s d e =
    pair_single exclusion pattern exclusion_single pattern_single ts r s (x ∷ xs) (y ∷ ys) p q d e

pub one_single : Single one
one_single ts r s a b x y =
    let h = one_cases a.excluded b.excluded a.pattern b.pattern ts r s x y in
    (section_words_same a b h.1 h.0, h.2)

pub bare_single : Single bare
bare_single ts r s a b x y =
    let h = pattern_single ts r s a.pattern b.pattern x.1 y.1 in
    (section_words_same a b h.0 (x.0 ∙ sym y.0), h.1)

pub word_single : (e : Bool) → Single (word_part e)
word_single true = one_single
word_single false = bare_single

-- a word of an input statement begins with a word token
one_word : (x : List (List patterns.Part)) (p : List patterns.Part) (ts r : List Lexeme) → (excluded x ▸ pattern p) ts r
    → (w : List ℕ) × (us : List Lexeme) × token (Word w) ts us
one_word [] p ts r d = (d.2.0, r, subst (λ l. token (Word d.2.0) l r) (sym d.1) d.2.3)
one_word (x ∷ xs) p ts r d = (codes "EXCLUDE_FILE", d.1.0, d.1.1)

word_token : (e : Bool) (w : SectionWord) (ts r : List Lexeme) → word_part e w ts r
    → (v : List ℕ) × (us : List Lexeme) × token (Word v) ts us
word_token true w ts r d = one_word w.excluded w.pattern ts r d
word_token false w ts r d = (d.1.0, r, d.1.3)

pub words_listed : (e : Bool) → EachListed (λ ts. Unit {0}) (mark CloseParenthesis) (word_part e)
words_listed e = record {
  single = λ ts r s a b x y h k. word_single e ts r s a b x y;
  closes = mark_fixed CloseParenthesis;
  no_close = λ x ts r s d m. (let w = word_token e x ts r d in word_no_mark w.0 CloseParenthesis ts w.1 s w.2 m);
  at_close = λ ts r d. tt;
  at_start = λ x ts r d. tt;
}

-- words of an input statement and the `)` after them
pub closed_words_single : (e : Bool) → Single (λ ws. some (word_part e) ws ▸ mark CloseParenthesis)
closed_words_single e = some_single (words_listed e)

sort_no_exclusion : (a : Sort) (ts r s : List Lexeme) → sort a ts r → key Pattern (codes "EXCLUDE_FILE") ts s → ⊥
sort_no_exclusion ByName ts r s (inl x) y =
    keys_differ Pattern (codes "SORT") (codes "EXCLUDE_FILE") refl refl ts r s x y
sort_no_exclusion ByName ts r s (inr x) y =
    keys_differ Pattern (codes "SORT_BY_NAME") (codes "EXCLUDE_FILE") refl refl ts r s x y
sort_no_exclusion ByAlignment ts r s x y =
    keys_differ Pattern (codes "SORT_BY_ALIGNMENT") (codes "EXCLUDE_FILE") refl refl ts r s x y

sort_no_word : (a : Sort) (x : List (List patterns.Part)) (p : List patterns.Part) (ts r s : List Lexeme) → sort a ts r
    → (excluded x ▸ pattern p) ts s → ⊥
sort_no_word a [] p ts r s d e = let k = sort_key a ts r d in
    pattern_no_key k.0 k.1 p ts s r (subst (λ l. pattern p l s) (sym e.1) e.2) k.2
sort_no_word a (x ∷ xs) p ts r s d e = sort_no_exclusion a ts r e.1.0 d e.1.1

sort_no_words : (a : Sort) (ws : List SectionWord) (ts r s : List Lexeme) → sort a ts r → some one ws ts s → ⊥
sort_no_words a [] ts r s x y = y
sort_no_words a (w ∷ ws) ts r s x y = sort_no_word a w.excluded w.pattern ts r y.0 x y.1

-- what the parentheses of an input statement hold, with the `)`
abbrev Selected : Option Sort → List SectionWord → Rule
Selected o ws = selection o ws ▸ mark CloseParenthesis

pub selected_single : (a b : Option Sort) (ps qs : List SectionWord) (ts r s : List Lexeme) → Selected a ps ts r
    → Selected b qs ts s → (a ≡ b) × (ps ≡ qs) × (r ≡ s)
selected_single None None ps qs ts r s x y = let e = closed_words_single true ts r s ps qs x y in (refl, e.0, e.1)
selected_single None (Some b) ps qs ts r s x y = absurd (sort_no_words b ps ts y.1.0 x.0 y.1.1 x.1)
selected_single (Some a) None ps qs ts r s x y = absurd (sort_no_words a qs ts x.1.0 y.0 x.1.1 y.1)
selected_single (Some a) (Some b) ps qs ts r s x y =
    let e = pair_single sort (λ p. mark OpenParenthesis ▸ some bare p ▸ mark CloseParenthesis) sort_single
    (skip_single (mark OpenParenthesis) (λ p. some bare p ▸ mark CloseParenthesis) (mark_fixed OpenParenthesis)
    (closed_words_single false))
    ts x.0 y.0 a b ps qs x.1 y.1 in
    (ap Some e.0, e.1, mark_fixed CloseParenthesis y.0 r s (subst (λ l. mark CloseParenthesis l r) e.2 x.2) y.2)

-- an input statement but for KEEP
pub record SameInput (a b : Input) (r s : List Lexeme) : Type 0 where
  pub same_file : a.file ≡ b.file
  pub same_sort : a.sort ≡ b.sort
  pub same_sections : a.sections ≡ b.sections
  pub same_rest : r ≡ s

pub plain_same : (a b : Input) (ts r s : List Lexeme) → plain a ts r → plain b ts s → SameInput a b r s
plain_same a b ts r s x y =
    let e = behind_tree pattern (mark OpenParenthesis ▸ Selected b.sort b.sections) pattern_single ts x.0 s a.file
    b.file x.1 y in
    let f = behind (mark OpenParenthesis) (Selected b.sort b.sections)
    (mark_fixed OpenParenthesis) x.0 x.2.0 s x.2.1 e.1 in
    let g = selected_single a.sort b.sort a.sections b.sections x.2.0 r s x.2.2 f in
    record { same_file = sym e.0; same_sort = g.0; same_sections = g.1; same_rest = g.2 }

inputs_same : (a b : Input) (r s : List Lexeme) → a.keep ≡ b.keep → SameInput a b r s → (a ≡ b) × (r ≡ s)
inputs_same a b r s k e =
    let mk : Bool → List patterns.Part → Option Sort → List SectionWord
    → Input = λ k f o ps. record { keep = k; file = f; sort = o; sections = ps } in (
      ap (λ k. mk k a.file a.sort a.sections) k ∙ ap (λ f. mk b.keep f a.sort a.sections) e.same_file
          ∙ ap (λ o. mk b.keep b.file o a.sections) e.same_sort ∙ ap (λ ps. mk b.keep b.file b.sort ps) e.same_sections,
      e.same_rest,
    )

kept_same : (k l : Bool) (a b : Input) (ts r s : List Lexeme) → kept k (plain a) ts r → kept l (plain b) ts s
    → (k ≡ l) × SameInput a b r s
kept_same false false a b ts r s x y = (refl, plain_same a b ts r s x y)
kept_same false true a b ts r s x y = absurd (pattern_no_key (codes "KEEP") keep_free a.file ts x.0 y.0 x.1 y.1)
kept_same true false a b ts r s x y = absurd (pattern_no_key (codes "KEEP") keep_free b.file ts y.0 x.0 y.1 x.1)
kept_same true true a b ts r s x y =
    let e = behind (key Pattern (codes "KEEP")) (mark OpenParenthesis ▸ plain b ▸ mark CloseParenthesis)
    (key_fixed Pattern (codes "KEEP")) ts x.0 s x.1 y in
    let f = behind (mark OpenParenthesis) (plain b ▸ mark CloseParenthesis)
    (mark_fixed OpenParenthesis) x.0 x.2.0 s x.2.1 e in
    let g = plain_same a b x.2.0 x.2.2.0 f.0 x.2.2.1 f.1 in
    let h = mark_fixed CloseParenthesis f.0 r s (subst (λ l. mark CloseParenthesis l r) g.same_rest x.2.2.2) f.2 in
    (refl, record { same_file = g.same_file; same_sort = g.same_sort; same_sections = g.same_sections; same_rest = h })

pub input_single : Single input
input_single ts r s a b x y = let e = kept_same a.keep b.keep a b ts r s x y in inputs_same a b r s e.0 e.1

-- it begins with a word
kept_word : (k : Bool) (i : Input) (ts r : List Lexeme) → kept k (plain i) ts r
    → (w : List ℕ) × (us : List Lexeme) × token (Word w) ts us
kept_word false i ts r x = (x.1.0, x.0, x.1.3)
kept_word true i ts r x = (codes "KEEP", x.0, x.1)

pub input_no_mark : (m : Mark) (i : Input) (ts r s : List Lexeme) → input i ts r → mark m ts s → ⊥
input_no_mark m i ts r s x y = let w = kept_word i.keep i ts r x in word_no_mark w.0 m ts w.1 s w.2 y

input_statements_same : (a b : InputStatement) → a.line ≡ b.line → a.input ≡ b.input → a ≡ b
input_statements_same a b e f =
    let mk : ℕ → Input → InputStatement = λ n i. record { line = n; input = i } in
    ap (λ n. mk n a.input) e ∙ ap (λ i. mk b.line i) f

pub input_statement_single : Single input_statement
input_statement_single ts r s a b x y =
    let e = input_single ts r s a.input b.input x.1 y.1 in
    (input_statements_same a b (x.0 ∙ sym y.0) e.0, e.1)

-- statements of which none begins with a mark, up to a `}`
pub listed_to_brace : {A : Type 0} (p : A → Rule) → Single p
    → ((m : Mark) (x : A) (ts r s : List Lexeme) → p x ts r → mark m ts s → ⊥)
    → Listed (λ ts. Unit {0}) (mark CloseBrace) p
listed_to_brace p one_tree no_mark = record {
  single = λ ts r s a b x y h k. one_tree ts r s a b x y;
  closes = mark_fixed CloseBrace;
  no_close = no_mark CloseBrace;
  no_semicolon = no_mark Semicolon;
  apart = λ ts r s d e. marks_differ CloseBrace Semicolon ts r s (λ q. cc) d e;
  at_close = λ ts r d. tt;
  at_semicolon = λ ts r d. tt;
  at_start = λ x ts r d. tt;
}

pub inputs_listed : Listed (λ ts. Unit {0}) (mark CloseBrace) input_statement
inputs_listed = listed_to_brace input_statement input_statement_single
    (λ m x ts r s d e. input_no_mark m x.input ts r s d.1 e)

pub closed_inputs_single : Single (λ is. statements input_statement is ▸ mark CloseBrace)
closed_inputs_single ts r s a b x y = closing_single inputs_listed a b ts r s x y

pub sort_none : (ts : List Lexeme) → ((us : List Lexeme) → key Pattern (codes "SORT_BY_ALIGNMENT") ts us → ⊥)
    → ((us : List Lexeme) → key Pattern (codes "SORT_BY_NAME") ts us → ⊥)
    → ((us : List Lexeme) → key Pattern (codes "SORT") ts us → ⊥) → NoneAt sort ts
sort_none ts a n s ByName more (inl d) = s more d
sort_none ts a n s ByName more (inr d) = n more d
sort_none ts a n s ByAlignment more d = a more d

pub sort_mark_none : (ts us : List Lexeme) (a : Sort) → sort a ts us
    → ((r : List Lexeme) → mark OpenParenthesis us r → ⊥) → NoneAt (λ s. sort s ▸ mark OpenParenthesis) ts
sort_mark_none ts us a h n y more d = n more (behind_tree sort (mark OpenParenthesis) sort_single ts us more a y h d).1

-- a word of an input statement
pub bare_none : (ts : List Lexeme) → NoneAt pattern ts → NoneAt bare ts
bare_none ts n w more d = n w.pattern more d.1

one_bare_cases : (x : List (List patterns.Part)) (p : List patterns.Part) (ts r : List Lexeme)
    → ((us : List Lexeme) → key Pattern (codes "EXCLUDE_FILE") ts us → ⊥) → (excluded x ▸ pattern p) ts r
    → (x ≡ []) × pattern p ts r
one_bare_cases [] p ts r n d = (refl, subst (λ l. pattern p l r) (sym d.1) d.2)
one_bare_cases (x ∷ xs) p ts r n d = absurd (n d.1.0 d.1.1)

bare_one_cases : (x : List (List patterns.Part)) (p : List patterns.Part) (ts r : List Lexeme) → x ≡ [] → pattern p ts r
    → (excluded x ▸ pattern p) ts r
bare_one_cases x p ts r e d = subst (λ (y : List (List patterns.Part)). (excluded y ▸ pattern p) ts r)
    (sym e) (ts, refl, d)

-- without EXCLUDE_FILE
pub one_as_bare : {X E : Type 0} (ts : List Lexeme)
    → ((us : List Lexeme) → key Pattern (codes "EXCLUDE_FILE") ts us → ⊥)
    → (tree : X → SectionWord) (rest : X → List Lexeme) (r : Result (Option X) E)
    → Reads bare ts tree rest r → Reads one ts tree rest r
one_as_bare ts n tree rest (Ok (Some x)) d =
    record {
      spells = bare_one_cases (tree x).excluded (tree x).pattern ts (rest x) d.spells.0 d.spells.1;
      shorter = d.shorter;
    }
one_as_bare ts n tree rest (Ok None) d = λ w more h. d w more (one_bare_cases w.excluded w.pattern ts more n h)
one_as_bare ts n tree rest (Err e) d = tt

-- with EXCLUDE_FILE
pub one_excluding : (x : List (List patterns.Part)) (p : List patterns.Part) (ts us vs r : List Lexeme)
    → key Pattern (codes "EXCLUDE_FILE") ts us → excluded_files x us vs → pattern p vs r → (excluded x ▸ pattern p) ts r
one_excluding [] p ts us vs r k d h = absurd d.2.1
one_excluding (x ∷ xs) p ts us vs r k d h = (vs, (us, k, d), h)

no_bare_one : (x : List (List patterns.Part)) (p : List patterns.Part) (ts us more : List Lexeme)
    → key Pattern (codes "EXCLUDE_FILE") ts us → (excluded x ▸ pattern p) ts more
    → (vs : List Lexeme) × excluded_files x us vs × pattern p vs more
no_bare_one [] p ts us more k d =
    absurd (pattern_no_key (codes "EXCLUDE_FILE") exclude_file_free p ts more us
    (subst (λ l. pattern p l more) (sym d.1) d.2) k)
no_bare_one (x ∷ xs) p ts us more k d = (
  d.0,
  behind (key Pattern (codes "EXCLUDE_FILE")) (excluded_files (x ∷ xs))
      (key_fixed Pattern (codes "EXCLUDE_FILE")) ts us d.0 k d.1,
  d.2,
)

pub one_files_none : (ts us : List Lexeme) → key Pattern (codes "EXCLUDE_FILE") ts us → NoneAt excluded_files us
    → NoneAt one ts
one_files_none ts us k n w more d = let h = no_bare_one w.excluded w.pattern ts us more k d in n w.excluded h.0 h.1

pub one_pattern_none : (ts us vs : List Lexeme) (x : List (List patterns.Part))
    → key Pattern (codes "EXCLUDE_FILE") ts us → excluded_files x us vs → NoneAt pattern vs → NoneAt one ts
one_pattern_none ts us vs x k e n w more d =
    let h = no_bare_one w.excluded w.pattern ts us more k d in
    n w.pattern more (subst (λ l. pattern w.pattern l more) (excluded_files_single us h.0 vs w.excluded x h.1 e).1 h.2)

-- a word that may have EXCLUDE_FILE before it, and one that may not
pub word_excluding : {X E : Type 0} (e : Bool) (ts : List Lexeme) (tree : X → SectionWord) (rest : X → List Lexeme)
    (r : Result (Option X) E) → e ≡ true → Reads one ts tree rest r → Reads (word_part e) ts tree rest r
word_excluding e ts tree rest r h d = subst (λ b. Reads (word_part b) ts tree rest r) (sym h) d

pub word_bare : {X E : Type 0} (e : Bool) (ts : List Lexeme) (tree : X → SectionWord) (rest : X → List Lexeme)
    (r : Result (Option X) E) → e ≡ false → Reads bare ts tree rest r → Reads (word_part e) ts tree rest r
word_bare e ts tree rest r h d = subst (λ b. Reads (word_part b) ts tree rest r) (sym h) d

-- what stands between the parentheses of an input statement
pub selected_unsorted : (ts : List Lexeme) → NoneAt (λ s. sort s ▸ mark OpenParenthesis) ts
    → NoneAt (λ ws. some one ws ▸ mark CloseParenthesis) ts → NoneAt selected ts
selected_unsorted ts s n (None, ps) more d = n ps more d
selected_unsorted ts s n (Some a, ps) more d = s a d.1.2.0 (d.1.0, d.1.1, d.1.2.1)

pub selected_sorted : (ts us : List Lexeme) (a : Sort) → (sort a ▸ mark OpenParenthesis) ts us
    → ((ws : List SectionWord) (vs r : List Lexeme) → (some bare ws ▸ mark CloseParenthesis) us vs
    → mark CloseParenthesis vs r → ⊥)
    → NoneAt selected ts
selected_sorted ts us a h n (None, ps) more d = sort_no_words a ps ts h.0 d.0 h.1 d.1
selected_sorted ts us a h n (Some b, ps) more d =
    let e = behind_tree sort (mark OpenParenthesis ▸ some bare ps ▸ mark CloseParenthesis) sort_single ts h.0 d.0
    a b h.1 d.1 in
    let f = behind (mark OpenParenthesis) (some bare ps ▸ mark CloseParenthesis)
    (mark_fixed OpenParenthesis) h.0 us d.0 h.2 e.1 in
    n ps d.0 more f d.2

pub plain_file_none : (ts : List Lexeme) → NoneAt pattern ts → NoneAt plain ts
plain_file_none ts n y more d = n y.file d.0 d.1

pub plain_open_none : (ts us : List Lexeme) (p : List patterns.Part) → pattern p ts us
    → ((r : List Lexeme) → mark OpenParenthesis us r → ⊥) → NoneAt plain ts
plain_open_none ts us p h n y more d =
    let e = behind_tree pattern (mark OpenParenthesis ▸ Selected y.sort y.sections) pattern_single ts us more
    p y.file h d in
    n e.1.0 e.1.1

pub plain_selected_none : (ts us vs : List Lexeme) (p : List patterns.Part) → pattern p ts us
    → mark OpenParenthesis us vs → NoneAt selected vs → NoneAt plain ts
plain_selected_none ts us vs p h m n y more d =
    let e = behind_tree pattern (mark OpenParenthesis ▸ Selected y.sort y.sections) pattern_single ts us more
    p y.file h d in
    let f = behind (mark OpenParenthesis) (Selected y.sort y.sections) (mark_fixed OpenParenthesis) us vs more m e.1 in
    n (y.sort, y.sections) more f

pub kept_cases : (k : Bool) (y : Input) (ts r : List Lexeme) → kept k (plain y) ts r
    → (plain y ts r) ⊎ ((key Pattern (codes "KEEP") ▸ mark OpenParenthesis ▸ plain y ▸ mark CloseParenthesis) ts r)
kept_cases false y ts r d = inl d
kept_cases true y ts r d = inr d

pub not_kept_none : (ts : List Lexeme) → ((us : List Lexeme) → key Pattern (codes "KEEP") ts us → ⊥) → NoneAt plain ts
    → NoneAt input ts
not_kept_none ts k n y more d = elim (kept_cases y.keep y ts more d) [ inl e ↦ n y more e | inr e ↦ k e.0 e.1 ]

pub kept_open_none : (ts us : List Lexeme) → key Pattern (codes "KEEP") ts us
    → ((r : List Lexeme) → mark OpenParenthesis us r → ⊥) → NoneAt input ts
kept_open_none ts us h n y more d = elim (kept_cases y.keep y ts more d) [
  | inl e ↦ pattern_no_key (codes "KEEP") keep_free y.file ts e.0 us e.1 h
  | inr e ↦ (let f = behind (key Pattern (codes "KEEP")) (mark OpenParenthesis ▸ plain y ▸ mark CloseParenthesis)
      (key_fixed Pattern (codes "KEEP")) ts us more h e in n f.0 f.1)
]

pub kept_plain_none : (ts us vs : List Lexeme) → key Pattern (codes "KEEP") ts us → mark OpenParenthesis us vs
    → ((y : Input) (ws r : List Lexeme) → plain y vs ws → mark CloseParenthesis ws r → ⊥) → NoneAt input ts
kept_plain_none ts us vs h m n y more d = elim (kept_cases y.keep y ts more d) [
  | inl e ↦ pattern_no_key (codes "KEEP") keep_free y.file ts e.0 us e.1 h
  | inr e ↦
      let f = behind (key Pattern (codes "KEEP")) (mark OpenParenthesis ▸ plain y ▸ mark CloseParenthesis)
      (key_fixed Pattern (codes "KEEP")) ts us more h e in
      let g = behind (mark OpenParenthesis) (plain y ▸ mark CloseParenthesis)
      (mark_fixed OpenParenthesis) us vs more m f in
      n y g.0 more g.1 g.2
]

-- a read input statement under KEEP or not
pub kept_as : (k : Bool) (i : Input) (ts r : List Lexeme) → i.keep ≡ k → kept k (plain i) ts r → input i ts r
kept_as k i ts r e d = subst (λ b. kept b (plain i) ts r) (sym e) d

-- an input statement without KEEP
pub input_plain : {X E : Type 0} (ts : List Lexeme) → ((us : List Lexeme) → key Pattern (codes "KEEP") ts us → ⊥)
    → (tree : X → Input) (rest : X → List Lexeme) (r : Result (Option X) E)
    → Reads plain ts tree rest r → IfOk r (λ found. IfSome found (λ x. (tree x).keep ≡ false))
    → Reads input ts tree rest r
input_plain ts k tree rest (Ok (Some x)) d e =
    record { spells = kept_as false (tree x) ts (rest x) e d.spells; shorter = d.shorter }
input_plain ts k tree rest (Ok None) d e = not_kept_none ts k d
input_plain ts k tree rest (Err f) d e = tt
