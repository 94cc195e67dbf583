-- The words of a statement among those of a script: all of them are for one file, or all are for more.
use Rattle.gather.proofs.Common.{AddsOf, AddsOwn, AddsWords, BTreeMap, Bool, Bor, FileTables, Input, List, None}
use Rattle.gather.proofs.Common.{SectionWord, Some, WordAt, WordTable, [], ap, append-nil, bytes_eq, cond, exact_name}
use Rattle.gather.proofs.Common.{false, filter, get_by, is_for, is_for_more, is_named, is_none, is_wild, nat_cmp}
use Rattle.gather.proofs.Common.{option_map_or, own_listed, own_wild, refl, shown_listed, shown_words, slice_cmp, subst}
use Rattle.gather.proofs.Common.{sym, true, words_of, ℕ, ◌++◌, ◌∙◌, ◌∷◌, ◌≡◌}

-- a test of the statement alone
of_statement : (p : WordAt → Bool) (b : Bool) (n : ℕ) (i : Input) (ws : List SectionWord)
    → ((w : SectionWord) → p (record { statement = n; input = i; word = w }) ≡ b)
    → filter p (words_of n i ws) ≡ cond b (words_of n i ws) []
of_statement p true n i [] all = refl
of_statement p false n i [] all = refl
of_statement p true n i (w ∷ ws) all =
    ap (λ b. cond b (record { statement = n; input = i; word = w } ∷ filter p (words_of n i ws))
    (filter p (words_of n i ws))) (all w)
    ∙ ap (λ (l : List WordAt). record { statement = n; input = i; word = w } ∷ l) (of_statement p true n i ws all)
of_statement p false n i (w ∷ ws) all =
    ap (λ b. cond b (record { statement = n; input = i; word = w } ∷ filter p (words_of n i ws))
    (filter p (words_of n i ws))) (all w)
    ∙ of_statement p false n i ws all

-- what is added if it is so
if_so : {X : Type 0} (p : X → Bool) (b : Bool) (old ws : List X) → cond b (old ++ filter p ws) old
    ≡ old ++ filter p (cond b ws [])
if_so p true old ws = refl
if_so p false old ws = sym (append-nil old)

module _ (old new : FileTables) (n : ℕ) (i : Input) where
  abbrev words : List WordAt
  words = words_of n i i.sections

  -- of a statement for one file
  pub adds_own : (file : List ℕ) → exact_name i.file ≡ Some file → AddsOwn old new file words
      → new.others ≡ old.others → AddsOf old new words
  adds_own file exact own same = record {
    named = λ q name. own.named q name ∙ if_so (is_named name) (bytes_eq file q) (own_listed old q name) words
        ∙ ap (λ l. own_listed old q name ++ filter (is_named name) l) (sym (its q));
    wild = λ q. own.wild q ∙ if_so is_wild (bytes_eq file q) (own_wild old q) words
        ∙ ap (λ l. own_wild old q ++ filter is_wild l) (sym (its q));
    others = record {
      named = λ name. ap (λ t. shown_listed t name) same ∙ sym (append-nil (shown_listed old.others name))
          ∙ ap (λ l. shown_listed old.others name ++ filter (is_named name) l) (sym none);
      wild = ap (λ t. shown_words t.wild.items) same ∙ sym (append-nil (shown_words old.others.wild.items))
          ∙ ap (λ l. shown_words old.others.wild.items ++ filter is_wild l) (sym none);
    };
  }
    where
      its : (q : List ℕ) → filter (is_for q) words ≡ cond (bytes_eq file q) words []
      its q = of_statement (is_for q) (bytes_eq file q) n i i.sections
          (λ w. ap (λ o. option_map_or (λ own. bytes_eq own q) o false) exact)

      none : filter is_for_more words ≡ []
      none = of_statement is_for_more false n i i.sections (λ w. ap (λ o. is_none o) exact)

  -- of a statement for more
  pub adds_more : exact_name i.file ≡ None → new.own ≡ old.own → AddsWords old.others new.others words
      → AddsOf old new words
  adds_more exact same more = record {
    named = λ q name. ap (λ (m : BTreeMap (Bor (List ℕ)) WordTable). option_map_or (λ (own : WordTable).
        shown_listed own name) (get_by (λ (k : Bor (List ℕ)). slice_cmp nat_cmp q k.now) m) []) same
        ∙ sym (append-nil (own_listed old q name))
        ∙ ap (λ l. own_listed old q name ++ filter (is_named name) l) (sym (none q));
    wild = λ q. ap (λ (m : BTreeMap (Bor (List ℕ)) WordTable). option_map_or (λ (own : WordTable).
        shown_words own.wild.items) (get_by (λ (k : Bor (List ℕ)). slice_cmp nat_cmp q k.now) m) []) same
        ∙ sym (append-nil (own_wild old q))
        ∙ ap (λ l. own_wild old q ++ filter is_wild l) (sym (none q));
    others = subst (AddsWords old.others new.others) (sym all) more;
  }
    where
      none : (q : List ℕ) → filter (is_for q) words ≡ []
      none q = of_statement (is_for q) false n i i.sections
          (λ w. ap (λ o. option_map_or (λ own. bytes_eq own q) o false) exact)

      all : filter is_for_more words ≡ words
      all = of_statement is_for_more true n i i.sections (λ w. ap (λ o. is_none o) exact)
