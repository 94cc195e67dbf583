-- The first input statement that takes a section.
use Rattle.ldmodel_laws.proofs.Common.{Bool, Contains, InputStatementAt, List, MatchOption, None, Option, Some}
use Rattle.ldmodel_laws.proofs.Common.{Statement, [], and_from, and_parts, ap, arith, cond, false, false_from_ne_true}
use Rattle.ldmodel_laws.proofs.Common.{first_match, input_statements, is_match, length, list_any, not, not-true}
use Rattle.ldmodel_laws.proofs.Common.{not_from_false, position, position_from, refl, subst, sym, true, true≢false, ℕ}
use Rattle.ldmodel_laws.proofs.Common.{⊎_elim, ◌++◌, ◌+◌, ◌↔◌, ◌∙◌, ◌∷◌, ◌≡◌}
use Rattle.std.proofs.lemmas.Iterator.Adapters.{position_from-zero}
use Rattle.ldscript.specs.terms.Matching.{Matches}
use Rattle.ldscript.specs.terms.Parts as pattern
use Rattle.ldscript.specs.statements.declared.input.Input.{Input}
use Rattle.ldscript.specs.statements.declared.input.SectionWord.{SectionWord}
use Rattle.ldmodel.specs.FirstMatch.{is_any_match, word_takes, takes}
use Rattle.ldmodel_laws.specs.FirstMatches.{WordTakes, Takes, IsFirstMatch, IsUnmatched}
use Rattle.ldmodel_laws.proofs.Members.{Passes, none_in_nil, first_or_later, in_any, any_in}

-- the first member of which P holds, where those before it have the numbers from i on
record IsFirst {X : Type 0} (P : X → Type 0) (xs : List X) (i n : ℕ) : Type 0 where
  before : List X
  member : X
  after : List X
  place : xs ≡ before ++ member ∷ after
  number : n ≡ i + length before
  holds : P member
  earlier : (x : X) → Contains before x → P x → ⊥

abbrev HasNone : {X : Type 0} → (X → Type 0) → List X → Type 0
HasNone {X} P xs = (x : X) → Contains xs x → P x → ⊥

module _ {X : Type 0} (p : X → Bool) (P : X → Type 0) (decides : (x : X) → (p x ≡ true) ↔ P x) where
  not_held : (x : X) → p x ≡ false → P x → ⊥
  not_held x e h = true≢false (sym ((decides x).1 h) ∙ e)

  none_more : (y : X) (ys : List X) → p y ≡ false → HasNone P ys → HasNone P (y ∷ ys)
  none_more y ys e none x c h =
      ⊎_elim (λ same. not_held y e (subst P (sym same) h)) (λ rest. none x rest h) (first_or_later y ys x c)

  first_more : (y : X) (ys : List X) (i n : ℕ) → p y ≡ false → IsFirst P ys (i + 1) n → IsFirst P (y ∷ ys) i n
  first_more y ys i n e f = record {
    before = y ∷ f.before;
    member = f.member;
    after = f.after;
    place = ap (λ zs. y ∷ zs) f.place;
    number = omega (arith, f.number);
    holds = f.holds;
    earlier = none_more y f.before e f.earlier;
  }

  more : (y : X) (ys : List X) (i : ℕ) (o : Option ℕ) → p y ≡ false
      → MatchOption o (HasNone P ys) (IsFirst P ys (i + 1)) → MatchOption o (HasNone P (y ∷ ys)) (IsFirst P (y ∷ ys) i)
  more y ys i None e m = none_more y ys e m
  more y ys i (Some n) e m = first_more y ys i n e m

  first_from : (xs : List X) (i : ℕ) → MatchOption (position_from p i xs) (HasNone P xs) (IsFirst P xs i)
  first_from [] i = λ x c h. none_in_nil x c
  first_from (y ∷ ys) i = go (p y) refl (first_from ys (i + 1))
    where
      go : (b : Bool) → p y ≡ b → MatchOption (position_from p (i + 1) ys) (HasNone P ys) (IsFirst P ys (i + 1))
          → MatchOption (cond b (Some i) (position_from p (i + 1) ys)) (HasNone P (y ∷ ys)) (IsFirst P (y ∷ ys) i)
      go true e rest = record {
        before = [];
        member = y;
        after = ys;
        place = refl;
        number = omega arith;
        holds = (decides y).0 e;
        earlier = λ x c h. none_in_nil x c;
      }
      go false e rest = more y ys i (position_from p (i + 1) ys) e rest

  first_position : (xs : List X) → MatchOption (position p xs) (HasNone P xs) (IsFirst P xs 0)
  first_position xs = subst (λ o. MatchOption o (HasNone P xs) (IsFirst P xs 0)) (sym (position_from-zero p xs))
      (first_from xs 0)

abbrev pub MatchIsDecided : Type 0
MatchIsDecided = (pattern : List pattern.Part) (name : List ℕ) → (is_match pattern name ≡ true) ↔ Matches pattern name

module _ (decided : MatchIsDecided) (file section : List ℕ) where
  word_is_taken : (w : SectionWord) → word_takes file section w ≡ true → WordTakes file section w
  word_is_taken w h =
      let both = and_parts (is_match w.pattern section) (not (is_any_match w.excluded file)) h in
      record {
        matches = (decided w.pattern section).0 both.0;
        included = λ x c m. true≢false (sym (any_in (λ x. is_match x file) w.excluded x c ((decided x file).1 m))
            ∙ not-true (is_any_match w.excluded file) both.1);
      }

  none_excludes : (w : SectionWord) → WordTakes file section w → is_any_match w.excluded file ≡ false
  none_excludes w t = false_from_ne_true (is_any_match w.excluded file)
      (λ h. let x : Passes (λ x. is_match x file) w.excluded = in_any (λ x. is_match x file) w.excluded h in
      t.included x.member x.among ((decided x.member file).0 x.passes))

  taken_word_is : (w : SectionWord) → WordTakes file section w → word_takes file section w ≡ true
  taken_word_is w t = and_from (is_match w.pattern section) (not (is_any_match w.excluded file))
      ((decided w.pattern section).1 t.matches) (not_from_false (is_any_match w.excluded file) (none_excludes w t))

  is_taken : (i : Input) → takes file section i ≡ true → Takes file section i
  is_taken i h =
      let both = and_parts (is_match i.file file) (list_any (word_takes file section) i.sections) h in
      let w : Passes (word_takes file section) i.sections = in_any (word_takes file section) i.sections both.1 in
      record {
        of_file = (decided i.file file).0 both.0;
        word = (w.among.0, w.member, w.among.1, w.among.2, word_is_taken w.member w.passes);
      }

  taken_is : (i : Input) → Takes file section i → takes file section i ≡ true
  taken_is i t = and_from (is_match i.file file) (list_any (word_takes file section) i.sections)
      ((decided i.file file).1 t.of_file)
      (any_in (word_takes file section) i.sections t.word.1 (t.word.0, t.word.2, t.word.3)
      (taken_word_is t.word.1 t.word.4))

  abbrev takes_at : InputStatementAt → Bool
  takes_at i = takes file section i.input

  abbrev TakesAt : InputStatementAt → Type 0
  TakesAt i = Takes file section i.input

  is_first : (script : List Statement) (n : ℕ) → IsFirst TakesAt (input_statements script) 0 n
      → IsFirstMatch script file section n
  is_first script n f = record {
    before = f.before;
    statement = f.member;
    after = f.after;
    place = f.place;
    number = omega (arith, f.number);
    takes = f.holds;
    earlier = f.earlier;
  }

  as_first : (script : List Statement) (o : Option ℕ)
      → MatchOption o (HasNone TakesAt (input_statements script)) (IsFirst TakesAt (input_statements script) 0)
      → MatchOption o (IsUnmatched script file section) (IsFirstMatch script file section)
  as_first script None m = m
  as_first script (Some n) m = is_first script n m

  pub first_match_is : (script : List Statement)
      → MatchOption (first_match script file section) (IsUnmatched script file section)
      (IsFirstMatch script file section)
  unfolding first_match
  first_match_is script =
      as_first script (position takes_at (input_statements script))
      (first_position takes_at TakesAt (λ i. (is_taken i.input, taken_is i.input)) (input_statements script))
