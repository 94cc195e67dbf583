-- Sections of which nothing is collected, taken one after the other.
use Rattle.gather.proofs.Common.{AreBlocksOf, AreBuckets, AreGathered, Bool, CommonBlock, Facts, GatheredSection}
use Rattle.gather.proofs.Common.{InputIndex, InputStatementAt, IsAscending, IsMatched, IsTaken, List, Matches}
use Rattle.gather.proofs.Common.{NamedObject, None, ObjectPlace, Option, Orphans, Project, Some, TakenRun, Takes}
use Rattle.gather.proofs.Common.{TakesFacts, [], ap, append-nil, append_assoc, arith, block_facts, cond, cons_option}
use Rattle.gather.proofs.Common.{drop, drop_more, facts, false, filter, filter-append, filter_map, filter_map-append}
use Rattle.gather.proofs.Common.{gathered, gathered_by, get_or, input_sections, input_statements, is_discarded}
use Rattle.gather.proofs.Common.{is_out_by, is_out_of, kept_of, length, linked_piece, live, map, map-append, marked}
use Rattle.gather.proofs.Common.{not, object_inputs, option_map, own_piece, refl, section_of, shown_facts, slice_get}
use Rattle.gather.proofs.Common.{subst, sym, take, take_more, true, untaken, ℕ, ◌++◌, ◌+◌, ◌<◌, ◌∙◌, ◌∷◌, ◌≡◌, ◌≤◌}
use Rattle.ldmodel.specs.Gathering.{is_discard}
use Rattle.ldmodel.specs.declared.rows.Piece as code
use Rattle.elfobj.specs.declared.section.Section.{Section}
use Rattle.gather.specs.GatheredSections.{as_piece, untaken_by_none}
use Rattle.gather.specs.LeftOut.{is_placed_by, is_placed_in}
use Rattle.gather.specs.Matches.{number_of}
use Rattle.gather.specs.declared.taking.Taken.{Taken}
use Rattle.gather.proofs.GatheredLists.{out_are}
use Rattle.gather.proofs.LivePaths.{kept_are}
use Rattle.gather.proofs.ObjectFacts.{object_added}
use Rattle.gather.proofs.ByRuns.{none_left, run_added, run_cut}
use Rattle.gather.proofs.Preparing.{GatheredBefore, more_gathered}

module _ (st : List InputStatementAt) (or : Orphans) where
  abbrev is_out : GatheredSection → Bool
  is_out x = is_out_of st or x.size (number_of x.statement)

  -- one more
  kept_more : (xs : List GatheredSection) (x : GatheredSection) (b : Bool) → is_out x ≡ b
      → kept_of st or (xs ++ x ∷ []) ≡ kept_of st or xs ++ cond (not b) (x ∷ []) []
  kept_more xs x b e =
      filter-append (λ (x : GatheredSection). not (is_out x)) xs (x ∷ [])
      ∙ ap (λ b. kept_of st or xs ++ cond (not b) (x ∷ []) []) e

  -- a section that is left out
  pub out_taken : (t : Taken) (x : GatheredSection) → is_out x ≡ true → Takes st or t t (x ∷ [])
  out_taken t x out = λ count xs h.
      let same : kept_of st or (xs ++ x ∷ []) ≡ kept_of st or xs =
      kept_more xs x true out ∙ append-nil (kept_of st or xs) in
      record {
        buckets = subst (λ l. AreBuckets (filter_map own_piece l) count t.buckets.items) (sym same) h.buckets;
        orphans = h.orphans ∙ ap (filter_map untaken) (sym same);
      }

  module _ (old new : Taken) (x : GatheredSection) (kept : is_out x ≡ false) where
    own_more : (xs : List GatheredSection) (o : Option code.Piece) → own_piece x ≡ o
        → filter_map own_piece (kept_of st or (xs ++ x ∷ []))
        ≡ filter_map own_piece (kept_of st or xs) ++ cons_option o []
    own_more xs o e =
        ap (filter_map own_piece) (kept_more xs x false kept)
        ∙ filter_map-append own_piece (kept_of st or xs) (x ∷ [])
        ∙ ap (λ o. filter_map own_piece (kept_of st or xs) ++ cons_option o []) e

    untaken_more : (xs : List GatheredSection) (o : Option InputIndex) → x.statement ≡ o
        → filter_map untaken (kept_of st or (xs ++ x ∷ []))
        ≡ filter_map untaken (kept_of st or xs) ++ cons_option (untaken_by_none x.section o) []
    untaken_more xs o e =
        ap (filter_map untaken) (kept_more xs x false kept)
        ∙ filter_map-append untaken (kept_of st or xs) (x ∷ [])
        ∙ ap (λ o. filter_map untaken (kept_of st or xs) ++ cons_option (untaken_by_none x.section o) []) e

    -- one that a statement takes
    pub piece_taken : (n : InputIndex) → x.statement ≡ Some n
        → ((xs : List code.Piece) (count : ℕ) → AreBuckets xs count old.buckets.items
        → AreBuckets (xs ++ as_piece x n ∷ []) count new.buckets.items)
        → new.orphans ≡ old.orphans → Takes st or old new (x ∷ [])
    piece_taken n is added same = λ count xs h. record {
      buckets = subst (λ l. AreBuckets l count new.buckets.items)
          (sym (own_more xs (Some (as_piece x n)) (ap (option_map (as_piece x)) is)))
          (added (filter_map own_piece (kept_of st or xs)) count h.buckets);
      orphans = ap (λ v. v.items) same ∙ h.orphans
          ∙ sym (untaken_more xs (Some n) is ∙ append-nil (filter_map untaken (kept_of st or xs)));
    }

    -- one that no statement takes
    pub orphan_taken : x.statement ≡ None → new.buckets ≡ old.buckets
        → new.orphans.items ≡ old.orphans.items ++ x.section ∷ [] → Takes st or old new (x ∷ [])
    orphan_taken none same added = λ count xs h. record {
      buckets = subst (λ v. AreBuckets (filter_map own_piece (kept_of st or (xs ++ x ∷ []))) count v.items) (sym same)
          (subst (λ l. AreBuckets l count old.buckets.items)
          (sym (own_more xs None (ap (option_map (as_piece x)) none)
          ∙ append-nil (filter_map own_piece (kept_of st or xs)))) h.buckets);
      orphans = added ∙ ap (λ l. l ++ x.section ∷ []) h.orphans ∙ sym (untaken_more xs None none);
    }

  -- ---- several

  -- some sections are taken, of which these are the facts with those that are left
  pub record TakesSome (old new : Taken) (left all : List Facts) : Type 0 where
    pub sections : List GatheredSection
    pub takes : Takes st or old new sections
    pub rest : map shown_facts sections ++ left ≡ all

  pub nothing_taken : (t : Taken) (all : List Facts) → TakesSome t t all all
  nothing_taken t all = record {
    sections = [];
    takes = λ count xs h. subst (λ l. IsTaken st or count l t) (sym (append-nil xs)) h;
    rest = refl;
  }

  pub both_taken : (a b c : Taken) (xs ys : List GatheredSection) → Takes st or a b xs → Takes st or b c ys
      → Takes st or a c (xs ++ ys)
  both_taken a b c xs ys first second = λ count before h.
      subst (λ l. IsTaken st or count l c) (append_assoc before xs ys)
      (second count (before ++ xs) (first count before h))

  pub all_taken : (old new : Taken) (left all : List Facts) → left ≡ [] → TakesSome old new left all
      → TakesFacts st or old new all
  all_taken old new left all none h = record {
    sections = h.sections;
    facts = sym (append-nil (map shown_facts h.sections))
        ∙ ap (λ l. map shown_facts h.sections ++ l) (sym none) ∙ h.rest;
    takes = h.takes;
  }

  -- one more block
  pub block_taken : (f : CommonBlock → Facts) (bs : List CommonBlock) (old now new : Taken) (x : GatheredSection)
      (k : ℕ) (d : CommonBlock) (all : List Facts) → k < length bs → shown_facts x ≡ f (get_or bs k d)
      → Takes st or now new (x ∷ []) → TakesSome old now (map f (drop k bs)) all
      → TakesSome old new (map f (drop (k + 1) bs)) all
  block_taken f bs old now new x k d all low is one h = record {
    sections = h.sections ++ x ∷ [];
    takes = both_taken old now new h.sections (x ∷ []) h.takes one;
    rest = ap (λ l. l ++ map f (drop (k + 1) bs)) (map-append shown_facts h.sections (x ∷ []))
        ∙ append_assoc (map shown_facts h.sections) (shown_facts x ∷ []) (map f (drop (k + 1) bs))
        ∙ ap (λ l. map shown_facts h.sections ++ l)
        (ap (λ y. y ∷ map f (drop (k + 1) bs)) is ∙ sym (ap (map f) (drop_more bs k d low)))
        ∙ h.rest;
  }

  -- ---- runs

  -- some sections are taken, with those that are left
  pub record TakesPart (old new : Taken) (left all : List GatheredSection) : Type 0 where
    pub sections : List GatheredSection
    pub takes : Takes st or old new sections
    pub rest : sections ++ left ≡ all

  pub no_part : (t : Taken) (all : List GatheredSection) → TakesPart t t all all
  no_part t all = record {
    sections = [];
    takes = λ count xs h. subst (λ l. IsTaken st or count l t) (sym (append-nil xs)) h;
    rest = refl;
  }

  -- one more section of a run
  pub one_taken : (f : Section → GatheredSection) (ss : List Section) (old now new : Taken) (k : ℕ) (d : Section)
      (x : GatheredSection) → k < length ss → x ≡ f (get_or ss k d) → Takes st or now new (x ∷ [])
      → Takes st or old now (map f (take k ss)) → Takes st or old new (map f (take (k + 1) ss))
  one_taken f ss old now new k d x low is one h =
      subst (λ l. Takes st or old new l)
      (ap (λ y. map f (take k ss) ++ y ∷ []) is
      ∙ sym (ap (map f) (take_more ss k d low) ∙ map-append f (take k ss) (get_or ss k d ∷ [])))
      (both_taken old now new (map f (take k ss)) (x ∷ []) h one)

  -- a run of sections of one statement
  module _ (key : ObjectPlace) (n : InputIndex) (at : is_placed_in st n.0 ≡ true) where
    abbrev run : List Section → List GatheredSection
    run ss = map (gathered key (Some n)) ss

    kept_with : (s : Section) → is_out (gathered key (Some n) s) ≡ false
    kept_with s = go (slice_get st n.0) at
      where
        not_out : (b : Bool) → not b ≡ true → b ≡ false
        not_out false e = refl
        not_out true e = absurd (cc)

        go : (o : Option InputStatementAt) → is_placed_by o ≡ true → is_out_by or s.size o ≡ false
        go None e = absurd (cc)
        go (Some i) e = not_out (is_discard i.place) e

    all_kept : (ss : List Section) → kept_of st or (run ss) ≡ run ss
    all_kept [] = refl
    all_kept (s ∷ ss) =
        ap (λ b. cond (not b) (gathered key (Some n) s ∷ kept_of st or (run ss)) (kept_of st or (run ss)))
        (kept_with s)
        ∙ ap (λ l. gathered key (Some n) s ∷ l) (all_kept ss)

    own_pieces : (ss : List Section) → filter_map own_piece (run ss) ≡ map (linked_piece key n) ss
    own_pieces [] = refl
    own_pieces (s ∷ ss) = ap (λ l. linked_piece key n s ∷ l) (own_pieces ss)

    none_untaken : (ss : List Section) → filter_map untaken (run ss) ≡ []
    none_untaken [] = refl
    none_untaken (s ∷ ss) = none_untaken ss

    -- it comes to the bucket of the statement
    pub run_taken : (old new : Taken) (ss : List Section)
        → ((xs : List code.Piece) (count : ℕ) → AreBuckets xs count old.buckets.items
        → AreBuckets (xs ++ map (linked_piece key n) ss) count new.buckets.items)
        → new.orphans ≡ old.orphans → Takes st or old new (run ss)
    run_taken old new ss added same = λ count xs h.
        let more : kept_of st or (xs ++ run ss) ≡ kept_of st or xs ++ run ss =
        filter-append (λ (x : GatheredSection). not (is_out x)) xs (run ss)
        ∙ ap (λ l. kept_of st or xs ++ l) (all_kept ss) in
        let own : filter_map own_piece (kept_of st or (xs ++ run ss))
        ≡ filter_map own_piece (kept_of st or xs) ++ map (linked_piece key n) ss =
        ap (filter_map own_piece) more
        ∙ (filter_map-append own_piece (kept_of st or xs) (run ss)
        ∙ ap (λ l. filter_map own_piece (kept_of st or xs) ++ l) (own_pieces ss)) in
        let none : filter_map untaken (kept_of st or (xs ++ run ss)) ≡ filter_map untaken (kept_of st or xs) =
        ap (filter_map untaken) more
        ∙ (filter_map-append untaken (kept_of st or xs) (run ss)
        ∙ (ap (λ l. filter_map untaken (kept_of st or xs) ++ l) (none_untaken ss)
        ∙ append-nil (filter_map untaken (kept_of st or xs)))) in
        record {
          buckets = subst (λ l. AreBuckets l count new.buckets.items) (sym own)
              (added (filter_map own_piece (kept_of st or xs)) count h.buckets);
          orphans = ap (λ v. v.items) same ∙ (h.orphans ∙ sym none);
        }

  -- one run more
  pub part_taken : (key : ObjectPlace) (ss own later : List Section) (rs : List TakenRun) (k : ℕ) (d : TakenRun)
      (old now new : Taken) (all : List GatheredSection) → k < length rs
      → own ≡ take (get_or rs k d).count ss → later ≡ drop (get_or rs k d).count ss
      → Takes st or now new (map (gathered key (get_or rs k d).statement) own)
      → TakesPart old now (gathered_by key ss (drop k rs)) all
      → TakesPart old new (gathered_by key later (drop (k + 1) rs)) all
  part_taken key ss own later rs k d old now new all low front back one h =
      let these = map (gathered key (get_or rs k d).statement) own in
      record {
        sections = h.sections ++ these;
        takes = both_taken old now new h.sections these h.takes one;
        rest = run_added h.sections (h.sections ++ these) these (gathered_by key ss (drop k rs))
            (gathered_by key later (drop (k + 1) rs)) all refl (run_cut key ss own later rs k d low front back) h.rest;
      }

  pub whole_taken : (key : ObjectPlace) (ss : List Section) (rs : List TakenRun) (k : ℕ) (old now : Taken)
      (all : List GatheredSection) → length rs ≤ k → TakesPart old now (gathered_by key ss (drop k rs)) all
      → Takes st or old now all
  whole_taken key ss rs k old now all past h =
      subst (λ l. Takes st or old now l) (none_left key ss rs k h.sections all past h.rest) h.takes

  -- the linked sections of an object and then its blocks
  pub object_taken : (p : Project) (key : ObjectPlace) (o : NamedObject) (m : Matches) (bs : List CommonBlock)
      (a b c : Taken) → IsMatched p.script o m → AreBlocksOf p key.0 o bs
      → Takes st or a b (gathered_by key (map section_of o.object.sections) m.linked.items)
      → TakesFacts st or b c (map (block_facts key.0 (number_of m.common)) bs)
      → TakesFacts st or a c (map (facts p) (object_inputs p key.0 o))
  object_taken p key o m bs a b c matched own linked blocks =
      let these = gathered_by key (map section_of o.object.sections) m.linked.items in
      record {
        sections = these ++ blocks.sections;
        facts = object_added p key o m bs [] these (these ++ blocks.sections) matched own refl
            (map-append shown_facts these blocks.sections
            ∙ ap (λ l. map shown_facts these ++ l) blocks.facts);
        takes = both_taken a b c these blocks.sections linked blocks.takes;
      }

-- ---- the project

-- no object yet
pub before_objects : (p : Project) → GatheredBefore p 0 []
before_objects p = record { are = refl; ascending = λ k d low. absurd (omega (arith, low)) }

-- one more object
pub after_object : (p : Project) (n : ℕ) (o : NamedObject) (xs ys : List GatheredSection)
    → slice_get p.objects n ≡ Some o → map shown_facts ys ≡ map (facts p) (object_inputs p n o) → IsAscending o
    → GatheredBefore p n xs → GatheredBefore p (n + 1) (xs ++ ys)
after_object p n o xs ys at facts up h =
    more_gathered p n o xs (xs ++ ys) at
    (map-append shown_facts xs ys ∙ ap (λ l. map shown_facts xs ++ l) facts) up h

-- marks of the sections that are kept
pub record KeptMarks (p : Project) (xs : List GatheredSection) : Type 0 where
  pub marks : List Bool
  pub kept : marked marks xs ≡ kept_of (input_statements p.script) p.options.orphans xs
  pub are_live : marked marks (input_sections p) ≡ live p

pub kept_marks : (p : Project) (xs : List GatheredSection) → AreGathered p xs
    → live p ≡ filter (λ s. not (is_discarded p s)) (input_sections p) → KeptMarks p xs
kept_marks p xs a lives = record {
  marks = map not (map test xs);
  kept = kept_are test xs;
  are_live = ap (λ l. marked (map not l) (input_sections p)) (out_are p xs a)
      ∙ kept_are (is_discarded p) (input_sections p) ∙ sym lives;
}
  where
    test : GatheredSection → Bool
    test x = is_out_of (input_statements p.script) p.options.orphans x.size (number_of x.statement)
