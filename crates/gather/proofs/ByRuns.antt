-- The linked sections of an object by runs.
use Rattle.gather.proofs.Common.{AreBuckets, Facts, GatheredSection, Global, InTable, InputIndex, LinkedSection, List}
use Rattle.gather.proofs.Common.{NamedObject, ObjectPlace, Option, Project, TakenRun, Vec, [], ap, append-nil}
use Rattle.gather.proofs.Common.{append_assoc, arith, cases_eq, cond, drop, drop_all, drop_more, eq-eqb, eqb, facts}
use Rattle.gather.proofs.Common.{filter-append, first_match, flat_map-cons, gathered, gathered_by, get_or}
use Rattle.gather.proofs.Common.{get_or-set_other, get_or-set_same, get_or_default, length, length-set, linked_input}
use Rattle.gather.proofs.Common.{linked_piece, map, map-append, ne_eqb, numbers_in, numbers_of, of_statement, refl}
use Rattle.gather.proofs.Common.{replicate, replicate-append-replicate, section_of, set, shown_facts, subst, suc, sym}
use Rattle.gather.proofs.Common.{take, take_more, zero, ℕ, ⊎_elim, ◌++◌, ◌+◌, ◌<◌, ◌∙◌, ◌∷◌, ◌≡◌, ◌≤◌}
use Rattle.elfobj.specs.declared.section.Section.{Section}
use Rattle.ldmodel.specs.declared.rows.Piece as code
use Rattle.gather.specs.Matches.{matches_of, number_of}

-- ---- runs of statements

-- one section more in a run
pub run_longer : (before all : List (Option ℕ)) (c : ℕ) (n m : Option InputIndex) (next : List (Option ℕ)) → n ≡ m
    → next ≡ all ++ number_of m ∷ [] → before ++ replicate c (number_of n) ≡ all
    → before ++ replicate (c + 1) (number_of n) ≡ next
run_longer before all c n m next same more h =
    ap (λ l. before ++ l) (sym (replicate-append-replicate c 1 (number_of n)))
    ∙ (sym (append_assoc before (replicate c (number_of n)) (number_of n ∷ []))
    ∙ (ap (λ l. l ++ number_of n ∷ []) h ∙ (ap (λ o. all ++ number_of o ∷ []) same ∙ sym more)))

-- a new run
pub run_begun : (before all : List (Option ℕ)) (c : ℕ) (n m : Option InputIndex) (now next : List (Option ℕ))
    → now ≡ before ++ replicate c (number_of n) → next ≡ all ++ number_of m ∷ []
    → before ++ replicate c (number_of n) ≡ all → now ++ replicate 1 (number_of m) ≡ next
run_begun before all c n m now next pushed more h =
    ap (λ l. l ++ number_of m ∷ []) (pushed ∙ h) ∙ sym more

-- the numbers of one statement more
pub one_number_more : (ms : List (Option InputIndex)) (k : ℕ) (m : Option InputIndex) → k < length ms
    → m ≡ get_or ms k m → map number_of (take (k + 1) ms) ≡ map number_of (take k ms) ++ number_of m ∷ []
one_number_more ms k m low is =
    ap (map number_of) (take_more ms k m low ∙ ap (λ o. take k ms ++ o ∷ []) (sym is))
    ∙ map-append number_of (take k ms) (m ∷ [])

-- ---- the sections of the runs

-- what is known of linked section s, where a statement of this number takes it
abbrev with_number : ObjectPlace → LinkedSection → Option ℕ → Facts
with_number key s number = record {
  id = record { object = key.0; part = InTable s.number };
  kind = s.kind;
  flags = s.flags;
  size = s.size;
  alignment = s.alignment;
  statement = number;
}

module _ (p : Project) (key : ObjectPlace) (o : NamedObject) where
  abbrev wanted : List LinkedSection → List Facts
  wanted ss = map (facts p) (map (linked_input key.0 o) ss)

  none_wanted : (ss : List LinkedSection) → [] ≡ matches_of p.script o.name ss → [] ≡ wanted ss
  none_wanted [] h = refl
  none_wanted (s ∷ ss) h = absurd (cc)

  abbrev ShownAs : List TakenRun → List LinkedSection → Type 0
  ShownAs rs ss = map shown_facts (gathered_by key (map section_of ss) rs) ≡ wanted ss

  run_then : (n : Option InputIndex) (rs : List TakenRun)
      → ((ss : List LinkedSection) → numbers_of rs ≡ matches_of p.script o.name ss → ShownAs rs ss)
      → (c : ℕ) (ss : List LinkedSection)
      → replicate c (number_of n) ++ numbers_of rs ≡ matches_of p.script o.name ss
      → map shown_facts (map (gathered key n) (take c (map section_of ss))
      ++ gathered_by key (drop c (map section_of ss)) rs) ≡ wanted ss
  run_then n rs rest zero ss h = rest ss h
  run_then n rs rest (suc c) [] h = absurd (cc)
  run_then n rs rest (suc c) (s ∷ ss) h =
      let head : number_of n ≡ first_match p.script o.name s.name = cc in
      let tail : replicate c (number_of n) ++ numbers_of rs ≡ matches_of p.script o.name ss = cc in
      let later : List Facts =
      map shown_facts (map (gathered key n) (take c (map section_of ss))
      ++ gathered_by key (drop c (map section_of ss)) rs) in
      ap (λ m. with_number key s m ∷ later) head
      ∙ ap (λ l. facts p (linked_input key.0 o s) ∷ l) (run_then n rs rest c ss tail)

  -- the runs are those of the statements that take the sections
  pub gathered_are : (rs : List TakenRun) (ss : List LinkedSection) → numbers_of rs ≡ matches_of p.script o.name ss
      → ShownAs rs ss
  gathered_are [] ss h = none_wanted ss h
  gathered_are (r ∷ rs) ss h =
      run_then r.statement rs (gathered_are rs) r.count ss (sym (flat_map-cons numbers_in r rs) ∙ h)

-- the sections of one run, and then the rest
pub run_cut : (key : ObjectPlace) (ss own later : List Section) (rs : List TakenRun) (k : ℕ) (d : TakenRun) → k
    < length rs
    → own ≡ take (get_or rs k d).count ss → later ≡ drop (get_or rs k d).count ss
    → gathered_by key ss (drop k rs)
    ≡ map (gathered key (get_or rs k d).statement) own ++ gathered_by key later (drop (k + 1) rs)
run_cut key ss own later rs k d low front back =
    let r : TakenRun = get_or rs k d in
    ap (gathered_by key ss) (drop_more rs k d low)
    ∙ (ap (λ l. map (gathered key r.statement) l ++ gathered_by key (drop r.count ss) (drop (k + 1) rs)) (sym front)
    ∙ ap (λ l. map (gathered key r.statement) own ++ gathered_by key l (drop (k + 1) rs)) (sym back))

-- one run more is added
pub run_added : (now new run left left' all : List GatheredSection) → new ≡ now ++ run → left ≡ run ++ left'
    → now ++ left ≡ all → new ++ left' ≡ all
run_added now new run left left' all pushed cut h =
    ap (λ l. l ++ left') pushed ∙ (append_assoc now run left' ∙ (ap (λ l. now ++ l) (sym cut) ∙ h))

-- no run is left
pub none_left : (key : ObjectPlace) (ss : List Section) (rs : List TakenRun) (k : ℕ) (now all : List GatheredSection)
    → length rs ≤ k → now ++ gathered_by key ss (drop k rs) ≡ all → now ≡ all
none_left key ss rs k now all past h =
    sym (append-nil now) ∙ (ap (λ l. now ++ gathered_by key ss l) (sym (drop_all k rs past)) ∙ h)

-- ---- the pieces of a run

module _ (key : ObjectPlace) (n : InputIndex) where
  abbrev pieces : List Section → List code.Piece
  pieces ss = map (linked_piece key n) ss

  of_own : (ss : List Section) → of_statement (pieces ss) n.0 ≡ pieces ss
  of_own [] = refl
  of_own (s ∷ ss) =
      ap (λ b. cond b (linked_piece key n s ∷ of_statement (pieces ss) n.0) (of_statement (pieces ss) n.0))
      (eq-eqb n.0 n.0 refl)
      ∙ ap (λ l. linked_piece key n s ∷ l) (of_own ss)

  of_other : (k : ℕ) → (n.0 ≡ k → ⊥) → (ss : List Section) → of_statement (pieces ss) k ≡ []
  of_other k ne [] = refl
  of_other k ne (s ∷ ss) =
      ap (λ b. cond b (linked_piece key n s ∷ of_statement (pieces ss) k) (of_statement (pieces ss) k))
      (ne_eqb n.0 k ne)
      ∙ of_other k ne ss

  module _ (xs : List code.Piece) (ss : List Section) where
    own_more : of_statement (xs ++ pieces ss) n.0 ≡ of_statement xs n.0 ++ pieces ss
    own_more = filter-append (λ (x : code.Piece). eqb x.statement.0 n.0) xs (pieces ss)
        ∙ ap (λ l. of_statement xs n.0 ++ l) (of_own ss)

    other_more : (k : ℕ) → (n.0 ≡ k → ⊥) → of_statement (xs ++ pieces ss) k ≡ of_statement xs k
    other_more k ne = filter-append (λ (x : code.Piece). eqb x.statement.0 k) xs (pieces ss)
        ∙ (ap (λ l. of_statement xs k ++ l) (of_other k ne ss) ∙ append-nil (of_statement xs k))

    -- they come to the bucket of their statement
    pub bucket_longer : (old : List (Vec code.Piece Global)) (was now : Vec code.Piece Global) (count : ℕ)
        → n.0 < length old → was ≡ get_or old n.0 was → now.items ≡ was.items ++ pieces ss
        → AreBuckets xs count old → AreBuckets (xs ++ pieces ss) count (set old n.0 now)
    bucket_longer old was now count within is pushed h = record {
      long = length-set old n.0 now ∙ h.long;
      bucket = λ k d low. ⊎_elim
          (λ same. subst (λ j. (get_or (set old n.0 now) j d).items ≡ of_statement (xs ++ pieces ss) j) (sym same)
          (ap (λ (v : Vec code.Piece Global). v.items) (get_or-set_same old n.0 now d within)
          ∙ (pushed ∙ (ap (λ (v : Vec code.Piece Global). v.items ++ pieces ss)
          (is ∙ get_or_default old n.0 was d within)
          ∙ (ap (λ l. l ++ pieces ss) (h.bucket n.0 d (omega (arith, within, h.long))) ∙ sym own_more)))))
          (λ ne. ap (λ (v : Vec code.Piece Global). v.items) (get_or-set_other old n.0 k now d ne)
          ∙ (h.bucket k d low ∙ sym (other_more k (λ e. ne (sym e)))))
          (cases_eq k n.0);
    }

    -- there is no such bucket
    pub no_bucket : (old : List (Vec code.Piece Global)) (count : ℕ) → length old ≤ n.0
        → AreBuckets xs count old → AreBuckets (xs ++ pieces ss) count old
    no_bucket old count past h = record {
      long = h.long;
      bucket = λ k d low.
          h.bucket k d low ∙ sym (other_more k (λ e. absurd (omega (arith, e, past, low, h.long))));
    }
