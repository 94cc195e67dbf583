-- The entries of rows, and how many are placed anew.
use Rattle.place_sections.proofs.Common.{Adds, CountsAlong, Err, IfNone, IfSome, Input, KeyedSection, LayoutCursor}
use Rattle.place_sections.proofs.Common.{LayoutStop, List, None, Ok, OnOk, Option, PlacesAnew, Result, Resumes, Some}
use Rattle.place_sections.proofs.Common.{[], ap, arith, counts_in, drop, drop-append-le, drop_all, entries, first_of}
use Rattle.place_sections.proofs.Common.{get_or, left_after, length, length-map, map, map-append, max, placed_from}
use Rattle.place_sections.proofs.Common.{refl, suc, sum_by, sum_by-append, sum_by-cons, zero, ℕ, ◌++◌, ◌+◌, ◌<◌, ◌∙◌}
use Rattle.place_sections.proofs.Common.{◌∷◌, ◌≡◌, ◌≤◌}
use Rattle.elfobj.specs.Counts.{Counts, capped}
use Rattle.elfobj.specs.Raised.{raised}
use Rattle.elfobj.specs.declared.meter.Count.TheVariants as count
use Rattle.ldmodel.specs.declared.rows.Piece.{Piece}
use Rattle.place_sections.specs.declared.resume_point.ResumePoint.{ResumePoint}

pub entries_more : (k : ℕ) (rows : List (List Piece)) → entries k rows
    ≡ length (get_or rows k []) + entries (k + 1) rows
entries_more k [] = refl
entries_more zero (row ∷ rows) = refl
entries_more (suc k) (row ∷ rows) = let h = entries_more k rows in let e : suc k + 1 ≡ suc (k + 1) = omega arith in
    rw e h

-- one more output section, whose input sections were placed anew
placed_resumes : {T : Type 0} (r : Result T LayoutStop) (i : Input) (old new : LayoutCursor)
    (before after : List KeyedSection)
    (row : List Piece)
    → OnOk r (length after ≡ length before + 1) → new.anew ≤ old.anew + length row
    → row ≡ get_or (map (λ v. v.items) i.rows.now) (length before) []
    → i.kept.first ≤ length before → OnOk r (Resumes i old new before after)
unfolding left_after
placed_resumes (Err e) i old new before after row one few same past = tt
placed_resumes (Ok u) i old new before after row one few same past =
    let rows : List (List Piece) = map (λ v. v.items) i.rows.now in
    let a : max i.kept.first (length before) ≡ length before = omega (arith, past) in
    let b : max i.kept.first (length after) ≡ length before + 1 = omega (arith, past, one) in
    let here : entries (max i.kept.first (length before)) rows ≡ entries (length before) rows =
    ap (λ k. entries k rows) a in
    let later : entries (max i.kept.first (length after)) rows ≡ entries (length before + 1) rows =
    ap (λ k. entries k rows) b in
    let more = entries_more (length before) rows in
    let long : length row ≡ length (get_or rows (length before) []) = ap length same in
    omega (arith, here, later, more, few, long)

-- one more, whose input sections stay where they were
kept_resumes : {T : Type 0} (r : Result T LayoutStop) (i : Input) (old new : LayoutCursor)
    (before after : List KeyedSection)
    → OnOk r (length after ≡ length before + 1) → new.anew ≡ old.anew → length before < i.kept.first
    → OnOk r (Resumes i old new before after)
unfolding left_after
kept_resumes (Err e) i old new before after one none first = tt
kept_resumes (Ok u) i old new before after one none first =
    let rows : List (List Piece) = map (λ v. v.items) i.rows.now in
    let a : max i.kept.first (length before) ≡ i.kept.first = omega (arith, first) in
    let b : max i.kept.first (length after) ≡ i.kept.first = omega (arith, first, one) in
    let here : entries (max i.kept.first (length before)) rows ≡ entries i.kept.first rows = ap
    (λ k. entries k rows) a in
    let later : entries (max i.kept.first (length after)) rows ≡ entries i.kept.first rows = ap
    (λ k. entries k rows) b in
    omega (arith, here, later, none)

-- one more, whichever of both
pub section_resumes : {T K : Type 0} (starts : Option K) (r : Result T LayoutStop) (i : Input) (old new : LayoutCursor)
    (before after : List KeyedSection) (row : List Piece)
    → OnOk r (length after ≡ length before + 1) → new.anew ≤ old.anew + length row
    → row ≡ get_or (map (λ v. v.items) i.rows.now) (length before) []
    → IfSome starts (λ k. new.anew ≡ old.anew) → IfSome starts (λ k. length before < i.kept.first)
    → IfNone starts (i.kept.first ≤ length before) → OnOk r (Resumes i old new before after)
section_resumes (Some k) r i old new before after row one few same none first past =
    kept_resumes r i old new before after one none first
section_resumes None r i old new before after row one few same none first past =
    placed_resumes r i old new before after row one few same past

-- no more entries are left further on
pub entries_fewer : (k : ℕ) (rows : List (List Piece)) → entries k rows ≤ entries 0 rows
entries_fewer k [] = omega arith
entries_fewer zero (row ∷ rows) = omega arith
entries_fewer (suc k) (row ∷ rows) = let h = entries_fewer k rows in omega (arith, h)

-- what is left after no more output sections than are taken over, and after all
pub left_at_first : (i : Input) (sections : List KeyedSection) → length sections ≤ i.kept.first
    → left_after i sections ≡ entries i.kept.first (map (λ v. v.items) i.rows.now)
unfolding left_after
left_at_first i sections few =
    let m : max i.kept.first (length sections) ≡ i.kept.first = omega (arith, few) in
    ap (λ k. entries k (map (λ v. v.items) i.rows.now)) m

-- ---- counts that go along

pub along_on : (x y z m n k : ℕ) → CountsAlong x y m n → CountsAlong y z n k → CountsAlong x z m k
along_on x y z m n k h g = record {
  more = omega (arith, h.more, g.more);
  least = omega (arith, h.more, h.least, g.more, g.least);
  most = omega (arith, h.most, g.most);
}

pub along_none : {K : Type 0} (starts : Option K) (x y z m n k : ℕ) → IfNone starts (CountsAlong x y m n)
    → IfNone starts (CountsAlong y z n k) → IfNone starts (CountsAlong x z m k)
along_none None x y z m n k h g = along_on x y z m n k h g
along_none (Some s) x y z m n k h g = tt

-- none so far
along_still : (x n : ℕ) → CountsAlong x x n n
along_still x n = record { more = omega arith; least = omega arith; most = omega arith }

abbrev own : ℕ → ℕ
own n = n

-- up to the first output section that is not taken over none is placed anew
pub none_placed : (k : ℕ) (xs : List KeyedSection) → length xs ≤ k → placed_from k (counts_in xs) ≡ 0
none_placed k xs few =
    ap (sum_by own) (drop_all k (counts_in xs)
    (omega (arith, few, length-map xs (λ (x : KeyedSection). length x.pieces))))

-- from there on those of each more
placed_more : (k : ℕ) (xs : List KeyedSection) (x : KeyedSection) → k ≤ length xs
    → placed_from k (counts_in (xs ++ x ∷ [])) ≡ placed_from k (counts_in xs) + length x.pieces
placed_more k xs x past =
    ap (λ (l : List ℕ). sum_by own (drop k l)) (map-append (λ (y : KeyedSection). length y.pieces) xs (x ∷ []))
    ∙ ap (sum_by own) (drop-append-le k (counts_in xs) (length x.pieces ∷ [])
    (omega (arith, past, length-map xs (λ (y : KeyedSection). length y.pieces))))
    ∙ sum_by-append own (drop k (counts_in xs)) (length x.pieces ∷ [])
    ∙ (let last = sum_by-cons own (length x.pieces) [] in
    let one : placed_from k (counts_in xs) + sum_by own (length x.pieces ∷ [])
    ≡ placed_from k (counts_in xs) + length x.pieces = omega (arith, last) in one)

-- one more output section
pub section_adds : {T K : Type 0} (starts : Option K) (r : Result T LayoutStop) (i : Input) (old new : LayoutCursor)
    (before after : List KeyedSection) → OnOk r (IfNone starts (PlacesAnew old new before after))
    → OnOk r (length after ≡ length before + 1) → IfSome starts (λ k. new.anew ≡ old.anew)
    → IfSome starts (λ k. length before < i.kept.first) → IfNone starts (i.kept.first ≤ length before)
    → OnOk r (Adds i old new before after)
section_adds starts (Err e) i old new before after anew one none first past = tt
section_adds (Some k) (Ok u) i old new before after anew one none first past =
    let here = none_placed i.kept.first before (omega (arith, first)) in
    let later = none_placed i.kept.first after (omega (arith, first, one)) in
    record {
      more = omega (arith, here, later);
      least = omega (arith, here, later, none);
      most = omega (arith, here, later, none);
    }
section_adds None (Ok u) i old new before after anew one none first past =
    let more = ap (λ (l : List KeyedSection). placed_from i.kept.first (counts_in l)) anew.pushed
    ∙ placed_more i.kept.first before anew.section past in
    record {
      more = omega (arith, more);
      least = omega (arith, more, anew.counted.least);
      most = omega (arith, more, anew.counted.most);
    }

-- the body of an output section, from its beginning
pub begun_anew : {K : Type 0} (starts : Option K) (x y z n k : ℕ) → y ≡ x → n ≡ 0
    → IfNone starts (CountsAlong y z n k) → IfNone starts (CountsAlong x z 0 k)
begun_anew None x y z n k e none h = record {
  more = omega arith;
  least = omega (arith, e, none, h.least);
  most = omega (arith, e, none, h.most);
}
begun_anew (Some s) x y z n k e none h = tt

-- and its end
pub ended_anew : {K : Type 0} (starts : Option K) (old new : LayoutCursor) (y n : ℕ) (before after : List KeyedSection)
    → IfNone starts (CountsAlong old.anew y 0 n) → new.anew ≡ y
    → ((section : KeyedSection) × (after ≡ before ++ section ∷ []) × (length section.pieces ≡ n))
    → IfNone starts (PlacesAnew old new before after)
ended_anew None old new y n before after h e pushed = record {
  section = pushed.0;
  pushed = pushed.1;
  counted = record {
    more = omega arith;
    least = omega (arith, e, pushed.2, h.least);
    most = omega (arith, e, pushed.2, h.most);
  };
}
ended_anew (Some s) old new y n before after h e pushed = tt

-- what went along from 0 raises a count by as much
pub raises_exactly : (m n : Counts) (anew k : ℕ) → CountsAlong 0 anew 0 k → n ≡ raised m count.Pieces anew
    → n ≡ raised m count.Pieces k
raises_exactly m n anew k h e =
    let same : capped m.pieces anew ≡ capped m.pieces k = omega (arith, h.least, h.most) in
    e ∙ ap (λ (c : ℕ). record m { pieces = c }) same

-- the same output sections
pub along_same : (x y n z m k : ℕ) → CountsAlong x y 0 n → z ≡ y → m ≡ n → k ≡ x → CountsAlong k z 0 m
along_same x y n z m k h e f g = record {
  more = omega arith;
  least = omega (arith, e, f, g, h.least);
  most = omega (arith, e, f, g, h.most);
}

-- the number of the first output section that is not taken over
pub first_is : (kept : Option ResumePoint) (first : ℕ) → IfSome kept (λ k. first ≡ k.first_row)
    → IfNone kept (first ≡ 0) → first ≡ first_of kept
first_is None first some none = none
first_is (Some k) first some none = some
