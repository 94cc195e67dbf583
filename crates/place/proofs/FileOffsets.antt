-- Where segments stand in the file.
use Rattle.place.proofs.Common.{AllZip, Follow, HaveRoom, IsGroup, IsSegment, List, PlacedOutput, [], ap, append-nil}
use Rattle.place.proofs.Common.{append_assoc, arith, drop, drop_all, drop_more, fold, get_or, groups, if◌then◌else◌}
use Rattle.place.proofs.Common.{length, min, nonempty, past, refl, segment_at, segments, segments_from, subst, suc, sym}
use Rattle.place.proofs.Common.{ℕ, ◌%◌, ◌*◌, ◌++◌, ◌+◌, ◌-◌, ◌<◌, ◌==◌, ◌^◌, ◌∙◌, ◌∷◌, ◌≡◌, ◌≤◌}
use Rattle.std.proofs.Math.Nat.{min-eq_left}
use Rattle.std.proofs.lemmas.Nat.{mod_below}
use Rattle.ldmodel.specs.Segments.{Group, Segment, begun, begun_from, congruent, file_end, file_size, headers_end}
use Rattle.ldmodel.specs.declared.segment.Segment as code
use Rattle.place.specs.declared.group.Group as code_group
use Rattle.std.proofs.lemmas.List.Elements.{All-nil, All-push}

segment_is : (s : List PlacedOutput) (end : ℕ) (g : Group) (x : code_group.Group) → IsGroup s g x
    → IsSegment s (begun end g) (segment_at end x)
segment_is s end g x is = record {
  offset = ap (λ n. congruent end n) is.start;
  start = is.start;
  load = is.load;
  in_file = is.in_file;
  in_memory = is.in_memory;
  writable = is.writable;
  executable = is.executable;
  first = is.first;
  last = is.last;
}

-- the file bytes end at one place
pub ends_equal : (s : List PlacedOutput) (end : ℕ) (g : Segment) (x : code.Segment) → IsSegment s g x
    → past end x ≡ file_end end g
ends_equal s end g x is =
    ap (λ n. if n == 0 then end else x.offset + n) is.in_file
    ∙ ap (λ n. if file_size g.group == 0 then end else n + file_size g.group) is.offset

pub placed_are : (s : List PlacedOutput) (end : ℕ) (gs : List Group) (xs : List code_group.Group)
    → AllZip (IsGroup s) gs xs → AllZip (IsSegment s) (begun_from end gs) (segments_from end xs)
unfolding segments_from
placed_are s end [] [] are = tt
placed_are s end [] (x ∷ xs) are = absurd are
placed_are s end (g ∷ gs) [] are = absurd are
placed_are s end (g ∷ gs) (x ∷ xs) are = (
  segment_is s end g x are.0,
  subst (λ n. AllZip (IsSegment s) (begun_from n gs) (segments_from (past end (segment_at end x)) xs))
      (ends_equal s end (begun end g) (segment_at end x) (segment_is s end g x are.0))
      (placed_are s (past end (segment_at end x)) gs xs are.1),
)

pub zip_long : {A B : Type 0} (R : A → B → Type 0) (xs : List A) (ys : List B) → AllZip R xs ys → length xs ≡ length ys
zip_long R [] [] are = refl
zip_long R [] (y ∷ ys) are = absurd are
zip_long R (x ∷ xs) [] are = absurd are
zip_long R (x ∷ xs) (y ∷ ys) are = ap (λ n. suc n) (zip_long R xs ys are.1)

-- padding is less than a page
pub congruent_near : (end at : ℕ) → congruent end at ≤ end + 4096
congruent_near end at = omega (arith, mod_below (at % 4096 + (4096 - end % 4096)) 4096 (omega arith))

-- the groups so far have their places, and the file is not long
pub record Placing (all rest : List code_group.Group) (done : List code.Segment) (end k : ℕ) : Type 0 where
  pub same : segments_from (headers_end (length all)) all ≡ done ++ segments_from end rest
  pub room : HaveRoom done
  pub near : end ≤ headers_end (length all) + k * (2 ^ 64 + 4096)

pub placing_none : (all : List code_group.Group) (done : List code.Segment) (end : ℕ) → done ≡ []
    → end ≡ headers_end (length all) → Placing all all done end 0
placing_none all done end empty same = record {
  same = ap (λ n. segments_from n all) (sym same) ∙ ap (λ l. l ++ segments_from end all) (sym empty);
  near = omega (arith, same);
  room = subst HaveRoom (sym empty) (All-nil (λ (x : code.Segment). x.offset + 2 ^ 64 ≤ 2 ^ 128));
}

pub placing_more : (all : List code_group.Group) (k : ℕ) (d : code_group.Group) (done : List code.Segment)
    (end next : ℕ)
    (x : code.Segment) → Placing all (drop k all) done end k → k < length all → x ≡ segment_at end (get_or all k d)
    → next ≡ past end x → next ≤ end + 4096 + 2 ^ 64 → x.offset + 2 ^ 64 ≤ 2 ^ 128
    → Placing all (drop (k + 1) all) (done ++ x ∷ []) next (k + 1)
unfolding segments_from
placing_more all k d done end next x h below is same near fits = record {
  same =
      h.same ∙ ap (λ l. done ++ segments_from end l) (drop_more all k d below)
      ∙ ap (λ y. done ++ (y ∷ segments_from (past end y) (drop (k + 1) all))) (sym is)
      ∙ sym (append_assoc done (x ∷ []) (segments_from (past end x) (drop (k + 1) all)))
      ∙ ap (λ n. (done ++ x ∷ []) ++ segments_from n (drop (k + 1) all)) (sym same);
  near = omega (arith, near, h.near);
  room = All-push (λ (y : code.Segment). y.offset + 2 ^ 64 ≤ 2 ^ 128) done x h.room fits;
}

-- in the end all groups have their places
pub placing_all : (all : List code_group.Group) (done : List code.Segment) (end k : ℕ)
    → Placing all (drop k all) done end k → length all ≤ k → done ≡ segments_from (headers_end (length all)) all
unfolding segments_from
placing_all all done end k h past_all =
    sym (h.same ∙ ap (λ l. done ++ segments_from end l) (drop_all k all past_all) ∙ append-nil done)

-- they are the segments of output sections whose groups these are
pub segments_are : (s : List PlacedOutput) (xs : List code_group.Group)
    → AllZip (IsGroup s) (groups (nonempty s)) xs
    → AllZip (IsSegment s) (segments s) (segments_from (headers_end (length xs)) xs)
unfolding segments
segments_are s xs are =
    subst (λ n. AllZip (IsSegment s) (begun_from (headers_end n) (groups (nonempty s)))
    (segments_from (headers_end (length xs)) xs))
    (sym (zip_long (IsGroup s) (groups (nonempty s)) xs are))
    (placed_are s (headers_end (length xs)) (groups (nonempty s)) xs are)

-- there is room for one more
pub room : (n k end cap : ℕ) → end ≤ headers_end n + k * (2 ^ 64 + 4096) → k < n → n ≤ cap → cap < 2 ^ 63
    → end + 4096 + 2 ^ 64 < 2 ^ 128
room n k end cap near below fits small = omega (arith, near, below, fits, small)

-- segments that are those of groups follow one another, and their file bytes end where those of the definition do
pub follow_are : (s : List PlacedOutput) (end : ℕ) (gs : List Group) (xs : List code.Segment)
    → AllZip (IsSegment s) (begun_from end gs) xs → Follow end xs
unfolding Follow
follow_are s end [] [] are = tt
follow_are s end [] (x ∷ xs) are = absurd are
follow_are s end (g ∷ gs) [] are = absurd are
follow_are s end (g ∷ gs) (x ∷ xs) are = (
  omega (arith, are.0.offset, congruent_near end g.first.start),
  follow_are s (past end x) gs xs
      (subst (λ n. AllZip (IsSegment s) (begun_from n gs) xs) (sym (ends_equal s end (begun end g) x are.0)) are.1),
)

pub ends_are : (s : List PlacedOutput) (end : ℕ) (gs : List Segment) (xs : List code.Segment)
    → AllZip (IsSegment s) gs xs → fold past end xs ≡ fold file_end end gs
ends_are s end [] [] are = refl
ends_are s end [] (x ∷ xs) are = absurd are
ends_are s end (g ∷ gs) [] are = absurd are
ends_are s end (g ∷ gs) (x ∷ xs) are =
    ends_are s (past end x) gs xs are.1
    ∙ ap (λ n. fold file_end n gs) (ends_equal s end g x are.0)

-- the segments up to a place are behind an end
pub record Reached (all rest : List code.Segment) (end k : ℕ) : Type 0 where
  pub follow : Follow end rest
  pub same : fold past (headers_end (length all)) all ≡ fold past end rest
  pub near : end ≤ headers_end (length all) + k * (2 ^ 64 + 4096)

pub reached_none : (all : List code.Segment) (end : ℕ) → Follow (headers_end (length all)) all
    → end ≡ headers_end (length all) → Reached all all end 0
reached_none all end follow same = record {
  follow = subst (λ n. Follow n all) (sym same) follow;
  same = ap (λ n. fold past n all) (sym same);
  near = omega (arith, same);
}

-- the segment at a place is no more than a page past the end there
pub reached_near : (all : List code.Segment) (k : ℕ) (d : code.Segment) (end : ℕ)
    → Reached all (drop k all) end k → k < length all → (get_or all k d).offset ≤ end + 4096
unfolding Follow
reached_near all k d end h below = (subst (λ l. Follow end l) (drop_more all k d below) h.follow).0

pub reached_more : (all : List code.Segment) (k : ℕ) (d : code.Segment) (end next : ℕ)
    → Reached all (drop k all) end k → k < length all → next ≡ past end (get_or all k d) → next ≤ end + 4096 + 2 ^ 64
    → Reached all (drop (k + 1) all) next (k + 1)
unfolding Follow
reached_more all k d end next h below same near =
    let front = drop_more all k d below in
    record {
      follow = subst (λ n. Follow n (drop (k + 1) all)) (sym same) (subst (λ l. Follow end l) front h.follow).1;
      same = h.same ∙ ap (λ l. fold past end l) front ∙ ap (λ n. fold past n (drop (k + 1) all)) (sym same);
      near = omega (arith, near, h.near);
    }

-- no file of this number of segments reaches the cap
pub reached_all : (all : List code.Segment) (k end : ℕ) → Reached all (drop k all) end k → length all ≤ k
    → k ≤ length all → length all < 2 ^ 63 → min end (3 * 2 ^ 126) ≡ fold past (headers_end (length all)) all
reached_all all k end h past_all within small =
    let last : fold past (headers_end (length all)) all ≡ end = h.same
    ∙ ap (λ l. fold past end l) (drop_all k all past_all) in
    min-eq_left {n = end} {m = 3 * 2 ^ 126} (omega (arith, h.near, within, small)) ∙ sym last
