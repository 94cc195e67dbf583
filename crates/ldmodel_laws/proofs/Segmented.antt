-- The segments of a list of output sections are its one file layout.
use Rattle.ldmodel_laws.proofs.Common.{List, PlacedOutput, Segment, [], ap, arith, groups, length, map, refl, segments}
use Rattle.ldmodel_laws.proofs.Common.{subst, suc, sym, ℕ, ◌∙◌, ◌∷◌, ◌≡◌, ◌≤◌}
use Rattle.ldmodel_laws.specs.FileLayout.{IsLeastCongruent, BeginFrom, IsFileLayout, IsGrouping}
use Rattle.ldmodel.specs.Segments.{Group, begun, begun_from, congruent, file_end, headers_end, nonempty, segment_start}
use Rattle.ldmodel_laws.proofs.Grouped.{is_grouping, one_grouping}

least : (end at : ℕ) → IsLeastCongruent end at (congruent end at)
least end at = record {
  above = omega arith;
  congruent = omega arith;
  least = λ n h e. omega arith;
}

abbrev group_in : Segment → Group
group_in g = g.group

begins : (end : ℕ) (gs : List Group) → BeginFrom end (begun_from end gs)
begins end [] = tt
begins end (g ∷ gs) = (least end g.first.start, begins (file_end end (begun end g)) gs)

same_groups : (end : ℕ) (gs : List Group) → map group_in (begun_from end gs) ≡ gs
same_groups end [] = refl
same_groups end (g ∷ gs) = ap (λ l. g ∷ l) (same_groups (file_end end (begun end g)) gs)

pub same_count : (end : ℕ) (gs : List Group) → length (begun_from end gs) ≡ length gs
same_count end [] = refl
same_count end (g ∷ gs) = ap suc (same_count (file_end end (begun end g)) gs)

pub is_file_layout : (sections : List PlacedOutput) → IsFileLayout sections (segments sections)
unfolding segments
is_file_layout sections =
    let gs : List Group = groups (nonempty sections) in
    let end : ℕ = headers_end (length gs) in
    record {
      grouping = subst (IsGrouping (nonempty sections)) (sym (same_groups end gs)) (is_grouping (nonempty sections));
      offsets = subst (λ n. BeginFrom (headers_end n) (begun_from end gs)) (sym (same_count end gs)) (begins end gs);
    }

one_least : (end at x y : ℕ) → IsLeastCongruent end at x → IsLeastCongruent end at y → x ≡ y
one_least end at x y a b =
    let up : x ≤ y = a.least y b.above b.congruent in
    let down : y ≤ x = b.least x a.above a.congruent in
    omega arith

abbrev segment_at : ℕ → Group → Segment
segment_at offset g = record { offset = offset; group = g }

one_begun : (end : ℕ) (gs : List Segment) → BeginFrom end gs → gs ≡ begun_from end (map group_in gs)
one_begun end [] h = refl
one_begun end (g ∷ gs) h =
    let offset : g.offset ≡ congruent end (segment_start g) =
    one_least end (segment_start g) g.offset (congruent end (segment_start g)) (h.0) (least end (segment_start g)) in
    let same : g ≡ begun end g.group = ap (λ n. segment_at n g.group) offset in
    let rest : gs ≡ begun_from (file_end end g) (map group_in gs) = one_begun (file_end end g) gs (h.1) in
    ap (λ l. g ∷ l) rest ∙ ap (λ x. x ∷ begun_from (file_end end x) (map group_in gs)) same

count_of : (gs : List Segment) → length gs ≡ length (map group_in gs)
count_of [] = refl
count_of (g ∷ gs) = ap suc (count_of gs)

pub one_file_layout : (sections : List PlacedOutput) (gs : List Segment) → IsFileLayout sections gs → gs
    ≡ segments sections
unfolding segments
one_file_layout sections gs h =
    let cut : map group_in gs ≡ groups (nonempty sections) =
    one_grouping (nonempty sections) (map group_in gs) h.grouping in
    let count : length gs ≡ length (groups (nonempty sections)) = count_of gs ∙ ap length cut in
    one_begun (headers_end (length gs)) gs h.offsets
    ∙ (ap (λ n. begun_from (headers_end n) (map group_in gs)) count
    ∙ ap (begun_from (headers_end (length (groups (nonempty sections))))) cut)
