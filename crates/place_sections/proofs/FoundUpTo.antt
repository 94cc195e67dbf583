-- What is found up to a place.
use Rattle.place_sections.proofs.Common.{Extent, List, None, Option, Space, [], add-one, ap, append-nil, append_assoc}
use Rattle.place_sections.proofs.Common.{arith, before, drop, drop-cons, drop_all, fault_with, first_overlap, get_or}
use Rattle.place_sections.proofs.Common.{length, length-take-le, overlap, overlaps_after, suc, sym, take, take-suc, ℕ}
use Rattle.place_sections.proofs.Common.{◌++◌, ◌+◌, ◌<◌, ◌∙◌, ◌∷◌, ◌≡◌, ◌≤◌}
use Rattle.place_sections.proofs.FirstPassing.{position_take}
use Rattle.place_sections.specs.Firsts.{AreFirst}
use Rattle.ldmodel.specs.declared.fault.Fault as code

-- the first of all, if it is an earlier one, is the first earlier one
pub first_overlap_is : (space : Space) (extents : List Extent) (firsts : List (Option ℕ)) (k : ℕ) (d : Extent)
    → k < length extents → AreFirst extents extents firsts
    → fault_with space k (before k (get_or firsts k None))
    ≡ fault_with space (length (take k extents)) (first_overlap (take k extents) (get_or extents k d))
first_overlap_is space extents firsts k d below first =
    let e : Extent = get_or extents k d in
    let within : k ≤ length extents = omega (arith, below) in
    ap (λ o. fault_with space k (before k o)) (first.each k d below)
    ∙ ap (λ o. fault_with space k o) (sym (position_take (overlap e) extents k within))
    ∙ ap (λ n. fault_with space n (first_overlap (take k extents) e)) (sym (length-take-le k extents within))

pub found_more : (space : Space) (extents : List Extent) (k : ℕ) (d : Extent) (old new all : List code.Fault)
    → k < length extents
    → new ≡ old ++ fault_with space (length (take k extents)) (first_overlap (take k extents) (get_or extents k d))
    → old ++ overlaps_after space (take k extents) (drop k extents) ≡ all
    → new ++ overlaps_after space (take (k + 1) extents) (drop (k + 1) extents) ≡ all
unfolding overlaps_after
found_more space extents k d old new all below same h =
    let x : Extent = get_or extents k d in
    let here : List code.Fault = fault_with space (length (take k extents)) (first_overlap (take k extents) x) in
    let next : List code.Fault = overlaps_after space (take k extents ++ x ∷ []) (drop (suc k) extents) in
    ap (λ n. new ++ overlaps_after space (take n extents) (drop n extents)) (add-one k)
    ∙ ap (λ l. new ++ overlaps_after space l (drop (suc k) extents)) (take-suc extents k d below)
    ∙ ap (λ l. l ++ next) same
    ∙ append_assoc old here next
    ∙ ap (λ l. old ++ overlaps_after space (take k extents) l) (sym (drop-cons extents k d below))
    ∙ h

pub found_all : (space : Space) (extents earlier : List Extent) (k : ℕ) (found all : List code.Fault)
    → length extents ≤ k
    → found ++ overlaps_after space earlier (drop k extents) ≡ all → found ≡ all
unfolding overlaps_after
found_all space extents earlier k found all past h =
    sym (append-nil found) ∙ ap (λ l. found ++ overlaps_after space earlier l) (sym (drop_all k extents past)) ∙ h
