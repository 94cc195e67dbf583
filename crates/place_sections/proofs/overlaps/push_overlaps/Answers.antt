-- Where the ranges ascend, in the order of the script or in that of their addresses, no two overlap.
use Rattle.place_sections.proofs.Common.{ap, append-nil, cover, extents_in, subst, sym, ℕ, ◌++◌, ◌∙◌, ◌≤◌}
use Rattle.std.proofs.Common.{IsPermutation}
use Rattle.std.proofs.lemmas.List.Sorted.{IsPermutation-refl}
use Rattle.place_sections.proofs.DisjointRanges.{apart_in_order}
use Rattle.place_sections.proofs.overlaps.push_overlaps.Goals as goal

pub returns-then-are_in_order : goal.returns-then-are_in_order
returns-then-are_in_order c =
    let all = extents_in c.args.space c.args.sections.now in
    sym (ap (λ l. c.args.faults.now.items
    ++ l) (apart_in_order c.args.space all all (IsPermutation-refl all)
    (c.are_in_order.ensures c.if-are_in_order.true))
    ∙ append-nil c.args.faults.now.items)

pub returns-then-are_ascending : goal.returns-then-are_ascending
returns-then-are_ascending c =
    let all = extents_in c.args.space c.args.sections.now in
    let moved : IsPermutation all c.sort_unstable_by_key.new.self.items =
    subst (λ l. IsPermutation l c.sort_unstable_by_key.new.self.items)
    (c.in_ok-ascending.ensures.items ∙ c.deref.ensures.value ∙ c.in_ok-extents.ensures)
    c.sort_unstable_by_key.ensures.permutation in
    let apart : (address : ℕ) → cover address c.sort_unstable_by_key.new.self.items ≤ 1 =
    λ a. subst (λ l. cover a l ≤ 1) c.deref-2.ensures.value (c.are_ascending.ensures c.if-are_ascending.true a) in
    sym (ap (λ l. c.args.faults.now.items
    ++ l) (apart_in_order c.args.space all c.sort_unstable_by_key.new.self.items moved apart)
    ∙ append-nil c.args.faults.now.items)
