use Rattle.emit_fields.proofs.Common.{Patch, refl, rules, subst}
use Rattle.std.specs.List.Sorted.{IsNonDecreasingBy}
use Rattle.std.proofs.lemmas.List.Sorted.{IsNonDecreasingBy-from_sort_by_key, IsPermutation-refl}
use Rattle.emit_fields.proofs.Order.{byte_permuted, in_order_sorted}
use Rattle.emit_fields.proofs.patch.in_order.Goals as goal
use Rattle.emit_fields.proofs.patch.in_order.Goals.{then-not-is_ascending+in_ok-sort_by_key, else-not-is_ascending}

pub returns-clause-order : goal.returns-clause-order
returns-clause-order c = elim c.if-not-is_ascending.branch [
  | then-not-is_ascending+in_ok-sort_by_key w ↦
      rw w.patches-is (
      in_order_sorted c.args.patches.items w.sort_by_key.new.list.items w.in_ok-sort_by_key.ensures.permutation
      (IsNonDecreasingBy-from_sort_by_key (λ (p : Patch). p.offset) _ w.in_ok-sort_by_key.ensures.sorted
      (λ a r q k. search rules)) c.requires
      )
  | else-not-is_ascending w ↦
      rw w.patches-is (
      in_order_sorted c.args.patches.items c.args.patches.items (IsPermutation-refl c.args.patches.items)
      (subst (λ ps. IsNonDecreasingBy (λ (p : Patch). p.offset) ps) c.deref.ensures.value
      (c.is_ascending.ensures w.if-not-is_ascending.false)) c.requires
      )
]

pub returns-clause-same : goal.returns-clause-same
returns-clause-same c = λ bytes i. elim c.if-not-is_ascending.branch [
  | then-not-is_ascending+in_ok-sort_by_key w ↦
      rw w.patches-is
      (byte_permuted bytes c.args.patches.items w.sort_by_key.new.list.items i
      w.in_ok-sort_by_key.ensures.permutation c.requires)
  | else-not-is_ascending w ↦ rw w.patches-is refl
]
