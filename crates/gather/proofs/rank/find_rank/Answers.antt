use Rattle.gather.proofs.Common.{Bool, IsPartitionPoint-from_clause, is_lt, rank_cmp, rules, sym, ℕ, ◌∙◌}
use Rattle.gather.proofs.Ranks.{equal}
use Rattle.gather.proofs.Searching.{found, missed, missed_at_end, parted}
use Rattle.gather.proofs.rank.find_rank.Goals as goal

pub returns-in_err-found-clause-is : goal.returns-in_err-found-clause-is
returns-in_err-found-clause-is c = λ sorted.
    c.from_residual.ensures
    ∙ sym (missed_at_end c.args.sought c.args.ranks.now c.partition_point-first.result
    (IsPartitionPoint-from_clause (λ (r : ℕ × Bool × ℕ). is_lt (rank_cmp r c.args.sought)) _ _
    c.partition_point-first.ensures.partitioned (parted c.args.sought c.args.ranks.now sorted)
    (λ a r f' k. search rules))
    c.in_err-found.ensures.lookup.3)

pub returns-then-eq-clause-is : goal.returns-then-eq-clause-is
returns-then-eq-clause-is c = λ sorted.
    sym (found c.args.sought c.args.ranks.now c.partition_point-first.result c.in_ok-found.field-0.now
    (IsPartitionPoint-from_clause (λ (r : ℕ × Bool × ℕ). is_lt (rank_cmp r c.args.sought)) _ _
    c.partition_point-first.ensures.partitioned (parted c.args.sought c.args.ranks.now sorted)
    (λ a r f' k. search rules))
    c.in_ok-found.ensures.lookup.3.0 c.in_ok-found.ensures.lookup.1
    (equal c.in_ok-found.field-0.now c.args.sought ∙ sym c.eq.ensures ∙ c.if-eq.true))

pub returns-else-eq-clause-is : goal.returns-else-eq-clause-is
returns-else-eq-clause-is c = λ sorted.
    sym (missed c.args.sought c.args.ranks.now c.partition_point-first.result c.in_ok-found.field-0.now sorted
    (IsPartitionPoint-from_clause (λ (r : ℕ × Bool × ℕ). is_lt (rank_cmp r c.args.sought)) _ _
    c.partition_point-first.ensures.partitioned (parted c.args.sought c.args.ranks.now sorted)
    (λ a r f' k. search rules))
    c.in_ok-found.ensures.lookup.3.0 c.in_ok-found.ensures.lookup.1
    (equal c.in_ok-found.field-0.now c.args.sought ∙ sym c.eq.ensures ∙ c.if-eq.false))
