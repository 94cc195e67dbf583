use Rattle.emit_relocate.proofs.Common.{IsPartitionPoint-from_clause, rules}
use Rattle.emit_relocate.proofs.Placing.{comes_by, partitioned, place_among}
use Rattle.emit_relocate.proofs.symbols.count_up_to.Goals as goal

pub returns-clause-place : goal.returns-clause-place
returns-clause-place c =
    place_among c.args.name.now c.args.sorted.now c.partition_point.result
    (IsPartitionPoint-from_clause (comes_by c.args.name.now) _ _ c.partition_point.ensures.partitioned
    (partitioned c.args.name.now c.args.sorted.now c.requires) (λ a r f' k. search rules))
