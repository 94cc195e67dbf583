use Rattle.emit_relocate.proofs.Common.{IsPartitionPoint-from_clause, ap, option_copied, rules, sym, ◌∙◌}
use Rattle.emit_relocate.proofs.Searching.{found, missed, missed_at_end, parted, precedes}
use Rattle.emit_relocate.proofs.symbols_by_name.SymbolsByName.find.Goals as goal

pub returns-in_err-symbol : goal.returns-in_err-symbol
returns-in_err-symbol c =
    ap option_copied c.from_residual.ensures
    ∙ sym (missed_at_end c.args.name.now c.args.self.now.list.now c.partition_point-first.result
    (IsPartitionPoint-from_clause (precedes c.args.name.now) _ _
    c.partition_point-first.ensures.partitioned
    (parted c.args.name.now c.args.self.now.list.now c.args.self.now.ordered)
    (λ a r f' k. search rules))
    c.in_err-symbol.ensures.lookup.3)

pub returns-then-eq : goal.returns-then-eq
returns-then-eq c =
    sym (found c.args.name.now c.args.self.now.list.now c.partition_point-first.result c.in_ok-symbol.symbol.now
    (IsPartitionPoint-from_clause (precedes c.args.name.now) _ _
    c.partition_point-first.ensures.partitioned
    (parted c.args.name.now c.args.self.now.list.now c.args.self.now.ordered)
    (λ a r f' k. search rules))
    c.in_ok-symbol.ensures.lookup.3.0 c.in_ok-symbol.ensures.lookup.1 (sym c.eq.ensures ∙ c.if-eq.true))

pub returns-else-eq : goal.returns-else-eq
returns-else-eq c =
    sym (missed c.args.name.now c.args.self.now.list.now c.partition_point-first.result c.in_ok-symbol.symbol.now
    c.args.self.now.ordered
    (IsPartitionPoint-from_clause (precedes c.args.name.now) _ _
    c.partition_point-first.ensures.partitioned
    (parted c.args.name.now c.args.self.now.list.now c.args.self.now.ordered)
    (λ a r f' k. search rules))
    c.in_ok-symbol.ensures.lookup.3.0 c.in_ok-symbol.ensures.lookup.1 (sym c.eq.ensures ∙ c.if-eq.false))
