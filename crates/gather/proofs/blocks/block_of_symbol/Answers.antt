use Rattle.gather.proofs.Common.{inr, sym, ◌∙◌}
use Rattle.gather.proofs.Owning.{is_common_at, owns_none}
use Rattle.gather.proofs.blocks.block_of_symbol.Goals as goal

pub returns-then-not-is_common : goal.returns-then-not-is_common
returns-then-not-is_common c = λ name d.
    sym (owns_none c.args.project.now c.args.place c.args.number c.args.object.now d c.requires.object
    c.requires.number name (inr (
    is_common_at c.args.object.now c.symbols.result.now c.args.number _ d c.symbols.ensures.value c.requires.number
    ∙ (sym c.is_common.ensures ∙ c.if-not-is_common.true))))
