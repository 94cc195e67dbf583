use Rattle.place_sections.proofs.Common.{one_shl, sym, ◌∙◌}
use Rattle.std.specs.Int.{trailing_zeros, w64}
use Rattle.place_sections.proofs.Multiples.{below_power}
use Rattle.place_sections.proofs.body.past_multiple.Goals as goal

pub returns-then-power-alignment-clause-value : goal.returns-then-power-alignment-clause-value
returns-then-power-alignment-clause-value c =
    below_power c.args.address c.args.alignment (trailing_zeros w64 c.args.alignment)
    (sym (one_shl (trailing_zeros w64 c.args.alignment) 64 c.if-power-lt64.true) ∙ c.if-power-alignment.true)
