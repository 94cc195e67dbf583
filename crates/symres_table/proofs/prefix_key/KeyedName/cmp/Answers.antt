use Rattle.symres_table.proofs.Common.{ap, slice_cmp, ◌∙◌}
use Rattle.std.specs.Ordering.{nat_cmp}
use Rattle.symres_table.proofs.PrefixKeys.{keys_apart}
use Rattle.symres_table.proofs.prefix_key.KeyedName.cmp.Goals as goal

pub returns-then-one-two : goal.returns-then-one-two
returns-then-one-two c =
    c.cmp.ensures
    ∙ keys_apart _ _ _ _ c.self.invariant c.other.invariant c.if-one-two.true
    ∙ ap (λ name. slice_cmp nat_cmp name c.other.inside.name.now) c.self.view_is
    ∙ ap (slice_cmp nat_cmp c.args.self.now) c.other.view_is

pub returns : goal.returns
returns c =
    c.cmp-2.ensures
    ∙ ap (λ name. slice_cmp nat_cmp name c.other.inside.name.now) c.self.view_is
    ∙ ap (slice_cmp nat_cmp c.args.self.now) c.other.view_is
