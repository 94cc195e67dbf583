use Rattle.emit_relocate.proofs.Common.{arith}
use Rattle.emit_relocate.proofs.Changing.{changed_one}
use Rattle.emit_relocate.proofs.changed_fields.Links.add_section.Goals as goal

pub returns : goal.returns
returns g c =
    λ old l s k h is. changed_one old l (g.E.PreviousLinkInfo.range c.args.self.now.previous.now) s _ _
    (c.in_ok-add_evaluated.ensures old l s k h is) _ c.len-end.result (omega (arith, c.len-end.ensures))
    c.in_ok-push.ensures.items
