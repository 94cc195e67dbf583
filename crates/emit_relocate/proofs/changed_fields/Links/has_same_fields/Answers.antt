use Rattle.emit_relocate.proofs.Common.{HasStayedAt, IfSome, SectionRef, ap, is_some, subst, sym, ◌∙◌}
use Rattle.emit_relocate.proofs.changed_fields.Links.has_same_fields.Goals as goal

pub returns : goal.returns
returns g c =
    λ yes old l s k h.
    let range = g.E.PreviousLinkInfo.range c.args.self.now.previous.now in
    let same = c.section_ref.ensures l s h in
    let known = ap (λ q. is_some (range q)) (sym same) ∙ sym c.has_stayed.ensures.is ∙ yes in (
      record {
        known = known;
        stayed = subst (λ (q : SectionRef). IfSome (range q) (HasStayedAt old l q)) same
            (c.has_stayed.ensures.sound old l k.previous);
      },
      c.is_dirty.ensures old l k.previous (_, known) c.if-is_dirty.false,
    )
