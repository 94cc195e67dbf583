-- An output section with bytes in the file is drawn, any other is not.
use Rattle.emit.proofs.Common.{Placed, ap, sym, ◌∙◌}
use Rattle.emit.proofs.Joining.{drawn_more, not_zero}
use Rattle.emit.proofs.parts.add_section.Goals as goal

pub returns : goal.returns
returns c p s stays q qs is drawn =
    drawn_more p s stays qs q c.args.sections.now.items _ c.in_ok-section.section
    (not_zero q.size (λ e. c.if-output-eq0.false (ap (λ (x : Placed). x.size) is.placed ∙ e)))
    (sym (ap (λ (x : Placed). x.has_file_bytes) is.placed) ∙ c.if-not-output.false)
    (c.in_ok-section.ensures p s stays q is) c.in_ok-push.ensures.items drawn
