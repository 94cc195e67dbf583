use Rattle.emit_relocate.proofs.Common.{AreOf, List, Statement, subst, sym}
use Rattle.emit_relocate.proofs.given.GivenValues.of.Goals as goal

pub returns : goal.returns
returns c = record {
  values = λ s placement. c.in_ok-values.ensures s
      (subst (λ (t : List Statement). AreOf t s c.args.link_layout.now.placement) (sym c.script-script.ensures)
      placement.places);
  sorted = c.in_ok-sorted.ensures;
}
