use Rattle.gather.proofs.Common.{AreGathered, Bool, List, ap, input_sections, live, marked, subst, sym, ◌∙◌, ◌≡◌}
use Rattle.ldmodel.specs.Options.{LinkOptions}
use Rattle.gather.proofs.Named.{orphan_faults}
use Rattle.gather.proofs.gathering.gather_live.Goals as goal

pub mark_live-requires-clause-out : goal.mark_live-requires-clause-out
mark_live-requires-clause-out c =
    let p = c.args.project.now in
    c.deref-3.ensures.value
    ∙ c.in_ok-out.ensures p (sym c.script.ensures)
    (ap (λ (o : LinkOptions). o.orphans) (sym c.options-options.ensures) ∙ sym c.orphans.ensures)
    (subst (AreGathered p) (sym c.deref.ensures.value) c.in_ok-sections.ensures)

pub returns : goal.returns
returns c =
    let p = c.args.project.now in
    let in_order = c.live_by_path.ensures.in_order p in
    let sections = c.in_ok-sections.ensures in
    let marks = c.in_ok-marks.ensures in
    let are_live : List Bool → Type 0 = λ l. marked l (input_sections p) ≡ live p in
    record {
      table = c.requires.table;
      rows = c.in_ok-rows.ensures (subst (AreGathered p) (sym c.deref-6.ensures.value) sections)
          (subst are_live (sym c.deref-7.ensures.value) marks);
      orphans = orphan_faults p sections.ascending in_order.0 c.in_ok-orphans.orphans.items in_order.1
          (c.in_ok-orphans.ensures p (subst (AreGathered p) (sym c.deref-4.ensures.value) sections)
          (subst are_live (sym c.deref-5.ensures.value) marks));
    }
