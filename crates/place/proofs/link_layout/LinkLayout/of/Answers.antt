use Rattle.place.proofs.Common.{AreSegments, IsSound, provided, rows, segments, subst, sym, ◌∙◌}
use Rattle.place.proofs.Layouts.{has_layout}
use Rattle.place.proofs.Named.{are_named}
use Rattle.place.proofs.link_layout.LinkLayout.of.Goals as goal

pub returns-clause-good : goal.returns-clause-good
returns-clause-good c =
    let p = c.args.project.now in
    let h = c.in_ok-placement.ensures.good in
    let s = h.layout in
    let named = are_named p s.sections (subst IsSound c.script.ensures c.statements-statements.ensures.sound)
    (c.outputs_are_of_script.ensures p (rows p) (provided p) s h.placed) in
    has_layout p _ h c.view.result.sections.now c.view.ensures.sections c.in_ok-segments.ensures.are named
    (λ same are.
    c.in_ok-offsets.ensures s named (same ∙ c.view.ensures.sections ∙ sym c.sections.ensures)
    (subst (AreSegments s.sections (segments s.sections)) (sym c.deref.ensures.value) are))
