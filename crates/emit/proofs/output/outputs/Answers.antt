-- The lists are those of the layout.
use Rattle.emit.proofs.Common.{AllZip, AreDataOf, Bor, IfOk-weaker, List, OutputSectionAt, ap, data_of, length}
use Rattle.emit.proofs.Common.{length-map, map, output_sections, placed_of, provided, rows, shown_sections, subst, sym}
use Rattle.emit.proofs.Common.{◌∙◌}
use Rattle.place.specs.Offsets.{IsOffset}
use Rattle.ldmodel.specs.declared.placed.PlacedData.{PlacedData}
use Rattle.emit.proofs.Fills.{fills_are}
use Rattle.emit.proofs.output.outputs.Goals as goal

pub returns : goal.returns
returns c =
    let p = c.args.project.now in
    let now : Bor (List PlacedData) → List PlacedData = λ run. run.now in
    IfOk-weaker c.join.result _ _
    (λ v h s stays link_layout pieces.
    let outputs = c.outputs_are_of_script.ensures p (rows p) (provided p) s link_layout.placed in
    let placed = sym (c.view-placement.ensures.sections ∙ link_layout.places.sections) in
    let tree = ap shown_sections c.deref.ensures.value ∙ c.in_ok-sections.ensures
    ∙ ap output_sections c.script-script.ensures in
    h p s stays (record {
      placed = placed;
      names = outputs ∙ ap (map (λ (o : OutputSectionAt). o.section.name)) (sym tree);
      fills = fills_are p.script s (c.layout_by_effects.ensures p.script (rows p) (provided p) s link_layout.placed)
          ∙ ap (map (λ (o : OutputSectionAt). o.section.fill)) (sym tree);
      begun = subst (λ l. AllZip (IsOffset s) s.sections l) (sym c.deref-2.ensures.value) link_layout.offsets;
      pieces = pieces;
      data_commands = subst (λ l. AllZip AreDataOf s.sections (map now l)) (sym c.deref-3.ensures.value)
          (c.in_ok-runs.ensures s.sections
          (ap (map data_of) c.view-placement.ensures.data_commands ∙ link_layout.places.data_commands)
          (sym (ap length placed) ∙ length-map s.sections placed_of));
    }))
    c.join.ensures
