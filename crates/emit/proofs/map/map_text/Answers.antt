use Rattle.emit.proofs.Common.{ap, map, output_sections, provided, rows, shown_sections, ◌∙◌}
use Rattle.emit.specs.Listed.{map_symbol}
use Rattle.emit.proofs.Mapped.{text_is}
use Rattle.emit.proofs.map.map_text.Goals as goal

pub returns : goal.returns
returns c =
    let p = c.args.project.now in
    text_is p c.args.link_layout.now c.args.values.now _ _ c.render_map.result
    (record {
      entry = c.number_or_0.ensures;
      sections = ap shown_sections c.deref-2.ensures.value
          ∙ (c.in_ok-sections.ensures ∙ ap output_sections c.script-script.ensures);
      outputs = λ s l.
          c.outputs_are_of_script.ensures p (rows p) (provided p) s l.placed;
      placement = λ s l. c.view.ensures.placement p.script s l.places;
      lent = c.requires;
      placed = λ s l. c.placed_are_rows.ensures p (provided p) s l.placed;
      symbols = ap (map map_symbol) c.deref.ensures.value;
    })
    c.render_map.ensures
