-- The sizes are those of the link.
use Rattle.emit.proofs.Common.{TailSizes, ap, arith, names_size, output_sections, provided, refl, rows, ◌∙◌}
use Rattle.emit.proofs.Sizing.{sizes_of_tail, tree_names}
use Rattle.emit.proofs.length.tail_sizes.Goals as goal

pub returns : goal.returns
returns c s a l link_layout values =
    let p = c.args.project.now in
    let t : TailSizes = record {
      symbols = c.args.values.now.sizes.count;
      symbol_names = c.in_ok-symbol_names.symbol_names;
      header_names = c.in_ok-header_names.header_names;
      sections = c.len.result;
    } in
    sizes_of_tail p s a c.args.values.now t c.in_ok-sections.sections.items
    (c.outputs_are_of_script.ensures p (rows p) (provided p) s link_layout.placed) values
    (c.in_ok-sections.ensures ∙ ap output_sections c.script-script.ensures)
    refl
    (omega (arith, c.in_ok-symbol_names.ensures))
    (omega (
      arith,
      c.in_ok-header_names.ensures,
      c.in_ok-names.ensures,
      ap (λ os. names_size (tree_names os)) c.deref.ensures.value,
    ))
    (omega (arith, c.len.ensures, c.in_ok-sections.sections.ok.0, c.in_ok-sections.sections.ok.1))
