use Rattle.place_sections.proofs.Common.{ap, length, length-map, refl, rules, sym, symbol_of, ◌∙◌}
use Rattle.place_sections.proofs.Wholes.{data_whole}
use Rattle.place_sections.proofs.state.LayoutCursor.boundary.Goals as goal

pub returns-clause-at : goal.returns-clause-at
returns-clause-at g c = record {
  dot = refl;
  dots = search rules;
  inputs = refl;
  symbols = c.len-2.ensures ∙ sym (length-map c.args.self.now.symbols.list (symbol_of c.args.self.now.symbols.script));
  data_commands = c.data_count.ensures ∙ ap length (data_whole g.naming 0 c.args.done.now.sections.list);
}
