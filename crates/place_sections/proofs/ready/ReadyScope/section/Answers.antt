use Rattle.place_sections.proofs.Common.{ap, nameless, option_map, ◌∙◌}
use Rattle.place_sections.proofs.Naming.{numbers_found, asked}
use Rattle.place_sections.proofs.ready.ReadyScope.section.Goals as goal

pub returns : goal.returns
returns c = ap (option_map asked) c.placed.ensures
    ∙ numbers_found nameless c.args.self.now.done.now.sections.list c.args.name.now
