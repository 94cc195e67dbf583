use Rattle.relink_driver.proofs.Common.{IsLinkLayout, project_of, subst, sym}
use Rattle.relink_driver.proofs.passes.index_layout.Goals as goal

pub returns-in-Ok-clause-good : goal.returns-in-Ok-clause-good
returns-in-Ok-clause-good c =
    let s = c.requires.link_layout.layout in
    record {
      layout = s;
      link_layout = subst (IsLinkLayout (project_of c.args.context) s) (sym c.in-Ok.ensures.link_layout)
          c.requires.link_layout.is;
      indexed_layout = c.in-Ok.ensures.indexed_layout;
      rest = c.requires.rest;
    }
