use Rattle.ldmodel_laws.proofs.Alike as bodies
use Rattle.ldmodel_laws.proofs.AlikeScripts as scripts
use Rattle.ldmodel_laws.proofs.AlikeSections as sections
use Rattle.ldmodel_laws.proofs.layout.steps_stay_alike.Goals as goal

pub returns : goal.returns
returns c = record {
  begun = scripts.begun_alike;
  statements = scripts.statements_alike;
  items = sections.items_alike;
  heads = sections.heads_agree;
  bodies = bodies.bodies_alike;
}
