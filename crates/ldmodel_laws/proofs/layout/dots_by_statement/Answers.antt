use Rattle.ldmodel_laws.proofs.Dotted as dotted
use Rattle.ldmodel_laws.proofs.layout.dots_by_statement.Goals as goal

pub returns-clause-counted : goal.returns-clause-counted
returns-clause-counted c script rows provided s e = dotted.script_dots rows provided script s e

pub returns-clause-of_item : goal.returns-clause-of_item
returns-clause-of_item c = dotted.item_dots

pub returns-clause-of_body : goal.returns-clause-of_body
returns-clause-of_body c = dotted.body_dots
