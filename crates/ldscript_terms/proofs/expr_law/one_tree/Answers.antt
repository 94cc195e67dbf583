use Rattle.ldscript_terms.proofs.Uniqueness.{one_tree_of, one_reading_of}
use Rattle.ldscript_terms.proofs.expr_law.one_tree.Goals as goal

pub returns-clause-trees : goal.returns-clause-trees
returns-clause-trees c = one_tree_of

pub returns-clause-readings : goal.returns-clause-readings
returns-clause-readings c = one_reading_of
