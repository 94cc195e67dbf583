use Rattle.ldscript.proofs.Tops.{one_tree_of}
use Rattle.ldscript.proofs.law.one_tree.Goals as goal

pub returns : goal.returns
returns c = one_tree_of c.one_cut.ensures
