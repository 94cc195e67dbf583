-- What the law of expressions gives: no tokens have two readings that stop.
use Rattle.ldscript.proofs.Common.{Lexeme, List, OneTree}
use Rattle.ldscript_terms.proofs.Uniqueness.{one_tree_of}

pub one_expression : (ts : List Lexeme) → OneTree ts
one_expression = one_tree_of
