use Rattle.ldscript.proofs.Common.{CloseParenthesis, mark, word_part}
use Rattle.ldscript.proofs.Each.{some_none}
use Rattle.ldscript.proofs.read_input.some_words.Goals as goal

pub returns-in_default : goal.returns-in_default
returns-in_default c = some_none (mark CloseParenthesis) (word_part c.args.may_exclude) _
    (rw c.in_default.is at c.in_ok-words.ensures)
