use Rattle.relink_driver.proofs.Common.{arith, codes, string_bytes, ◌∙◌}
use Rattle.relink_driver.proofs.Words.{at_none, at_some}
use Rattle.relink_driver.proofs.exit_report.word_at.Goals as goal

pub returns-in-Some : goal.returns-in-Some
returns-in-Some c =
    let get = c.in-Some.ensures.lookup in
    c.as_bytes.ensures.value
    ∙ at_some (codes "script") string_bytes c.args.words.now c.args.input c.in-Some.word.now (omega arith) get.3.0 get.1

pub returns-in-None : goal.returns-in-None
returns-in-None c =
    let get = c.in-None.ensures.lookup in
    at_none (codes "script") string_bytes c.args.words.now c.args.input (omega arith) (omega arith)
