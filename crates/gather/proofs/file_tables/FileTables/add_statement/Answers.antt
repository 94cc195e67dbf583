use Rattle.gather.proofs.Common.{on_ok_weaker, refl, rules}
use Rattle.gather.proofs.OwnWords.{adds_more, adds_own}
use Rattle.gather.proofs.file_tables.FileTables.add_statement.Goals as goal

pub returns-in-Some : goal.returns-in-Some
returns-in-Some c =
    on_ok_weaker c.add_own.result
    (λ own. adds_own c.args.self.now c.add_own.new.self c.args.statement.0 c.args.input.now c.in-Some.file.now
    (search rules) own c.add_own.ensures.others) c.add_own.ensures.own

pub returns-in-None : goal.returns-in-None
returns-in-None c =
    on_ok_weaker c.add_statement.result
    (λ more. adds_more c.args.self.now (record c.args.self.now { others = c.add_statement.new.self })
    c.args.statement.0 c.args.input.now (search rules) refl more) c.add_statement.ensures
