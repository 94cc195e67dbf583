use Rattle.std.proofs.Common.{sym, arith}
use Rattle.elfobj_file.specs.TableOf.{table_of}
use Rattle.elfobj_file.proofs.StringTables.{told_string, told_within}
use Rattle.elfobj_file.proofs.names.StringTable.name_length.Goals as goal

pub returns-clause-within : goal.returns-clause-within
returns-clause-within c = told_within (table_of c.args.self.now) c.args.at c.length_at-length.result
    (sym c.length_at-length.ensures) (omega arith)

pub returns-clause-name : goal.returns-clause-name
returns-clause-name c = told_string (table_of c.args.self.now) c.args.at c.length_at-length.result
    (sym c.length_at-length.ensures) (omega arith)
