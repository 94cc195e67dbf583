use Rattle.ldscript.proofs.Inputs.{plain_file_none, plain_open_none, plain_selected_none}
use Rattle.ldscript.proofs.read_input.plain.Goals as goal

pub returns-in_default-clause-read : goal.returns-in_default-clause-read
returns-in_default-clause-read c = plain_file_none _ (rw c.in_default.is at c.in_ok-file.ensures)

pub returns-in_default-after-clause-read : goal.returns-in_default-after-clause-read
returns-in_default-after-clause-read c =
    plain_open_none _ _ _ (rw c.in-Some.is at c.in_ok-file.ensures).spells c.in_default-after.ensures

pub returns-in_default-2-clause-read : goal.returns-in_default-2-clause-read
returns-in_default-2-clause-read c =
    plain_selected_none _ _ _ _ (rw c.in-Some.is at c.in_ok-file.ensures).spells c.in-Some-after.ensures.0
    (rw c.in_default-2.is at c.in_ok-sort.ensures)
