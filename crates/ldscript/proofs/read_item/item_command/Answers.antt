use Rattle.ldscript.proofs.Items.{item_none, takes_directive, takes_discard, takes_dot, takes_section_item}
use Rattle.ldscript.proofs.read_item.item_command.Goals as goal

pub returns-in-Some : goal.returns-in-Some
returns-in-Some c = takes_dot _ _ _ (rw (c.in-Some.is, c.copy.ensures) at c.in_ok-command.ensures)

pub returns-in-Some-2 : goal.returns-in-Some-2
returns-in-Some-2 c = takes_directive _ _ _ (rw (c.in-Some-2.is, c.copy-2.ensures) at c.in_ok-command-2.ensures)

pub returns-in-Some-3 : goal.returns-in-Some-3
returns-in-Some-3 c = takes_discard _ _ _ (rw (c.in-Some-3.is, c.copy-3.ensures) at c.in_ok-inputs.ensures)

pub returns : goal.returns
returns c = rw c.in_ok-new.ensures (takes_section_item _ _ _ (rw c.in-Some-4.is at c.in_ok-section.ensures))

pub returns-in_default-4 : goal.returns-in_default-4
returns-in_default-4 c =
    let a = rw (c.in_default.is, c.copy.ensures) at c.in_ok-command.ensures in
    let b = rw (c.in_default-2.is, c.copy-2.ensures) at c.in_ok-command-2.ensures in
    let d = rw (c.in_default-3.is, c.copy-3.ensures) at c.in_ok-inputs.ensures in
    item_none _ a b d (rw c.in_default-4.is at c.in_ok-section.ensures)
