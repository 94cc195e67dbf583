use Rattle.ldscript.proofs.Common.{CloseBrace, EndsSection, item_statement, mark, rules}
use Rattle.ldscript.proofs.Lists.{so_far_closed, so_far_semicolon, so_far_statement, so_far_stuck}
use Rattle.ldscript.proofs.Items.{items_listed, item_statement_only}
use Rattle.ldscript.proofs.read_item.items.Goals as goal

pub reading-preserved-in-Some : goal.reading-preserved-in-Some
reading-preserved-in-Some c = let m = rw c.copy.ensures at c.in-Some.ensures in
    so_far_semicolon EndsSection (mark CloseBrace) item_statement items_listed _ _ _ _ c.reading.invariant m.0 m.1

pub returns-in-Some-after : goal.returns-in-Some-after
returns-in-Some-after c = let m = rw c.copy-in-reading.ensures at c.in-Some-after.ensures in
    so_far_closed (mark CloseBrace) item_statement _ _ _ _ c.reading.invariant m.0 m.1

pub returns-in_default-2 : goal.returns-in_default-2
returns-in_default-2 c =
    let n = (rw c.in_default-2.is at c.in_ok-command.ensures) in
    so_far_stuck EndsSection (mark CloseBrace) item_statement items_listed _ _ _ c.reading.invariant
    (rw c.copy-in-reading.ensures at c.in_default-after.ensures) (rw c.copy.ensures at c.in_default.ensures)
    (λ y more d st. n y.command more d.1 st)

pub reading-preserved : goal.reading-preserved
reading-preserved c = rw c.in_ok-push.ensures
    (so_far_statement EndsSection (mark CloseBrace) item_statement items_listed _ _ _ _ _ c.reading.invariant
    (search rules, (rw c.in-Some-2.is at c.in_ok-command.ensures).spells)
    (item_statement_only _ _ _ _ (search rules) (rw c.in-Some-2.is at c.in_ok-command.ensures).only)
    (rw c.in-Some-2.is at c.in_ok-command.ensures).shorter)
