use Rattle.ldscript.proofs.Common.{CloseBrace, Expression, OpenBrace, codes, item_statement, key, mark, statements, ◌▸◌}
use Rattle.ldscript.proofs.Singles.{key_fixed, mark_fixed, behind}
use Rattle.ldscript.proofs.Reading.{reads_behind}
use Rattle.ldscript.proofs.read_script.sections.Goals as goal

pub returns-in_default : goal.returns-in_default
returns-in_default c = λ y more d. c.in_default.ensures d.0 d.1

pub returns-in-Some-after : goal.returns-in-Some-after
returns-in-Some-after c = reads_behind (key Expression (codes "SECTIONS"))
    (λ ss. mark OpenBrace ▸ statements item_statement ss ▸ mark CloseBrace)
    (key_fixed Expression (codes "SECTIONS")) _ _ c.in-Some.ensures (λ x. x.0) (λ x. x.1) _
    (reads_behind (mark OpenBrace) (λ ss. statements item_statement ss ▸ mark CloseBrace)
    (mark_fixed OpenBrace) _ _ c.in-Some-after.ensures (λ x. x.0) (λ x. x.1) _ c.items.ensures)

pub returns-in-None : goal.returns-in-None
returns-in-None c = λ y more d.
    let e = behind (key Expression (codes "SECTIONS")) (mark OpenBrace ▸ statements item_statement y ▸ mark CloseBrace)
    (key_fixed Expression (codes "SECTIONS")) _ _ more c.in-Some.ensures.0 d in
    c.in-None.ensures e.0 e.1
