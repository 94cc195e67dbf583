use Rattle.ldscript.proofs.Common.{Assign, Colon, Expression, codes, key, mark, ◌▸◌}
use Rattle.ldscript.specs.Steps.{name}
use Rattle.ldscript.proofs.Singles.{key_fixed, mark_fixed, name_single, behind, behind_tree}
use Rattle.ldscript.proofs.read_region.region_head.Goals as goal

pub returns-in_err-name : goal.returns-in_err-name
returns-in_err-name c = rw c.from_residual.ensures (λ y more d. c.in_err-name.ensures y d.0 d.1)

pub returns-in_err-rest : goal.returns-in_err-rest
returns-in_err-rest c = rw c.from_residual-in_err-rest.ensures (λ y more d.
    let e = behind_tree name (mark Colon ▸ key Expression (codes "ORIGIN") ▸ mark Assign)
    (name_single Expression) _ _ more _ y c.in_ok-name.ensures.spells d in
    c.in_err-rest.ensures e.1.0 e.1.1)

pub returns-in_err-rest-2 : goal.returns-in_err-rest-2
returns-in_err-rest-2 c = rw c.from_residual-in_err-rest-2.ensures (λ y more d.
    let e = behind_tree name (mark Colon ▸ key Expression (codes "ORIGIN") ▸ mark Assign)
    (name_single Expression) _ _ more _ y c.in_ok-name.ensures.spells d in
    let f = behind (mark Colon) (key Expression (codes "ORIGIN") ▸ mark Assign)
    (mark_fixed Colon) _ _ more c.in_ok-rest.ensures.0 e.1 in
    c.in_err-rest-2.ensures f.0 f.1)

pub returns-in_err-rest-3 : goal.returns-in_err-rest-3
returns-in_err-rest-3 c = rw c.from_residual-in_err-rest-3.ensures (λ y more d.
    let e = behind_tree name (mark Colon ▸ key Expression (codes "ORIGIN") ▸ mark Assign)
    (name_single Expression) _ _ more _ y c.in_ok-name.ensures.spells d in
    let f = behind (mark Colon) (key Expression (codes "ORIGIN") ▸ mark Assign)
    (mark_fixed Colon) _ _ more c.in_ok-rest.ensures.0 e.1 in
    let g = behind (key Expression (codes "ORIGIN")) (mark Assign)
    (key_fixed Expression (codes "ORIGIN")) _ _ more c.in_ok-rest-2.ensures.0 f in
    c.in_err-rest-3.ensures more g)
