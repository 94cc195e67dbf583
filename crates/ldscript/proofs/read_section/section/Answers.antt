use Rattle.ldscript.proofs.Common.{Takes, refl, subst, sym}
use Rattle.ldscript.specs.Steps.{name}
use Rattle.ldscript.proofs.Items.{section_name_none, section_head_none, section_body_none, section_tail_none}
use Rattle.ldscript.proofs.Items.{section_load_none, section_of_parts}
use Rattle.ldscript.proofs.read_section.section.Goals as goal

pub returns-in_default : goal.returns-in_default
returns-in_default c = section_name_none _ c.in_default.ensures

pub returns-in_default-3 : goal.returns-in_default-3
returns-in_default-3 c =
    let address = rw c.in-Some-2.is at c.in_ok-address.ensures in
    section_head_none _ _ _ _ _ c.in-Some.ensures.spells address.spells (rw c.in_default-3.is at c.in_ok-head.ensures)

pub returns-in_default-4 : goal.returns-in_default-4
returns-in_default-4 c =
    let address = rw c.in-Some-2.is at c.in_ok-address.ensures in
    let head = rw c.in-Some-3.is at c.in_ok-head.ensures in
    section_body_none _ _ _ _ _ _ _ c.in-Some.ensures.spells address.spells head.spells
    (rw c.in_default-4.is at c.in_ok-body.ensures)

pub returns-in_default-5 : goal.returns-in_default-5
returns-in_default-5 c =
    let address = rw c.in-Some-2.is at c.in_ok-address.ensures in
    let head = rw c.in-Some-3.is at c.in_ok-head.ensures in
    let body = rw c.in-Some-4.is at c.in_ok-body.ensures in
    section_tail_none _ _ _ _ _ _ _ _ _ c.in-Some.ensures.spells address.spells head.spells body.spells
    (rw c.in_default-5.is at c.in_ok-tail.ensures)

pub returns-in-None : goal.returns-in-None
returns-in-None c =
    let address = rw c.in-Some-2.is at c.in_ok-address.ensures in
    let head = rw c.in-Some-3.is at c.in_ok-head.ensures in
    let body = rw c.in-Some-4.is at c.in_ok-body.ensures in
    let tail = rw c.in-Some-5.is at c.in_ok-tail.ensures in
    section_load_none _ _ _ _ _ _ _ _ _ _ _ c.in-Some.ensures.spells address.spells head.spells body.spells tail
    c.in-None.ensures

pub returns-in-Some-section_of : goal.returns-in-Some-section_of
returns-in-Some-section_of c =
    let named = subst (λ n. Takes name c.args.tokens n c.in-Some.rest) (sym c.in_ok-name.ensures) c.in-Some.ensures in
    let address = rw c.in-Some-2.is at c.in_ok-address.ensures in
    let head = rw c.in-Some-3.is at c.in_ok-head.ensures in
    let body = rw c.in-Some-4.is at c.in_ok-body.ensures in
    let tail = rw c.in-Some-5.is at c.in_ok-tail.ensures in
    section_of_parts _ _ _ _ _ _ _ _ _ _ _ _ named address head body tail c.in-Some-section_of.ensures
