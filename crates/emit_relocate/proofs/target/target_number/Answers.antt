use Rattle.emit_relocate.proofs.Common.{ap, refl, sym, ◌∙◌}
use Rattle.emit_relocate.proofs.Targets.{number_of_name, number_of_nothing, number_of_section}
use Rattle.emit_relocate.specs.KnownLink.{named_target}
use Rattle.emit_relocate.proofs.target.target_number.Goals as goal

pub returns-in-Name : goal.returns-in-Name
returns-in-Name c =
    λ l k all t e. number_of_name l _ t c.args.values.now c.in-Name.name all (sym (ap (named_target l) c.in-Name.is)
    ∙ e)
    (rw (← c.value_under.ensures) c.number_or_0.ensures)

pub returns-in-Section : goal.returns-in-Section
returns-in-Section c =
    λ l k all t e. number_of_section l _ t c.in-Section.object c.in-Section.section
    (sym (ap (named_target l) c.in-Section.is) ∙ e)
    (rw (← c.start.ensures l k) c.unwrap_or.ensures)

pub returns-in-Fixed : goal.returns-in-Fixed
returns-in-Fixed c = λ l k all t e. number_of_nothing l 0 t (sym (ap (named_target l) c.in-Fixed.is) ∙ e) refl
