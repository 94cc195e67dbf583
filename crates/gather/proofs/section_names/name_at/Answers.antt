use Rattle.gather.proofs.Common.{AllPairs, LinkedSection, [], subst, ◌<◌}
use Rattle.elfobj.specs.declared.section.Section.{Section}
use Rattle.gather.proofs.ByNumber.{asked_nowhere, asked_there}
use Rattle.gather.proofs.section_names.name_at.Goals as goal

pub returns-in-Some : goal.returns-in-Some
returns-in-Some c =
    asked_there (λ (x : LinkedSection). x.name) [] c.args.object.now.sections c.in-Some.place.0 c.args.number
    c.section_name.result.now c.in-Some.ensures.found
    (subst (AllPairs (λ (s t : Section). s.number.0 < t.number.0)) c.sections-sections.ensures.value
    c.sections-sections.ensures.ascending) c.section_name.ensures

pub returns-in-None : goal.returns-in-None
returns-in-None c =
    asked_nowhere (λ (x : LinkedSection). x.name) [] c.args.object.now.sections c.args.number c.in-None.ensures.absent
