use Rattle.place.proofs.Common.{AllPairs, Section, subst, ◌<◌}
use Rattle.place.proofs.Ascending.{numbers_differ}
use Rattle.place.proofs.numbered.sections_differ.Goals as goal

pub returns : goal.returns
returns c =
    numbers_differ c.args.object.now.sections
    (subst (AllPairs (λ (s t : Section). s.number.0 < t.number.0)) c.sections-sections.ensures.value
    c.sections-sections.ensures.ascending)
