use Rattle.place_sections.proofs.Reporting.{stands_full}
use Rattle.place_sections.proofs.fault.region_full.Goals as goal

pub returns-in-Some-region_named : goal.returns-in-Some-region_named
returns-in-Some-region_named c =
    stands_full c.args.script.now c.in-Some.section c.in-Some-region_named.region c.args.section.now c.args.name.now
    c.in-Some.ensures c.in-Some-region_named.ensures
