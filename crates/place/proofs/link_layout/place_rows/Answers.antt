use Rattle.place.proofs.Common.{List, ap, provided, ◌∙◌, ◌≡◌}
use Rattle.ldscript.specs.statements.declared.statement.Statement.{Statement}
use Rattle.place_terms.specs.ProvidedTable.{provided_names}
use Rattle.place.proofs.Layouts.{places_of_project, why_of_project}
use Rattle.place.proofs.link_layout.place_rows.Goals as goal

pub returns-in-Err-clause-faulty : goal.returns-in-Err-clause-faulty
returns-in-Err-clause-faulty g c =
    let script : c.script.result.now ≡ g.lent.script = cc in
    let names : provided_names c.script.result.now c.args.in_force.now ≡ provided g.lent =
    ap (λ (ss : List Statement). provided_names ss c.args.in_force.now) script ∙ c.requires.1.0 in
    c.reported.ensures g.lent
    (why_of_project g.lent c.script.result.now _ _ c.in-Err.fault script c.requires.1.1.0 names
    c.in-Err.ensures.faulty)

pub returns-in-Ok-clause-good : goal.returns-in-Ok-clause-good
returns-in-Ok-clause-good g c =
    let script : c.script.result.now ≡ g.lent.script = cc in
    let names : provided_names c.script.result.now c.args.in_force.now ≡ provided g.lent =
    ap (λ (ss : List Statement). provided_names ss c.args.in_force.now) script ∙ c.requires.1.0 in
    places_of_project g.lent c.script.result.now _ _ c.in-Ok.placement script c.requires.1.1.0 names
    c.in-Ok.ensures.good c.in-Ok.ensures.placed
