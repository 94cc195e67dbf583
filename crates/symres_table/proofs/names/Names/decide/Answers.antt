use Rattle.symres_table.proofs.Common.{Given, List, Option, State, ap, declaration_of, entries_of, map, sym, ◌∙◌}
use Rattle.ldmodel.specs.Names.{decided, Declaration}
use Rattle.ldmodel.specs.ScriptNames.{is_assignment, is_provision}
use Rattle.symres_table.proofs.Spelling.{entries_spelled, entries_unknown}
use Rattle.symres_table.proofs.names.Names.decide.Goals as goal

pub returns-in-Some-clause-case : goal.returns-in-Some-clause-case
returns-in-Some-clause-case c =
    let a = c.self.inside in
    let name = c.args.name.now in
    let row = ap (map (declaration_of name)) c.row.ensures
    ∙ sym (entries_spelled a.known.slots c.in-Some.number name a.objects.objects c.in-Some.ensures.distinct
    c.in-Some.ensures.number c.self.invariant.named)
    ∙ ap (λ (s : State). entries_of name s.objects) c.self.view_is in
    c.decide.ensures name
    ∙ ap (λ (ds : List Declaration).
    decided (is_assignment c.given-given.result) (is_provision c.given-given.result) ds) row
    ∙ ap (λ (g : Option Given). decided (is_assignment g) (is_provision g) (entries_of name c.args.self.now.objects))
    c.given-given.ensures

pub returns-in-None-clause-case : goal.returns-in-None-clause-case
returns-in-None-clause-case c =
    let a = c.self.inside in
    let name = c.args.name.now in
    let row = sym (entries_unknown a.known.slots name a.objects.objects c.in-None.ensures.number
    c.self.invariant.named) ∙ ap (λ (s : State). entries_of name s.objects) c.self.view_is in
    c.decide-in-None.ensures name
    ∙ ap (λ (ds : List Declaration).
    decided (is_assignment c.given-given.result) (is_provision c.given-given.result) ds) row
    ∙ ap (λ (g : Option Given). decided (is_assignment g) (is_provision g) (entries_of name c.args.self.now.objects))
    c.given-given.ensures
