use Rattle.symres_table.proofs.Common.{Given, IsNamed, List, Option, State, ap, declaration_of, entries_of, map, slot}
use Rattle.symres_table.proofs.Common.{sym, ◌∙◌, ◌≡◌}
use Rattle.ldmodel.specs.Names.{decided, Declaration}
use Rattle.ldmodel.specs.ScriptNames.{is_assignment, is_provision}
use Rattle.ldscript.specs.statements.Given.{given_by}
use Rattle.symres_table.proofs.Joined.{one_name}
use Rattle.symres_table.proofs.Spelling.{entries_spelled}
use Rattle.symres_table.proofs.names.Names.decide_key.Goals as goal

pub returns-clause-case : goal.returns-clause-case
returns-clause-case c = λ bytes h.
    let a = c.self.inside in
    let named : IsNamed a.known.slots c.args.name.0 bytes =
    ap (λ (s : State). slot s.names c.args.name.0) c.self.view_is ∙ h in
    let same : c.unwrap.result.now ≡ bytes =
    one_name a.known.slots c.args.name.0 c.unwrap.result.now bytes (rw c.unwrap.ensures at c.name_of.ensures) named
    in
    let row = ap (map (declaration_of bytes)) c.row.ensures
    ∙ sym (entries_spelled a.known.slots c.args.name.0 bytes a.objects.objects c.len-known.ensures.distinct named
    c.self.invariant.named) ∙ ap (λ (s : State). entries_of bytes s.objects) c.self.view_is in
    c.decide.ensures bytes
    ∙ ap (λ (ds : List Declaration).
    decided (is_assignment c.given-given.result) (is_provision c.given-given.result) ds) row
    ∙ ap (λ (g : Option Given). decided (is_assignment g) (is_provision g) (entries_of bytes c.args.self.now.objects))
    (c.given-given.ensures ∙ ap (given_by c.args.script.now) same)
