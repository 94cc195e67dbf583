use Rattle.ldmodel_project.proofs.Common.{List, NamedObject, None, Option, ProjectState, Some, Stages, ap, held}
use Rattle.ldmodel_project.proofs.Common.{objects_of, place_of, remove, subst, sym, ℕ, ◌≡◌}
use Rattle.ldmodel.specs.Edits.{Change, Remove, early_refusal, removed, with_objects}
use Rattle.ldmodel_project.proofs.Leading.{stages_objects}
use Rattle.ldmodel_project.proofs.project.Project.stage_remove.Goals as goal

pub returns-in-Ok-clause-staged : goal.returns-in-Ok-clause-staged
returns-in-Ok-clause-staged c =
    let h : ProjectState = record {
      contents = c.self.inside.kept;
      script = c.self.inside.script;
      options =
          c.self.inside.options;
    } in
    let change : Change = Remove c.args.name.now in
    let next : List NamedObject = remove (objects_of h.contents.entries) c.in-Ok.place in
    let early = subst (λ (x : ProjectState). early_refusal (held x) change ≡ None)
    (sym c.self.view_is) c.in-Ok.ensures.ok in
    let place = subst (λ (x : ProjectState). place_of (objects_of x.contents.entries) c.args.name.now
    ≡ Some c.in-Ok.place) (sym c.self.view_is) c.in-Ok.ensures.place in
    let accepts = ap (λ (m : Option ℕ). with_objects (held h) (removed (held h).objects m)) (sym place) in
    subst (λ (x : ProjectState). Stages x change c.staged.result) c.self.view_is
    (stages_objects h change next c.staged.result early accepts
    (c.staged.ensures.ok h next c.reserve_remove.ensures.staged))
