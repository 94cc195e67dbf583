use Rattle.ldmodel_project.proofs.Common.{List, NamedObject, None, Option, ProjectState, Some, Stages, ap, held, insert}
use Rattle.ldmodel_project.proofs.Common.{objects_of, place_of, remove, slice_index_or, subst, sym, unnamed, ℕ, ◌≡◌}
use Rattle.ldmodel.specs.Edits.{Change, Move, early_refusal, moved, with_objects}
use Rattle.ldmodel_project.proofs.Leading.{stages_objects}
use Rattle.ldmodel_project.proofs.project.Project.stage_move.Goals as goal

pub returns-in-Ok-clause-staged : goal.returns-in-Ok-clause-staged
returns-in-Ok-clause-staged c =
    let h : ProjectState = record {
      contents = c.self.inside.kept;
      script = c.self.inside.script;
      options =
          c.self.inside.options;
    } in
    let change : Change = Move c.args.name.now c.args.to in
    let objects : List NamedObject = objects_of h.contents.entries in
    let next : List NamedObject =
    insert (remove objects c.in-Ok.place) c.args.to (slice_index_or objects c.in-Ok.place unnamed) in
    let early = subst (λ (x : ProjectState). early_refusal (held x) change ≡ None)
    (sym c.self.view_is) c.in-Ok.ensures.ok in
    let place = subst (λ (x : ProjectState). place_of (objects_of x.contents.entries) c.args.name.now
    ≡ Some c.in-Ok.place) (sym c.self.view_is) c.in-Ok.ensures.place in
    let accepts = ap (λ (m : Option ℕ). with_objects (held h) (moved objects c.args.to m)) (sym place) in
    subst (λ (x : ProjectState). Stages x change c.staged.result) c.self.view_is
    (stages_objects h change next c.staged.result early accepts
    (c.staged.ensures.ok h next c.reserve_move.ensures.staged))
