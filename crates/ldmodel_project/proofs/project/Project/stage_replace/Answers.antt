use Rattle.ldmodel_project.proofs.Common.{List, NamedObject, None, ObjectData, Option, ProjectState, Some, Stages, ap}
use Rattle.ldmodel_project.proofs.Common.{held, objects_of, place_of, slice_set, subst, sym, ℕ, ◌∙◌, ◌≡◌}
use Rattle.ldmodel.specs.Edits.{Change, Replace, early_refusal, new_object, replaced, with_objects}
use Rattle.ldmodel_project.proofs.Leading.{stages_objects}
use Rattle.ldmodel_project.proofs.project.Project.stage_replace.Goals as goal

pub returns-in-Ok-clause-staged : goal.returns-in-Ok-clause-staged
returns-in-Ok-clause-staged c =
    let h : ProjectState = record {
      contents = c.self.inside.kept;
      script = c.self.inside.script;
      options =
          c.self.inside.options;
    } in
    let change : Change = Replace c.args.name.now c.args.bytes.items in
    let objects : List NamedObject = objects_of h.contents.entries in
    let o : NamedObject = record { name = c.args.name.now; object = c.in-Ok.object } in
    let next : List NamedObject = slice_set objects c.in_ok-place.place o in
    let early_here : early_refusal (held c.args.self.now) change ≡ None =
    ap (λ (b : List ℕ). early_refusal (held c.args.self.now) (Replace c.args.name.now b)) (sym c.deref.ensures.value)
    ∙ c.in_ok-place.ensures.ok in
    let early = subst (λ (x : ProjectState). early_refusal (held x) change ≡ None) (sym c.self.view_is) early_here in
    let place = subst (λ (x : ProjectState). place_of (objects_of x.contents.entries) c.args.name.now
    ≡ Some c.in_ok-place.place) (sym c.self.view_is) c.in_ok-place.ensures.place in
    let read : o ≡ new_object c.args.name.now c.args.bytes.items =
    ap (λ (d : ObjectData). let x : NamedObject = record { name = c.args.name.now; object = d } in
    x) c.in-Ok.ensures.ok.1 in
    let accepts = ap (λ (x : NamedObject). with_objects (held h) (slice_set objects c.in_ok-place.place x)) read
    ∙ ap (λ (m : Option ℕ). with_objects (held h) (replaced objects (new_object c.args.name.now c.args.bytes.items) m))
    (sym place) in
    subst (λ (x : ProjectState). Stages x change c.staged.result) c.self.view_is
    (stages_objects h change next c.staged.result early (c.in-Ok.ensures.ok.0, accepts)
    (c.staged.ensures.ok h next c.reserve_replace.ensures.staged))
