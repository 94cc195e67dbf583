use Rattle.ldmodel_project.proofs.Common.{Contents, EditRefusal, Err, IfOk, IsEditing, List, Listed, NamedObject, None}
use Rattle.ldmodel_project.proofs.Common.{ObjectData, Ok, Project, ProjectState, Result, Some, Staged, ap, held, insert}
use Rattle.ldmodel_project.proofs.Common.{objects_of, subst, sym, ℕ, ◌∙◌, ◌≡◌}
use Rattle.ldmodel.specs.Edits.{Change, Add, early_refusal, new_object, with_objects}
use Rattle.ldmodel_project.proofs.Leading.{stages_objects}
use Rattle.ldmodel_project.proofs.project.Project.stage_add.Goals as goal

pub returns-in-Ok-clause-staged : goal.returns-in-Ok-clause-staged
returns-in-Ok-clause-staged c =
    let old : ProjectState = record {
      contents = c.self.inside.kept;
      script = c.self.inside.script;
      options =
          c.self.inside.options;
    } in
    let h : ProjectState = record {
      contents = c.reserve_add.new.self;
      script = c.self.inside.script;
      options =
          c.self.inside.options;
    } in
    let change : Change = Add c.args.name.now c.args.at c.args.bytes.items in
    let objects : List NamedObject = objects_of old.contents.entries in
    let o : NamedObject = record { name = c.args.name.now; object = c.in-Ok.object } in
    let next : List NamedObject = insert objects c.in_ok-place.place o in
    let same : old.contents.entries ≡ h.contents.entries =
    sym (ap (λ (k : Contents). k.entries) c.reserve_add.ensures.same.same) in
    let project : held old ≡ held h =
    ap (λ (es : List Listed). let p : Project =
    record { objects = objects_of es; script = c.self.inside.script; options = c.self.inside.options } in p) same in
    let early_here : early_refusal (held c.args.self.now) change ≡ None =
    ap (λ (b : List ℕ). early_refusal (held c.args.self.now) (Add c.args.name.now c.args.at b))
    (sym c.deref.ensures.value) ∙ c.in_ok-place.ensures.ok in
    let early_old = subst (λ (x : ProjectState). early_refusal (held x) change ≡ None)
    (sym c.self.view_is) early_here in
    let early = subst (λ (p : Project). early_refusal p change ≡ None) project early_old in
    let read : o ≡ new_object c.args.name.now c.args.bytes.items =
    ap (λ (d : ObjectData). let x : NamedObject = record { name = c.args.name.now; object = d } in
    x) c.in-Ok.ensures.ok.1 in
    let made : next ≡ insert (objects_of h.contents.entries) c.args.at (new_object c.args.name.now c.args.bytes.items) =
    ap (λ (x : NamedObject). insert objects c.in_ok-place.place x) read
    ∙ (ap (λ (i : ℕ). insert objects i (new_object c.args.name.now c.args.bytes.items)) c.in_ok-place.ensures.place.0
    ∙ ap (λ (es : List Listed). insert (objects_of es) c.args.at
    (new_object c.args.name.now c.args.bytes.items)) same) in
    stages_objects h change next c.staged.result early (c.in-Ok.ensures.ok.0, ap (with_objects (held h)) made)
    (c.staged.ensures.ok h next c.reserve_add.ensures.staged)

-- a new object is touched, and stands at its place
new_stands : (r : Result Staged EditRefusal) (at place : ℕ) → place ≡ at → IfOk r (λ s. IsEditing None s.objects)
    → IfOk r (λ s. s.objects.places.after ≡ Some place)
    → IfOk r (λ s. IsEditing None s.objects × (s.objects.places.after ≡ Some at))
new_stands (Ok s) at place e touching after = (touching, after ∙ ap (λ (k : ℕ). Some k) e)
new_stands (Err r) at place e touching after = touching

pub returns-in-Ok-clause-named : goal.returns-in-Ok-clause-named
returns-in-Ok-clause-named c =
    new_stands c.staged.result c.args.at c.in_ok-place.place c.in_ok-place.ensures.place.0
    (c.staged.ensures.touching None c.reserve_add.ensures.touching)
    (c.staged.ensures.after (Some c.in_ok-place.place) c.reserve_add.ensures.after)
