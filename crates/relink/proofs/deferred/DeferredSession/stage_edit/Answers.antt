use Rattle.relink.proofs.Common.{Change, Deferred, HasTables, Listing, ProjectState, Staged, ap, change_of, held}
use Rattle.relink.proofs.Common.{project_of, refl, shown, subst, sym, ◌∙◌, ◌≡◌}
use Rattle.ldmodel_project.proofs.Steps.{Fits-stable}
use Rattle.relink.proofs.Bounding.{leaves_script}
use Rattle.relink.proofs.DeferredCounts.{linked_parts, resolved_work, still_linked, unchanged_staging}
use Rattle.relink.proofs.DeferredEdits.{staged_edit, unchanged_edit}
use Rattle.relink.proofs.Deferring.{made, no_staged, shown_project, staying, unlinked}
use Rattle.relink.proofs.Working.{objects_of_edit, same_touched}
use Rattle.relink.proofs.deferred.DeferredSession.stage_edit.Goals as goal

pub invariant_of-self-then-is_unchanged : goal.invariant_of-self-then-is_unchanged
invariant_of-self-then-is_unchanged c =
    let s = c.self.inside in
    let h : ProjectState = c.stage.new.self in
    let is = made s.project c.commit_staged_unlinked.new.project h s.staged c.commit_staged_unlinked.ensures.project
    c.stage.ensures.same in
    staying s.project c.commit_staged_unlinked.new.project h c.commit_staged_unlinked.new.staged s.tables
    s.canvas.bytes s.last_link.outcome s.last_link.previous c.commit_staged_unlinked.new.previous s.last_link.is_linked
    c.commit_staged_unlinked.new.is_linked c.commit_staged_unlinked.ensures.none c.stage.ensures.same
    c.commit_staged_unlinked.ensures.previous
    c.commit_staged_unlinked.ensures.linked c.self.invariant.2 c.self.invariant.3
    (subst (λ (l : Listing). HasTables l s.tables) (sym is) c.self.invariant.1)

pub invariant_of-self-in-Err : goal.invariant_of-self-in-Err
invariant_of-self-in-Err c =
    let s = c.self.inside in
    let h : ProjectState = c.stage.new.self in
    let is = made s.project c.commit_staged_unlinked.new.project h s.staged c.commit_staged_unlinked.ensures.project
    c.stage.ensures.same in
    staying s.project c.commit_staged_unlinked.new.project h c.commit_staged_unlinked.new.staged
    c.follow_if_made.new.tables
    s.canvas.bytes s.last_link.outcome s.last_link.previous c.commit_staged_unlinked.new.previous s.last_link.is_linked
    c.commit_staged_unlinked.new.is_linked c.commit_staged_unlinked.ensures.none c.stage.ensures.same
    c.commit_staged_unlinked.ensures.previous
    c.commit_staged_unlinked.ensures.linked c.self.invariant.2 c.self.invariant.3
    c.in-Err.ensures.back

pub follow_if_made-requires-clause-staged : goal.follow_if_made-requires-clause-staged
follow_if_made-requires-clause-staged c = record {
  fits = c.in_ok-staged.ensures.staged.0;
  arranged = c.in_ok-staged.ensures.staged.2;
  one = c.in_ok-staged.ensures.staged.3;
}

pub follow_if_made-requires-clause-tables : goal.follow_if_made-requires-clause-tables
follow_if_made-requires-clause-tables c =
    let s = c.self.inside in
    let h : ProjectState = c.stage.new.self in
    let is = made s.project c.commit_staged_unlinked.new.project h s.staged c.commit_staged_unlinked.ensures.project
    c.stage.ensures.same in
    subst (λ (l : Listing). HasTables l s.tables) (sym is) c.self.invariant.1

pub invariant_of-self-in-Ok : goal.invariant_of-self-in-Ok
invariant_of-self-in-Ok c =
    let s = c.self.inside in
    let h : ProjectState = c.stage.new.self in
    let is = made s.project c.commit_staged_unlinked.new.project h s.staged c.commit_staged_unlinked.ensures.project
    c.stage.ensures.same in
    let last = unlinked s.project c.commit_staged_unlinked.new.project h s.canvas.bytes s.last_link.outcome
    s.last_link.previous
    c.commit_staged_unlinked.new.previous s.last_link.is_linked c.commit_staged_unlinked.new.is_linked
    c.stage.ensures.same
    c.commit_staged_unlinked.ensures.previous c.commit_staged_unlinked.ensures.linked c.self.invariant.2
    c.self.invariant.3 in (
      record {
        fits = c.in_ok-staged.ensures.staged.0;
        arranged = c.in_ok-staged.ensures.staged.2;
        one = c.in_ok-staged.ensures.staged.3;
      },
      c.in-Ok.ensures.kept,
      last.0,
      last.1,
    )

pub returns-then-is_unchanged-clause-counted : goal.returns-then-is_unchanged-clause-counted
returns-then-is_unchanged-clause-counted c = λ linked.
    let s = c.self.inside in
    let h : ProjectState = c.stage.new.self in
    let parts = linked_parts s.last_link.is_linked s.tables s.staged
    (ap (λ (d : Deferred). d.is_linked) c.self.view_is ∙ linked) in
    let is : held h ≡ c.args.self.now.project =
    shown_project s.project c.commit_staged_unlinked.new.project h s.staged c.args.self.now
    c.commit_staged_unlinked.ensures.project
    c.stage.ensures.same (ap (λ (d : Deferred). d.project) c.self.view_is) in
    let small = c.counts_fit.ensures in
    let read = objects_of_edit (change_of c.args.edit) c.args.meter.now c.stage.new.meter small.objects
    c.in_ok-staged.ensures.read in
    unchanged_staging c.args.self.now.project (change_of c.args.edit) _ c.args.meter.now c.stage.new.meter small read
    (ap project_of (no_staged h c.commit_staged_unlinked.new.staged c.commit_staged_unlinked.ensures.none) ∙ is)
    (still_linked c.commit_staged_unlinked.new.is_linked s.tables c.commit_staged_unlinked.new.staged
    (c.commit_staged_unlinked.ensures.kept parts.2 ∙ parts.0) parts.1 c.commit_staged_unlinked.ensures.none)

pub returns-in-Ok-clause-counted : goal.returns-in-Ok-clause-counted
returns-in-Ok-clause-counted c = λ linked.
    let s = c.self.inside in
    let h : ProjectState = c.stage.new.self in
    let staged : Staged = c.in_ok-staged.staged in
    let change : Change = change_of c.args.edit in
    let parts = linked_parts s.last_link.is_linked s.tables s.staged
    (ap (λ (d : Deferred). d.is_linked) c.self.view_is ∙ linked) in
    let is : held h ≡ c.args.self.now.project =
    shown_project s.project c.commit_staged_unlinked.new.project h s.staged c.args.self.now
    c.commit_staged_unlinked.ensures.project
    c.stage.ensures.same (ap (λ (d : Deferred). d.project) c.self.view_is) in
    let small = c.counts_fit.ensures in
    let read = objects_of_edit change c.args.meter.now c.stage.new.meter small.objects c.in_ok-staged.ensures.read in
    let same = same_touched c.names_of_objects.ensures.one c.names_of_objects.ensures.all h change staged
    c.in_ok-staged.ensures.staged.0 c.in_ok-staged.ensures.staged.1 c.in_ok-staged.ensures.staged.2
    c.in_ok-staged.ensures.named (Fits-stable h.contents staged.objects c.in_ok-staged.ensures.staged.0) in
    resolved_work h staged change c.commit_staged_unlinked.new.is_linked c.follow_if_made.new.tables
    (shown s.canvas.bytes s.last_link.outcome) c.args.self.now.project c.args.meter.now c.stage.new.meter
    c.follow_if_made.new.meter is (c.commit_staged_unlinked.ensures.kept parts.2 ∙ parts.0)
    (c.in-Ok.ensures.made parts.1) small
    read (c.in-Ok.ensures.counted parts.1) same c.distinct_more.ensures
    (leaves_script h change staged c.in_ok-staged.ensures.staged.3 c.in_ok-staged.ensures.named)

pub returns-then-is_unchanged-clause-each : goal.returns-then-is_unchanged-clause-each
returns-then-is_unchanged-clause-each c =
    let s = c.self.inside in
    let h : ProjectState = c.stage.new.self in
    let is : held h ≡ c.args.self.now.project =
    shown_project s.project c.commit_staged_unlinked.new.project h s.staged c.args.self.now
    c.commit_staged_unlinked.ensures.project
    c.stage.ensures.same (ap (λ (d : Deferred). d.project) c.self.view_is) in
    let small = c.counts_fit.ensures in
    let read = objects_of_edit (change_of c.args.edit) c.args.meter.now c.stage.new.meter small.objects
    c.in_ok-staged.ensures.read in
    unchanged_edit c.args.self.now (change_of c.args.edit) _ c.args.meter.now c.stage.new.meter small read
    (ap project_of (no_staged h c.commit_staged_unlinked.new.staged c.commit_staged_unlinked.ensures.none) ∙ is)
    (ap (λ (d : Deferred). d.is_resolved) c.self.view_is)

pub returns-in-Ok-clause-each : goal.returns-in-Ok-clause-each
returns-in-Ok-clause-each c =
    let s = c.self.inside in
    let h : ProjectState = c.stage.new.self in
    let staged : Staged = c.in_ok-staged.staged in
    let change : Change = change_of c.args.edit in
    let is : held h ≡ c.args.self.now.project =
    shown_project s.project c.commit_staged_unlinked.new.project h s.staged c.args.self.now
    c.commit_staged_unlinked.ensures.project
    c.stage.ensures.same (ap (λ (d : Deferred). d.project) c.self.view_is) in
    let small = c.counts_fit.ensures in
    let read = objects_of_edit change c.args.meter.now c.stage.new.meter small.objects c.in_ok-staged.ensures.read in
    let same = same_touched c.names_of_objects.ensures.one c.names_of_objects.ensures.all h change staged
    c.in_ok-staged.ensures.staged.0 c.in_ok-staged.ensures.staged.1 c.in_ok-staged.ensures.staged.2
    c.in_ok-staged.ensures.named (Fits-stable h.contents staged.objects c.in_ok-staged.ensures.staged.0) in
    staged_edit h staged c.args.self.now change _ s.tables c.follow_if_made.new.tables c.args.meter.now
    c.stage.new.meter c.follow_if_made.new.meter is (sym (ap (λ (d : Deferred). d.is_resolved) c.self.view_is)) refl
    refl small read c.in-Ok.ensures.made c.in-Ok.ensures.none c.in-Ok.ensures.counted same
