use Rattle.relink_driver.proofs.Common.{AreSameBefore, IfSome, IsNext, IsPreviousOf, IsResumable, PreviousState}
use Rattle.relink_driver.proofs.Common.{Project, ap, entries_from, first_changed, previous_of, previous_state, provided}
use Rattle.relink_driver.proofs.Common.{same_Some, subst, sym, ◌∙◌, ◌≡◌, ◌≤◌}
use Rattle.ldmodel.specs.Rows as model
use Rattle.relink_driver.proofs.Resumed.{are_same, is_first, is_kept}
use Rattle.relink_driver.proofs.resume.resume_point.Goals as goal

pub returns-clause-kept : goal.returns-clause-kept
returns-clause-kept c = λ old h.
    let new : Project = c.args.project.now in
    let x : PreviousState = previous_state c.in_ok-previous.previous in
    let previous : IsPreviousOf old new x = subst
    (λ m. IfSome (previous_of m) (IsPreviousOf old new)) c.in_ok-previous.was h in
    let first = c.first_changed-first_row.ensures
    ∙ ap (λ l. first_changed x new l c.args.rows.now) c.deref.ensures.value in
    subst (λ n. IsResumable new.script (model.rows new) x.snapshot.indexed_layout.link_layout.placement n) (sym first)
    (is_kept old new x previous c.args.rows.now c.requires.rows c.if-not-previous.false)

pub returns-clause-same : goal.returns-clause-same
returns-clause-same c = λ old y e h.
    let new : Project = c.args.project.now in
    let x : PreviousState = previous_state c.in_ok-previous.previous in
    let is : x ≡ y = same_Some _ _ (sym (ap previous_of c.in_ok-previous.was) ∙ e) in
    let previous : IsPreviousOf old new x = subst (IsPreviousOf old new) (sym is) h in
    let first = c.first_changed-first_row.ensures
    ∙ ap (λ l. first_changed x new l c.args.rows.now) c.deref.ensures.value in
    subst (AreSameBefore old.project new) (sym first) (are_same old new x previous c.args.rows.now c.requires.rows)

pub returns-clause-first : goal.returns-clause-first
returns-clause-first c = λ old y e h g n same.
    let new : Project = c.args.project.now in
    let x : PreviousState = previous_state c.in_ok-previous.previous in
    let is : x ≡ y = same_Some _ _ (sym (ap previous_of c.in_ok-previous.was) ∙ e) in
    let previous : IsPreviousOf old new x = subst (IsPreviousOf old new) (sym is) h in
    let next : IsNext old.project new x = subst (IsNext old.project new) (sym is) g in
    let first = c.first_changed-first_row.ensures
    ∙ ap (λ l. first_changed x new l c.args.rows.now) c.deref.ensures.value in
    subst (λ k. entries_from k (model.rows new) ≤ entries_from n (model.rows new)) (sym first)
    (is_first old new x previous c.args.rows.now c.requires.rows next
    (c.placed_are_rows.ensures old.project
    (provided old.project) old.layout previous.table.indexed_layout.link_layout.placed) n
    same)
