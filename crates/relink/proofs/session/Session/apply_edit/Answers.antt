use Rattle.relink.proofs.Common.{AreTablesOf, Change, EditEffect, HasPreviousImage, HasUpdateOutcome, IfSome}
use Rattle.relink.proofs.Common.{IsPreviousLink, KeysAreStable, LinkOutcome, List, Listed, Listing, Option}
use Rattle.relink.proofs.Common.{PreviousLink, PreviousState, Project, ProjectState, Staged, ap, change_of, held, link}
use Rattle.relink.proofs.Common.{listing_of, names_of_edit, next_listing, project_of, refl, shown, subst, sym, ℕ, ◌∙◌}
use Rattle.relink.proofs.Common.{◌≡◌}
use Rattle.relink.specs.Work.{HasWorked, IsWholeWork}
use Rattle.relink.proofs.Bounding.{leaves_script, unchanged_work, whole_work}
use Rattle.relink.proofs.Following.{same_held}
use Rattle.relink.proofs.Lending.{IsFollowing, ended_after, following, last_lent, same_listing}
use Rattle.relink.proofs.Working.{decided_from, is_work, objects_of_edit, same_touched}
use Rattle.relink.proofs.session.Session.apply_edit.Goals as goal

pub returns-then-is_unchanged-clause-counted : goal.returns-then-is_unchanged-clause-counted
returns-then-is_unchanged-clause-counted c =
    let h : ProjectState = c.stage.new.self in
    let a : LinkOutcome = c.self.inside.outcome in
    let previous : Option PreviousLink = c.self.inside.previous in
    let bytes : List ℕ = c.self.inside.canvas.bytes in
    let is : held h ≡ c.args.self.now = same_held c.self.inside.project h c.stage.ensures.same ∙ c.self.view_is in
    let kept : IsPreviousLink (listing_of h) bytes a previous =
    subst (λ (l : Listing). IsPreviousLink l bytes a previous)
    (same_listing c.self.inside.project h c.stage.ensures.same)
    c.self.invariant.2 in
    let small = c.counts_fit.ensures in
    let read = objects_of_edit (change_of c.args.edit) c.args.meter.now c.stage.new.meter small.objects
    c.in_ok-staged.ensures.read in
    unchanged_work (listing_of h) bytes a previous c.args.self.now (held h)
    (change_of c.args.edit) c.args.meter.now c.stage.new.meter is is small read
    (c.self.invariant.0 ∙ ap link c.self.view_is) kept

pub update_and_link-requires : goal.update_and_link-requires
update_and_link-requires c =
    let h : ProjectState = c.stage.new.self in
    let s : Staged = c.in_ok-staged.staged in
    let same = c.puts_same-same.result in
    let a : LinkOutcome = c.self.inside.outcome in
    let e : EditEffect = c.lend_previous.result.0 in
    let previous : Option PreviousLink = c.self.inside.previous in
    let bytes : List ℕ = c.self.inside.canvas.bytes in
    let given : IsFollowing h s same bytes a previous e =
    following c.self.inside.project h s same bytes a previous e c.next-next.result c.keys-keys.result.now
    c.stage.ensures.same c.self.invariant.2 c.in_ok-staged.ensures.staged.0 c.in_ok-staged.ensures.staged.2
    c.next-next.ensures.next c.next-next.ensures.found c.keys-keys.ensures.value c.keys-keys.ensures.distinct
    c.found_where_placed.ensures c.puts_same-same.ensures.same c.puts_same-same.ensures.other
    c.puts_same-same.ensures.named c.lend_previous.ensures.effect in
    let next : Listing = next_listing h s in
    record {
      fits = c.in_ok-staged.ensures.staged.0;
      arranged = c.in_ok-staged.ensures.staged.2;
      one = c.in_ok-staged.ensures.staged.3;
      kept = subst (λ (l : Listing). AreTablesOf l c.self.inside.tables.symbol_table c.self.inside.tables.matches.items)
          (same_listing c.self.inside.project h c.stage.ensures.same) c.self.invariant.1;
      previous = subst (λ (x : Option PreviousState). IfSome x (HasPreviousImage (project_of next) bytes))
          (sym c.lend_previous.ensures.lent)
          (last_lent h s same bytes a e given.edit previous e.keeps_previous refl given.kept given.effect);
    }

pub invariant_of-self-in-Ok : goal.invariant_of-self-in-Ok
invariant_of-self-in-Ok c =
    let h : ProjectState = c.stage.new.self in
    let s : Staged = c.in_ok-staged.staged in
    let same = c.puts_same-same.result in
    let a : LinkOutcome = c.self.inside.outcome in
    let e : EditEffect = c.lend_previous.result.0 in
    let previous : Option PreviousLink = c.self.inside.previous in
    let bytes : List ℕ = c.self.inside.canvas.bytes in
    let given : IsFollowing h s same bytes a previous e =
    following c.self.inside.project h s same bytes a previous e c.next-next.result c.keys-keys.result.now
    c.stage.ensures.same c.self.invariant.2 c.in_ok-staged.ensures.staged.0 c.in_ok-staged.ensures.staged.2
    c.next-next.ensures.next c.next-next.ensures.found c.keys-keys.ensures.value c.keys-keys.ensures.distinct
    c.found_where_placed.ensures c.puts_same-same.ensures.same c.puts_same-same.ensures.other
    c.puts_same-same.ensures.named c.lend_previous.ensures.effect in
    let next : Listing = next_listing h s in
    let answers : shown bytes a ≡ link (held h) =
    c.self.invariant.0 ∙ ap link (sym (same_held c.self.inside.project h c.stage.ensures.same)) in
    let updated = subst (λ (x : Option PreviousState). HasUpdateOutcome next x bytes c.update_and_link.new.canvas.bytes
    c.in-Ok.updated) c.lend_previous.ensures.lent c.in-Ok.ensures.updated.link in
    ended_after h s same bytes c.update_and_link.new.canvas.bytes a c.record_outcome.new.outcome e previous
    c.record_outcome.new.previous
    c.in-Ok.updated c.commit.new.self c.update_and_link.new.self.symbol_table
    c.update_and_link.new.self.matches.items given answers updated c.record_outcome.ensures
    c.in-Ok.ensures.updated.kept
    c.commit.ensures.next

pub returns-in-Ok-clause-counted : goal.returns-in-Ok-clause-counted
returns-in-Ok-clause-counted c =
    let h : ProjectState = c.stage.new.self in
    let s : Staged = c.in_ok-staged.staged in
    let same = c.puts_same-same.result in
    let a : LinkOutcome = c.self.inside.outcome in
    let e : EditEffect = c.lend_previous.result.0 in
    let previous : Option PreviousLink = c.self.inside.previous in
    let bytes : List ℕ = c.self.inside.canvas.bytes in
    let given : IsFollowing h s same bytes a previous e =
    following c.self.inside.project h s same bytes a previous e c.next-next.result c.keys-keys.result.now
    c.stage.ensures.same c.self.invariant.2 c.in_ok-staged.ensures.staged.0 c.in_ok-staged.ensures.staged.2
    c.next-next.ensures.next c.next-next.ensures.found c.keys-keys.ensures.value c.keys-keys.ensures.distinct
    c.found_where_placed.ensures c.puts_same-same.ensures.same c.puts_same-same.ensures.other
    c.puts_same-same.ensures.named c.lend_previous.ensures.effect in
    let next : Listing = next_listing h s in
    let change : Change = change_of c.args.edit in
    let stable = subst (λ (es : List Listed). KeysAreStable h.contents.entries es)
    (ap (λ (l : Listing). l.entries) c.commit.ensures.next) c.commit.ensures.stable in
    let edited = same_touched c.names_of_objects.ensures.one c.names_of_objects.ensures.all h change s
    c.in_ok-staged.ensures.staged.0 c.in_ok-staged.ensures.staged.1 c.in_ok-staged.ensures.staged.2
    c.in_ok-staged.ensures.named stable in
    let small = c.counts_fit.ensures in
    let read = objects_of_edit change c.args.meter.now c.stage.new.meter small.objects c.in_ok-staged.ensures.read in
    let exact = decided_from (held h) change
    (project_of next) c.args.meter.now c.stage.new.meter c.update_and_link.new.meter
    (names_of_edit h.contents.entries s.objects) read c.in-Ok.ensures.updated.decides edited in
    let reading = is_work (held h) change
    (project_of next) c.args.meter.now c.stage.new.meter c.update_and_link.new.meter
    (names_of_edit h.contents.entries s.objects) small read c.in-Ok.ensures.updated.decides exact
    c.distinct_more.ensures in
    let answers : shown bytes a ≡ link (held h) =
    c.self.invariant.0 ∙ ap link (sym (same_held c.self.inside.project h c.stage.ensures.same)) in
    let worked = subst (λ (x : Option PreviousState). HasWorked
    (project_of next) x c.stage.new.meter c.update_and_link.new.meter
    c.in-Ok.updated) c.lend_previous.ensures.lent c.in-Ok.ensures.updated.worked in
    let updated = subst (λ (x : Option PreviousState). HasUpdateOutcome next x bytes c.update_and_link.new.canvas.bytes
    c.in-Ok.updated) c.lend_previous.ensures.lent c.in-Ok.ensures.updated.link in
    let work : IsWholeWork (held h) change (project_of next) c.args.meter.now c.update_and_link.new.meter =
    whole_work h s same bytes c.update_and_link.new.canvas.bytes a e previous c.in-Ok.updated change
    c.args.meter.now c.stage.new.meter c.update_and_link.new.meter given answers updated worked small read
    c.in-Ok.ensures.updated.decides.objects exact
    (leaves_script h change s c.in_ok-staged.ensures.staged.3 c.in_ok-staged.ensures.named) reading in
    subst (λ (p : Project). IsWholeWork p change (held c.commit.new.self) c.args.meter.now
    c.update_and_link.new.meter) (same_held c.self.inside.project h c.stage.ensures.same ∙ c.self.view_is)
    (subst (λ (l : Listing). IsWholeWork (held h) change (project_of l) c.args.meter.now c.update_and_link.new.meter)
    (sym c.commit.ensures.next) work)
