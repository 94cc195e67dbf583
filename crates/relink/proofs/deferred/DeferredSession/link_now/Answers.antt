use Rattle.relink.proofs.Common.{Deferred, Some, Staged, ap, link, linked_of, next_listing, project_of, sym, ◌∙◌, ◌≡◌}
use Rattle.relink.proofs.DeferredCounts.{linking_work}
use Rattle.relink.proofs.Deferring.{linked_now, with_staged}
use Rattle.relink.proofs.deferred.DeferredSession.link_now.Goals as goal

pub invariant_of-self-in-Ok : goal.invariant_of-self-in-Ok
invariant_of-self-in-Ok c =
    let s = c.self.inside in
    let staged : Staged = c.in-Some.staged in
    let is : s.staged ≡ Some staged = sym c.take.ensures.value ∙ c.in-Some.is in
    linked_now s.project c.commit.new.self staged c.take.new.self c.link_staged.new.tables
    c.link_staged.new.canvas.bytes c.record_outcome.new.outcome c.record_outcome.new.previous c.take.ensures.after
    c.commit.ensures.next c.in-Ok.ensures.tables
    (c.in-Ok.ensures.updated s.last_link.is_linked s.last_link.outcome c.record_outcome.new.outcome
    c.record_outcome.new.previous
    c.seen.ensures c.self.invariant.3 c.record_outcome.ensures)

pub returns-clause-linked : goal.returns-clause-linked
returns-clause-linked c =
    let s = c.self.inside in
    let staged : Staged = c.in-Some.staged in
    let is : s.staged ≡ Some staged = sym c.take.ensures.value ∙ c.in-Some.is in
    let shows : project_of (next_listing s.project staged) ≡ c.args.self.now.project =
    sym (ap project_of (with_staged s.project s.staged staged is)) ∙ ap (λ (d : Deferred). d.project) c.self.view_is in
    let both = c.in-Ok.ensures.updated s.last_link.is_linked s.last_link.outcome c.record_outcome.new.outcome
    c.record_outcome.new.previous c.seen.ensures c.self.invariant.3 c.record_outcome.ensures in
    c.summary-in-Ok.ensures ∙ ap linked_of (both.0 ∙ ap link shows)

pub returns-clause-last : goal.returns-clause-last
returns-clause-last c =
    let s = c.self.inside in
    let staged : Staged = c.in-Some.staged in
    let is : s.staged ≡ Some staged = sym c.take.ensures.value ∙ c.in-Some.is in
    let shows : project_of (next_listing s.project staged) ≡ c.args.self.now.project =
    sym (ap project_of (with_staged s.project s.staged staged is)) ∙ ap (λ (d : Deferred). d.project) c.self.view_is in
    let both = c.in-Ok.ensures.updated s.last_link.is_linked s.last_link.outcome c.record_outcome.new.outcome
    c.record_outcome.new.previous c.seen.ensures c.self.invariant.3 c.record_outcome.ensures in
    both.0 ∙ ap link shows

pub returns-clause-counted : goal.returns-clause-counted
returns-clause-counted c =
    let s = c.self.inside in
    let staged : Staged = c.in-Some.staged in
    let is : s.staged ≡ Some staged = sym c.take.ensures.value ∙ c.in-Some.is in
    linking_work s.project s.last_link.is_linked s.tables s.staged staged s.canvas.bytes s.last_link.outcome
    c.seen.result.now
    c.args.self.now c.args.meter.now c.link_staged.new.meter is
    (sym (ap (λ (d : Deferred). d.is_linked) c.self.view_is))
    (sym (ap (λ (d : Deferred). d.is_resolved) c.self.view_is))
    (sym (ap (λ (d : Deferred). d.edited) c.self.view_is))
    (ap (λ (d : Deferred). d.project) c.self.view_is) c.seen.ensures c.self.invariant.3
    c.in-Ok.ensures.reads c.in-Ok.ensures.counted
