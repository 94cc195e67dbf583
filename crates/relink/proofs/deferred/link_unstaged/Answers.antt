use Rattle.relink.proofs.Common.{Bool, Counts, EditEffect, HasPreviousImage, HasUpdateOutcome, IfSome, IsRecorded}
use Rattle.relink.proofs.Common.{Option, PreviousState, ReadsNothing, ap, held, is_some, listing_of, subst, sym, ◌∙◌}
use Rattle.relink.specs.Deferred.{IsLastGood}
use Rattle.relink.proofs.DeferredCounts.{nothing_counted}
use Rattle.relink.proofs.Deferring.{any_last_good, later_lent, linked_later}
use Rattle.relink.proofs.deferred.link_unstaged.Goals as goal

pub returns-then-is_up_to_date-clause-last : goal.returns-then-is_up_to_date-clause-last
returns-then-is_up_to_date-clause-last c =
    subst (λ (b : Bool). IsLastGood b (listing_of c.args.project.now) c.args.canvas.now.bytes c.args.last.now.outcome
    c.args.last.now.previous) (c.is_up_to_date.ensures.yes c.if-is_up_to_date.true).0 c.requires.last

pub link_committed-updated-requires-clause-previous : goal.link_committed-updated-requires-clause-previous
link_committed-updated-requires-clause-previous c =
    let h = c.args.project.now in
    let bytes = c.args.canvas.now.bytes in
    subst (λ (x : Option PreviousState). IfSome x (HasPreviousImage (held h) bytes)) (sym c.lend_later.ensures)
    (later_lent h bytes c.args.last.now.outcome c.args.last.now.previous c.keys.result.now
    (any_last_good c.args.last.now.is_linked (listing_of h) bytes c.args.last.now.outcome c.args.last.now.previous
    c.requires.last)
    c.keys.ensures.value c.keys.ensures.distinct)

pub returns-clause-answers : goal.returns-clause-answers
returns-clause-answers c =
    let l = listing_of c.args.project.now in
    let old = c.args.canvas.now.bytes in
    let new = c.link_committed-updated.new.canvas.bytes in
    (linked_later l c.keys.result.now old new c.in_ok-updated.updated c.args.last.now.previous
    c.record_outcome.new.previous
    c.args.last.now.outcome c.record_outcome.new.outcome
    (subst (λ (x : Option PreviousState). HasUpdateOutcome l x old new c.in_ok-updated.updated) c.lend_later.ensures
    c.in_ok-updated.ensures.updated)
    (subst (λ (e : EditEffect). IsRecorded c.in_ok-updated.updated e c.args.last.now.previous
    c.record_outcome.new.previous
    c.args.last.now.outcome c.record_outcome.new.outcome) c.no_effect.ensures c.record_outcome.ensures)
    (any_last_good c.args.last.now.is_linked l old c.args.last.now.outcome c.args.last.now.previous c.requires.last)).0

pub returns-clause-last : goal.returns-clause-last
returns-clause-last c =
    let l = listing_of c.args.project.now in
    let old = c.args.canvas.now.bytes in
    let new = c.link_committed-updated.new.canvas.bytes in
    (linked_later l c.keys.result.now old new c.in_ok-updated.updated c.args.last.now.previous
    c.record_outcome.new.previous
    c.args.last.now.outcome c.record_outcome.new.outcome
    (subst (λ (x : Option PreviousState). HasUpdateOutcome l x old new c.in_ok-updated.updated) c.lend_later.ensures
    c.in_ok-updated.ensures.updated)
    (subst (λ (e : EditEffect). IsRecorded c.in_ok-updated.updated e c.args.last.now.previous
    c.record_outcome.new.previous
    c.args.last.now.outcome c.record_outcome.new.outcome) c.no_effect.ensures c.record_outcome.ensures)
    (any_last_good c.args.last.now.is_linked l old c.args.last.now.outcome c.args.last.now.previous c.requires.last)).1

pub returns-then-is_up_to_date-clause-reads : goal.returns-then-is_up_to_date-clause-reads
returns-then-is_up_to_date-clause-reads c = λ made. nothing_counted c.args.meter.now

pub returns-clause-reads : goal.returns-clause-reads
returns-clause-reads c = λ made.
    subst (λ (m : Counts). ReadsNothing m c.link_committed-updated.new.meter)
    (c.tables_of_project.ensures.kept (ap is_some c.take.ensures.value ∙ made)) c.in_ok-updated.ensures.reads
