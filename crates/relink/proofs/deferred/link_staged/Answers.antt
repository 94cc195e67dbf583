use Rattle.relink.proofs.Common.{Counts, HasPreviousImage, HasUpdateOutcome, IfSome, Listing, Option, PreviousState}
use Rattle.relink.proofs.Common.{ReadsNothing, ap, arith, held, is_some, lent_of, next_listing, project_of, refl, subst}
use Rattle.relink.proofs.Common.{sym, ◌∙◌}
use Rattle.relink.specs.Work.{HasPlacedWork, HasWorked}
use Rattle.relink.proofs.Bounding.{linked_work}
use Rattle.relink.proofs.DeferredCounts.{leaves_if}
use Rattle.relink.proofs.Deferring.{staged_following, updated_over}
use Rattle.relink.proofs.Lending.{last_lent}
use Rattle.relink.proofs.deferred.link_staged.Goals as goal

pub link_next-updated-requires-clause-previous : goal.link_next-updated-requires-clause-previous
link_next-updated-requires-clause-previous c =
    let h = c.args.project.now in
    let s = c.args.staged.now in
    let same = c.puts_same-same.result in
    let e = c.lend_previous.result.0 in
    let bytes = c.args.canvas.now.bytes in
    let x = staged_following h s same bytes c.args.seen.outcome.now c.args.seen.previous.now e c.next-next.result
    c.keys-keys.result.now c.requires.staged c.next-next.ensures.next c.next-next.ensures.found
    c.keys-keys.ensures.value c.keys-keys.ensures.distinct c.found_where_placed.ensures c.puts_same-same.ensures.same
    c.puts_same-same.ensures.other c.puts_same-same.ensures.named c.lend_previous.ensures.effect c.requires.previous in
    subst (λ (l : Listing). IfSome (lent_of c.lend_previous.result.1) (HasPreviousImage (project_of l) bytes))
    (sym c.next-next.ensures.next)
    (subst (λ (o : Option PreviousState). IfSome o (HasPreviousImage (project_of (next_listing h s)) bytes))
    (sym c.lend_previous.ensures.lent)
    (last_lent h s same bytes c.args.seen.outcome.now e x.edit c.args.seen.previous.now e.keeps_previous refl x.kept
    x.effect))

pub returns-in-Ok-clause-updated : goal.returns-in-Ok-clause-updated
returns-in-Ok-clause-updated c =
    let h = c.args.project.now in
    let s = c.args.staged.now in
    let same = c.puts_same-same.result in
    let e = c.lend_previous.result.0 in
    let bytes = c.args.canvas.now.bytes in
    let new = c.link_next-updated.new.canvas.bytes in
    let x = staged_following h s same bytes c.args.seen.outcome.now c.args.seen.previous.now e c.next-next.result
    c.keys-keys.result.now c.requires.staged c.next-next.ensures.next c.next-next.ensures.found
    c.keys-keys.ensures.value c.keys-keys.ensures.distinct c.found_where_placed.ensures c.puts_same-same.ensures.same
    c.puts_same-same.ensures.other c.puts_same-same.ensures.named c.lend_previous.ensures.effect c.requires.previous in
    updated_over h s same bytes new c.args.seen.outcome.now c.args.seen.previous.now e x c.in-Ok.updated
    (subst (λ (o : Option PreviousState). HasUpdateOutcome (next_listing h s) o bytes new c.in-Ok.updated)
    c.lend_previous.ensures.lent
    (subst (λ (l : Listing). HasUpdateOutcome l (lent_of c.lend_previous.result.1) bytes new c.in-Ok.updated)
    c.next-next.ensures.next c.in-Ok.ensures.updated))

pub returns-in-Ok-clause-counted : goal.returns-in-Ok-clause-counted
returns-in-Ok-clause-counted c = λ made change keeps answers.
    let h = c.args.project.now in
    let s = c.args.staged.now in
    let same = c.puts_same-same.result in
    let e = c.lend_previous.result.0 in
    let bytes = c.args.canvas.now.bytes in
    let new = c.link_next-updated.new.canvas.bytes in
    let m1 = c.tables_of_next.new.meter in
    let m2 = c.link_next-updated.new.meter in
    let small = c.counts_fit.ensures in
    let none = c.tables_of_next.ensures.kept (ap is_some c.take.ensures.value ∙ made) in
    let x = staged_following h s same bytes c.args.seen.outcome.now c.args.seen.previous.now e c.next-next.result
    c.keys-keys.result.now c.requires.staged c.next-next.ensures.next c.next-next.ensures.found
    c.keys-keys.ensures.value c.keys-keys.ensures.distinct c.found_where_placed.ensures c.puts_same-same.ensures.same
    c.puts_same-same.ensures.other c.puts_same-same.ensures.named c.lend_previous.ensures.effect c.requires.previous in
    let updated = subst (λ (o : Option PreviousState). HasUpdateOutcome (next_listing h s) o bytes new c.in-Ok.updated)
    c.lend_previous.ensures.lent
    (subst (λ (l : Listing). HasUpdateOutcome l (lent_of c.lend_previous.result.1) bytes new c.in-Ok.updated)
    c.next-next.ensures.next c.in-Ok.ensures.updated) in
    let worked = subst (λ (o : Option PreviousState). HasWorked (project_of (next_listing h s)) o m1 m2 c.in-Ok.updated)
    c.lend_previous.ensures.lent
    (subst (λ (l : Listing). HasWorked (project_of l) (lent_of c.lend_previous.result.1) m1 m2 c.in-Ok.updated)
    c.next-next.ensures.next c.in-Ok.ensures.worked) in
    let q = project_of (next_listing h s) in
    subst (λ (m : Counts). HasPlacedWork (held h) change q m m2) none
    (linked_work h s same bytes new c.args.seen.outcome.now e c.args.seen.previous.now c.in-Ok.updated change m1 m2 x
    answers
    updated worked
    (omega (arith, small.pieces, ap (λ (m : Counts). m.pieces) none))
    (omega (arith, small.fields, ap (λ (m : Counts). m.fields) none))
    (omega (arith, small.bytes, ap (λ (m : Counts). m.bytes) none))
    (leaves_if change s keeps))

pub returns-in-Ok-clause-reads : goal.returns-in-Ok-clause-reads
returns-in-Ok-clause-reads c = λ made.
    subst (λ (m : Counts). ReadsNothing m c.link_next-updated.new.meter)
    (c.tables_of_next.ensures.kept (ap is_some c.take.ensures.value ∙ made)) c.in-Ok.ensures.reads
