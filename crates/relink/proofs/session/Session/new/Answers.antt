use Rattle.relink.proofs.Common.{EditEffect, None, false, listing_of, true}
use Rattle.relink.proofs.Lending.{ended, none_kept}
use Rattle.relink.proofs.session.Session.new.Goals as goal

pub invariant_of-result : goal.invariant_of-result
invariant_of-result c =
    let l = listing_of c.new-project.result in
    let e : EditEffect = record { keeps_previous = true; stale_key = None; same_script = true; is_answered = false } in
    let both = ended l None c.new-canvas.result.bytes c.link_without_previous.new.canvas.bytes c.in_ok-updated.updated e
    None
    c.record_outcome.new.previous _ c.record_outcome.new.outcome c.in_ok-updated.ensures.updated
    c.record_outcome.ensures
    (none_kept l c.new-canvas.result.bytes None true)
    (λ v by renewed. absurd (let was = by.end.was in let never : ⊥ = cc in never)) in
    (both.0, c.in_ok-tables.ensures, both.1)
