use Rattle.relink_driver.proofs.Common.{provided}
use Rattle.relink_driver.proofs.Placing.{any_last, are_placed}
use Rattle.relink_driver.proofs.passes.assign_addresses.Goals as goal

pub of-requires-clause-kept : goal.of-requires-clause-kept
of-requires-clause-kept c =
    let earlier = any_last c.args.context.project.now _ c.requires.previous in
    c.resume_point-kept.ensures.kept earlier.0 earlier.1

pub returns-in-Ok-clause-counted : goal.returns-in-Ok-clause-counted
returns-in-Ok-clause-counted c =
    let p = c.args.context.project.now in
    let good = c.in-Ok.ensures.good in
    are_placed p good.layout _ good.is.places.counts
    (c.placed_are_rows.ensures p (provided p) good.layout good.is.placed) _ _ _ c.resume_point-kept.result
    c.in-Ok.ensures.exact c.resume_point-kept.ensures.same c.resume_point-kept.ensures.some
    c.resume_point-kept.ensures.none
    c.resume_point-kept.ensures.first
