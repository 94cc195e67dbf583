use Rattle.place_terms.proofs.Common.{KeyedPiece, ap, keyed, keyed_piece, map, refl, starts_in, ◌++◌, ◌∙◌}
use Rattle.place_terms.proofs.Starts.{starts_more}
use Rattle.place_terms.proofs.wholes.starts_of.Goals as goal

pub loop-section-preserved : goal.loop-section-preserved
loop-section-preserved c =
    starts_more keyed (map keyed) (λ y ys. refl) c.args.parts.placed.now
    c.loop-section.section-index c.section-item.result
    (c.args.parts.starts.now ++ starts_in (map keyed c.args.parts.placed.now))
    c.loop-section.list.items c.add_starts.new.list.items
    c.loop-section-test.true c.section-item.is c.loop-section.invariant
    (c.in_ok-add_starts.ensures
    ∙ ap (λ ps. c.loop-section.list.items ++ map (λ (p : KeyedPiece). p.start) (map keyed_piece ps))
    c.deref.ensures.value)
