-- The parts of the image's tail, one after another.
use Rattle.place.proofs.Common.{◌∙◌}
use Rattle.place.proofs.Tail.{follow_all, loaded_is, sum_is}
use Rattle.place.proofs.length.image_length.Goals as goal

pub returns : goal.returns
returns c p s are tail =
    sum_is p s c.loaded_end.result c.align-symbols.result c.from.result c.from-2.result c.from-3.result c.from-4.result
    c.align-headers.result
    (c.loaded_end.ensures.exact (follow_all s.sections c.args.segments.now are)
    ∙ loaded_is s.sections c.args.segments.now are)
    c.align-symbols.ensures (c.from.ensures ∙ tail.symbols) (c.from-2.ensures ∙ tail.symbol_names)
    (c.from-3.ensures ∙ tail.header_names) (c.from-4.ensures ∙ tail.sections) c.align-headers.ensures
