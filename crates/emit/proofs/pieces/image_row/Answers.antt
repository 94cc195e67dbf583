-- One entry a step.
use Rattle.emit.proofs.Common.{Bool, SectionRef, [], arith, is_some, length-map, map, piece_in, subst, sym}
use Rattle.emit.proofs.Lists.{mapped_at, own_member}
use Rattle.emit.proofs.OfRows.{AreDrawnAs, all_entries, no_entries, one_entry}
use Rattle.emit.proofs.pieces.image_row.Goals as goal

pub loop-k-init : goal.loop-k-init
loop-k-init g c link q same sources row =
    let stays : SectionRef → Bool = λ key. is_some (g.E.PreviousLinkInfo.range c.args.sources.now.previous.now key) in
    subst (AreDrawnAs link.project link.layout stays []) (sym c.in_ok-pieces.ensures.items)
    (no_entries link.project link.layout stays)

pub loop-k-preserved : goal.loop-k-preserved
loop-k-preserved g c link q same sources row =
    let p = c.args.sources.now.project.now in
    let stays : SectionRef → Bool = λ key. is_some (g.E.PreviousLinkInfo.range c.args.sources.now.previous.now key) in
    let rs = c.args.row.now in
    let starts = c.args.starts.now in
    let k = c.loop-k.k in
    one_entry p link.project link.layout stays q (map (piece_in p) rs) starts k _ c.start_at-start.result
    c.loop-k.pieces.items _ row
    (omega (arith, c.loop-k-test.true, length-map rs (piece_in p)))
    (mapped_at (piece_in p) rs k _ (omega (arith, c.loop-k-test.true)) (sym (own_member rs k _)))
    c.start_at-start.ensures
    (λ w whole at stand. c.in_ok-add_unless_empty.ensures link w whole same sources at stand)
    (c.loop-k.invariant link q same sources row)

pub returns : goal.returns
returns g c link q same sources row =
    let p = c.args.sources.now.project.now in
    let stays : SectionRef → Bool = λ key. is_some (g.E.PreviousLinkInfo.range c.args.sources.now.previous.now key) in
    all_entries p link.project link.layout stays q (map (piece_in p) c.args.row.now) c.args.starts.now
    c.loop-k.k c.loop-k.pieces.items row (omega (arith, c.loop-k-test.false, length-map c.args.row.now (piece_in p)))
    (c.loop-k.invariant link q same sources row)
