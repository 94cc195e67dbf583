-- One output section a step.
use Rattle.place_sections.proofs.Common.{Extent, Placed, ap, arith, extent_in, extents_in, false, get_or, length-map}
use Rattle.place_sections.proofs.Common.{sym, ◌∙◌, ◌≡◌}
use Rattle.std.proofs.lemmas.List.{get_or-map}
use Rattle.place_sections.proofs.Covering.{ascends_over_empty, ascends_over_one}
use Rattle.place_sections.proofs.overlaps.are_in_order.Goals as goal

abbrev nowhere : Placed
nowhere = record {
  start = 0;
  size = 0;
  load = 0;
  has_file_bytes = false;
  load_size = 0;
  alignment = 0;
  writable = false;
  executable = false;
}

pub loop-section-preserved-then-extent-eq0 : goal.loop-section-preserved-then-extent-eq0
loop-section-preserved-then-extent-eq0 c =
    let e : Extent = c.extent-extent.result in
    let at : get_or (extents_in c.args.space c.args.sections.now) c.loop-section.section-index e ≡ e =
    get_or-map (extent_in c.args.space) c.args.sections.now c.loop-section.section-index nowhere e
    c.loop-section-test.true ∙ sym c.extent-extent.ensures in
    let size = ap (λ (x : Extent). x.size) at in
    ascends_over_empty (extents_in c.args.space c.args.sections.now) c.loop-section.section-index c.loop-section.end e
    (let l = length-map c.args.sections.now (extent_in c.args.space) in omega (arith, l, c.loop-section-test.true))
    (omega (arith, size, c.if-extent-eq0.true)) c.loop-section.invariant

pub loop-section-preserved : goal.loop-section-preserved
loop-section-preserved c =
    let e : Extent = c.extent-extent.result in
    let at : get_or (extents_in c.args.space c.args.sections.now) c.loop-section.section-index e ≡ e =
    get_or-map (extent_in c.args.space) c.args.sections.now c.loop-section.section-index nowhere e
    c.loop-section-test.true ∙ sym c.extent-extent.ensures in
    let start = ap (λ (x : Extent). x.start) at in
    let size = ap (λ (x : Extent). x.size) at in
    ascends_over_one (extents_in c.args.space c.args.sections.now) c.loop-section.section-index c.loop-section.end
    c.end-end.result e
    (let l = length-map c.args.sections.now (extent_in c.args.space) in omega (arith, l, c.loop-section-test.true))
    (omega (arith, start, c.if-from-end.false, c.from.ensures))
    (omega (arith, start, size, c.end-end.ensures)) c.loop-section.invariant
