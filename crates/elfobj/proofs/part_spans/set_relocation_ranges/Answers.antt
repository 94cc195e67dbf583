use Rattle.elfobj.proofs.Common.{PartSpans, Span, ap, arith, length, length-map, refl, sym, ◌<◌, ◌∙◌, ◌≡◌}
use Rattle.elfobj.proofs.Placed.{part_kept, part_more}
use Rattle.elfobj.proofs.part_spans.set_relocation_ranges.Goals as goal

abbrev no_span : Span
no_span = record { start = 0; end = 0 }

abbrev no_place : PartSpans
no_place = record { name = no_span; bytes = no_span; relocations = no_span }

pub loop-at-preserved : goal.loop-at-preserved
loop-at-preserved c =
    let long : length c.loop-at.part_spans ≡ length c.args.part_spans.now =
    sym (length-map c.loop-at.part_spans (λ (p : PartSpans). p.name)) ∙ ap length c.loop-at.invariant.names
    ∙ length-map c.args.part_spans.now (λ (p : PartSpans). p.name) in
    let l : c.loop-at.at < length c.loop-at.part_spans = omega (arith, long, c.loop-at-test.true) in
    let m : c.loop-at.at < length c.args.spans.now = omega (arith, l, long, c.requires) in
    record {
      relocations = part_more (λ (p : PartSpans). p.relocations) c.loop-at.part_spans c.args.spans.now c.loop-at.at _
          no_span l
          m refl c.loop-at.invariant.relocations;
      names = part_kept (λ (p : PartSpans). p.name) c.loop-at.part_spans c.loop-at.at no_place _ l refl
          ∙ c.loop-at.invariant.names;
      bytes = part_kept (λ (p : PartSpans). p.bytes) c.loop-at.part_spans c.loop-at.at no_place _ l refl
          ∙ c.loop-at.invariant.bytes;
    }
