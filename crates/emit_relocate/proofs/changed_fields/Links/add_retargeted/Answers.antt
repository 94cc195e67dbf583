use Rattle.emit_relocate.proofs.Common.{HasSomeStayed, NamedSymbol, ap, arith, length, length-map, refl, results_of}
use Rattle.emit_relocate.proofs.Common.{subst, sym, ◌∙◌, ◌≡◌}
use Rattle.emit_relocate.proofs.Changing.{kept_by, retained}
use Rattle.emit_relocate.proofs.Moving.{moved_placed, moved_unplaced}
use Rattle.emit_relocate.proofs.changed_fields.Links.add_retargeted.Goals as goal

pub returns-in-None : goal.returns-in-None
returns-in-None g c =
    λ old l s k h kept.
    let a = results_of c.args.fields.now c.args.meter.now in
    retained old l (g.E.PreviousLinkInfo.range c.args.self.now.previous.now) s _ c.args.range a a kept.stayed refl refl
    (moved_unplaced old l c.args.range s (c.in-None.ensures.place l s k.link k.below h) a.patches a.faults a.counts
    (omega (arith, c.fields-fields.type_inv, c.fields-fields.ensures)))

pub returns-in_ok-add_retargeted-in-Some : goal.returns-in_ok-add_retargeted-in-Some
returns-in_ok-add_retargeted-in-Some g c =
    λ old l s k h kept.
    let range = g.E.PreviousLinkInfo.range c.args.self.now.previous.now in
    let of_object = kept_by range _ _ kept.known in
    let place = c.in-Some.ensures.place l s k.link k.below h in
    let placed = place.section_is in
    let many : length s.object.object.symbols ≡ length c.in-Some.section.symbols.now =
    sym (ap length placed.symbols_are
    ∙ length-map s.object.object.symbols (λ (y : NamedSymbol). y.symbol)) in
    retained old l range s _ c.args.range _ _ kept.stayed refl refl
    (moved_placed old l c.args.range s c.in-Some.section place _ _ _ _ _ _
    (c.in_ok-add_retargeted-in-Some.ensures old l s (record {
      before =
          c.values.ensures old l s.object k.previous
          (subst (HasSomeStayed range) (sym c.in-Some.ensures.object) of_object)
          placed.object_is many;
      section_is = placed;
    })))
