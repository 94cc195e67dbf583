use Rattle.emit_relocate.proofs.Common.{IsSite, Site, ap, is_same_value, not, option_map_or, referenced_value, refl}
use Rattle.emit_relocate.proofs.Common.{site_at_hand, site_value, slice_get, sym, ◌∙◌, ◌≡◌}
use Rattle.elfobj.specs.declared.relocation.SymbolIndex.{SymbolIndex}
use Rattle.ldmodel.specs.SymbolValues.{NotDefined}
use Rattle.emit_relocate.specs.Values.{value_of}
use Rattle.emit_relocate.proofs.retargeted.StayedSection.has_new_value.Goals as goal

pub returns : goal.returns
returns c =
    λ old l s r h is.
    let t : Site = site_at_hand c.args.self.now.section s r in
    let site : IsSite l c.args.self.now.section t = record { placed = h.section_is; start_is = refl } in
    let was : site_value old.project old.layout t ≡ value_of c.value_before.result =
    ap (λ (i : SymbolIndex). option_map_or (referenced_value old.project old.layout s.object)
    (slice_get s.object.object.symbols i.0) NotDefined) is
    ∙ sym (ap value_of c.value_before.ensures ∙ h.before c.args.symbol.0) in
    ap not (c.is_same_value.ensures
    ∙ ap (λ v. is_same_value v (value_of c.site_value.result)) (sym was)
    ∙ ap (λ v. is_same_value (site_value old.project old.layout t) v) (c.site_value.ensures l t site is))
