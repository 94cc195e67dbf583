use Rattle.emit_relocate.proofs.Common.{ObjectData, ap, arith, length, length-map, refl, section_of, slice_get, ◌∙◌}
use Rattle.emit_relocate.specs.SymbolValues.{IsRow}
use Rattle.emit_relocate.proofs.Changing.{changed_none, next_section, whole_object}
use Rattle.emit_relocate.proofs.SymbolValueRows.{row_is}
use Rattle.emit_relocate.proofs.changed_fields.Links.add_object.Goals as goal

pub loop-index-init : goal.loop-index-init
loop-index-init g c =
    λ old l o k named same.
    changed_none old l (g.E.PreviousLinkInfo.range c.args.self.now.previous.now) _ _ refl refl refl refl refl
    (omega (arith, c.fields-fields.type_inv, c.fields-fields.ensures))

pub loop-index-preserved : goal.loop-index-preserved
loop-index-preserved g c =
    λ old l o k named same.
    let many = ap length c.sections-index-end.ensures.value ∙ length-map c.args.object.now.sections section_of in
    let row : IsRow l o c.slice-values.result.now =
    row_is l c.args.self.now.symbols.now c.args.place o c.args.object.now c.symbols.result.now
    c.slice-values.result.now k.symbols named same c.symbols.ensures.value c.slice-values.ensures.is in
    next_section old l (g.E.PreviousLinkInfo.range c.args.self.now.previous.now) _ _ _ o c.args.object.now.sections
    c.loop-index.index (omega (arith, many, c.loop-index-test.true))
    (c.loop-index.invariant old l o k named same)
    (λ x is. c.in_ok-add_section.ensures old l _ k (c.new-section.ensures l o x named same
    (ap (λ (r : ObjectData). slice_get r.sections c.loop-index.index) same ∙ is) row)
    (λ yes. c.needs_no_evaluation-needs_none.ensures yes old l o k named))

pub returns : goal.returns
returns g c =
    λ old l o k named same.
    let many = ap length c.sections-index-end.ensures.value ∙ length-map c.args.object.now.sections section_of in
    whole_object old l (g.E.PreviousLinkInfo.range c.args.self.now.previous.now) o c.args.object.now.sections
    c.loop-index.index (omega (arith, many, c.loop-index-test.false))
    (omega (arith, many, c.loop-index.auto.index-end)) _ _ (c.loop-index.invariant old l o k named same)
