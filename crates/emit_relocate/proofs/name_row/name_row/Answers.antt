use Rattle.emit_relocate.proofs.Common.{AreSymbols, Case, ObjectPlace, Project, ap, decision_of, inl, inr, subst, sym}
use Rattle.emit_relocate.proofs.Common.{value_or_undefined, ◌∙◌}
use Rattle.emit_relocate.specs.NameRows.{bare_row, decided_row}
use Rattle.emit_relocate.proofs.Objects.{entry_decided, script_decided}
use Rattle.emit_relocate.proofs.name_row.name_row.Goals as goal

pub returns-in_ok-row-in-Strong-clause-row : goal.returns-in_ok-row-in-Strong-clause-row
returns-in_ok-row-in-Strong-clause-row c = λ l name v named.
    c.of.ensures.row
    ∙ entry_decided l.project l.layout name c.args.case c.in-Strong.entry c.parts.result
    c.in_ok-row-in-Strong.row (inl c.in-Strong.is) c.parts.ensures.place
    (c.in_ok-row-in-Strong.ensures l.project l.layout c.args.link.now.indexed_layout.now v.indexed_layout
    (subst (λ (p : Project). AreSymbols p c.parts.result) (sym v.project) c.parts.ensures.symbols)
    c.parts.ensures.addresses)

pub returns-in_ok-row-in-Weak-clause-row : goal.returns-in_ok-row-in-Weak-clause-row
returns-in_ok-row-in-Weak-clause-row c = λ l name v named.
    c.of-in-Weak.ensures.row
    ∙ entry_decided l.project l.layout name c.args.case c.in-Weak.entry c.parts-in-Weak.result
    c.in_ok-row-in-Weak.row (inr c.in-Weak.is) c.parts-in-Weak.ensures.place
    (c.in_ok-row-in-Weak.ensures l.project l.layout c.args.link.now.indexed_layout.now v.indexed_layout
    (subst (λ (p : Project). AreSymbols p c.parts-in-Weak.result) (sym v.project) c.parts-in-Weak.ensures.symbols)
    c.parts-in-Weak.ensures.addresses)

pub returns-in_ok-row-in-Common-clause-row : goal.returns-in_ok-row-in-Common-clause-row
returns-in_ok-row-in-Common-clause-row c = λ l name v named.
    c.of-in-Common.ensures.row
    ∙ (c.in_ok-row-in-Common.ensures l.project l.layout v.indexed_layout
    ∙ ap (λ (k : Case ObjectPlace). decided_row l.project l.layout name (decision_of (λ key. key) k))
    (sym c.in-Common.is))

pub returns-in-Script-clause-row : goal.returns-in-Script-clause-row
returns-in-Script-clause-row c = λ l name v named.
    c.of-in-Script.ensures.row
    ∙ (c.bare_row-row.ensures
    ∙ (ap bare_row (c.given_value.ensures ∙ ap value_or_undefined (c.script_value.ensures l v name named))
    ∙ script_decided l.project l.layout name c.args.case c.in-Script.is))
