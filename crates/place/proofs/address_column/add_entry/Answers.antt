use Rattle.place.proofs.Common.{ap, false, not, option_map, sym, true, ◌∙◌}
use Rattle.gather.specs.declared.input_section_table.SectionNumber.{SectionNumber}
use Rattle.place.proofs.Column.{first_added, later_added, none_added, none_is}
use Rattle.place.proofs.address_column.add_entry.Goals as goal

pub returns-in_default-clause-added : goal.returns-in_default-clause-added
returns-in_default-clause-added c = λ before was.
    none_added c.args.table.now before c.args.entry c.args.column.now.items was
    (sym c.find.ensures.is ∙ ap (option_map (λ (i : SectionNumber). i.0)) c.in_default.is)

pub returns-then-is_none-clause-added : goal.returns-then-is_none-clause-added
returns-then-is_none-clause-added c = λ before was.
    first_added c.args.table.now before c.args.entry c.args.column.now.items was c.in-Some.number.0
    (sym c.find.ensures.is ∙ ap (option_map (λ (i : SectionNumber). i.0)) c.in-Some.is) c.in-Some.ensures.below
    c.index.result.now c.index.ensures (none_is c.index.result.now true (c.is_none.ensures ∙ ap not c.if-is_none.true))

pub returns-else-is_none-clause-added : goal.returns-else-is_none-clause-added
returns-else-is_none-clause-added c = λ before was.
    later_added c.args.table.now before c.args.entry c.args.column.now.items was c.in-Some.number.0
    (sym c.find.ensures.is ∙ ap (option_map (λ (i : SectionNumber). i.0)) c.in-Some.is) c.in-Some.ensures.below
    c.index.result.now c.index.ensures
    (none_is c.index.result.now false (c.is_none.ensures ∙ ap not c.if-is_none.false))
