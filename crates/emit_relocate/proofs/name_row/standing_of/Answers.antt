use Rattle.emit_relocate.proofs.Common.{IfOk-weaker, object_name, table_key}
use Rattle.emit_relocate.proofs.Objects.{address_of}
use Rattle.emit_relocate.proofs.Rows.{in_section}
use Rattle.emit_relocate.proofs.name_row.standing_of.Goals as goal

pub returns-in-Section : goal.returns-in-Section
returns-in-Section c =
    IfOk-weaker c.standing_at.result _ _
    (λ x h p s indexed starts are.
    in_section s (object_name p c.args.parts.place.0) c.args.symbol.now c.in-Section.number x c.in-Section.is
    (h p s (table_key c.args.parts.place c.in-Section.number)
    (address_of p s indexed c.args.parts c.in-Section.number c.address.result starts are c.address.ensures)))
    c.standing_at.ensures
