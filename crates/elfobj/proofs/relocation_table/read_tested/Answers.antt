use Rattle.elfobj.proofs.Common.{inr, refl, sym, ◌∙◌}
use Rattle.elfobj.proofs.FieldsBelow.{fields_below}
use Rattle.elfobj_file.specs.Tables.{linked_sections}
use Rattle.elfobj.proofs.RelocationReads.{none_refused, overlap_holds, overlap_refused, relocated_all, sections_same}
use Rattle.elfobj.proofs.relocation_table.read_tested.Goals as goal

pub returns-then-branch-clause-refused : goal.returns-then-branch-clause-refused
returns-then-branch-clause-refused c =
    let r = c.in_ok-relocations.relocations in
    let ss = linked_sections c.args.bytes.now in
    let lists = sections_same c.args.bytes.now ss c.args.tables.now c.args.tables.now r.all.items r.spans.items refl
    c.requires.tables c.in_ok-relocations.ensures in
    inr (overlap_refused c.args.bytes.now (sym c.in_ok-refusal.ensures ∙ c.in_default.is)
    (overlap_holds c.args.bytes.now ss r.all.items r.spans.items _ refl lists c.in_ok-is_any_overlap.ensures
    ∙ c.if-branch.true))

pub returns-clause-ok : goal.returns-clause-ok
returns-clause-ok c =
    let r = c.in_ok-relocations.relocations in
    let ss = linked_sections c.args.bytes.now in
    let lists = sections_same c.args.bytes.now ss c.args.tables.now c.args.tables.now r.all.items r.spans.items refl
    c.requires.tables c.in_ok-relocations.ensures in
    none_refused c.args.bytes.now (sym c.in_ok-refusal.ensures ∙ c.in_default.is)
    (overlap_holds c.args.bytes.now ss r.all.items r.spans.items _ refl lists c.in_ok-is_any_overlap.ensures
    ∙ c.if-branch.false)

pub returns-clause-relocations : goal.returns-clause-relocations
returns-clause-relocations c =
    let r = c.in_ok-relocations.relocations in
    let ss = linked_sections c.args.bytes.now in
    let lists = sections_same c.args.bytes.now ss c.args.tables.now c.args.tables.now r.all.items r.spans.items refl
    c.requires.tables c.in_ok-relocations.ensures in
    relocated_all c.args.bytes.now ss r.all.items r.spans.items refl lists

pub is_any_overlap-requires-clause-fields : goal.is_any_overlap-requires-clause-fields
is_any_overlap-requires-clause-fields c =
    let r = c.in_ok-relocations.relocations in
    let ss = linked_sections c.args.bytes.now in
    let lists = sections_same c.args.bytes.now ss c.args.tables.now c.args.tables.now r.all.items r.spans.items refl
    c.requires.tables c.in_ok-relocations.ensures in
    fields_below c.args.bytes.now ss c.args.tables.now c.args.tables.now r.all.items r.spans.items c.largest_size.result
    (sym c.in_ok-refusal.ensures ∙ c.in_default.is)
    refl c.requires.tables refl c.largest_size.ensures lists
