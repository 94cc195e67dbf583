-- The members that the number has are those of the output section.
use Rattle.emit.proofs.Common.{Bor, IsJoinedRow, List, OutputSectionAt, ap, length, refl, subst, sym, vec_items, ◌∙◌}
use Rattle.std.proofs.lemmas.Option.{slice_get_read}
use Rattle.ldmodel.specs.Image.{fill_byte}
use Rattle.ldmodel.specs.declared.placed.PlacedData.{PlacedData}
use Rattle.ldscript.specs.statements.declared.numbering.OutputSectionAt as code_section
use Rattle.emit.proofs.Lists.{mapped_at}
use Rattle.emit.proofs.output.output_at.Goals as goal

pub returns-clause-some : goal.returns-clause-some
returns-clause-some c p s stays q at =
    let show : code_section.OutputSectionAt → OutputSectionAt =
    λ o. record { line = o.line; section = o.section.now } in
    let now : Bor (List PlacedData) → List PlacedData = λ run. run.now in
    let found = mapped_at show c.args.sections.now c.args.number c.in_ok-at.at.now c.in_ok-at.ensures.lookup.3.0
    c.in_ok-at.ensures.lookup.1 in
    let begun = slice_get_read c.args.offsets.now (length c.args.offsets.now) c.args.number c.in_ok-offset.field-0.now
    refl c.in_ok-offset.ensures.lookup.3.0 c.in_ok-offset.ensures.lookup.1 in
    let row = mapped_at vec_items c.args.pieces.now c.args.number c.in_ok-row.row.now c.in_ok-row.ensures.lookup.3.0
    c.in_ok-row.ensures.lookup.1 in
    let run = mapped_at now c.args.runs.now c.args.number c.in_ok-run.field-0.now c.in_ok-run.ensures.lookup.3.0
    c.in_ok-run.ensures.lookup.1 in
    record {
      name = c.as_bytes.ensures ∙ at.name _ found;
      placed = at.placed;
      offset = at.offset _ begun;
      fill = λ i. c.fill_of.ensures.fill i ∙ ap (λ f. fill_byte f i) (at.fill _ found);
      some_fill = c.fill_of.ensures.some;
      short_fill = c.fill_of.ensures.few;
      row = subst (IsJoinedRow p s stays q) (sym c.as_slice.ensures.value) (at.row _ row);
      data_commands = at.data_commands _ run;
    }
