-- The parts are those of the layout.
use Rattle.emit.proofs.Common.{AllZip, AllZip-long, AreSegments, FilePart, IsTableSection, ap, arith, length}
use Rattle.emit.proofs.Common.{number_or_0, segments, subst, sym, ◌∙◌}
use Rattle.emit.proofs.Whole.{last_part}
use Rattle.emit.proofs.parts.drawing_parts.Goals as goal

pub returns : goal.returns
returns c s stays are =
    let p = c.args.project.now in
    let x = c.in_ok-tail.tail in
    let gs = subst (λ xs. AreSegments s.sections (segments s.sections) xs) (sym c.as_slice-segments.ensures.value)
    are.indexed_layout.link_layout.segments in
    let headings = subst (λ ys. AllZip (IsTableSection s) s.sections ys) (sym c.deref.ensures.value)
    (c.in_ok-headings.ensures p s stays are.outputs) in
    let symbols = c.in_ok-symbols.ensures p s are.names are.values in
    let tail = c.in_ok-tail.ensures.of_link p s symbols.symbols symbols.tables (record {
      begins = c.in_ok-end.ensures s.sections (segments s.sections) gs;
      symbols = symbols.each;
      sections = headings;
    }) in
    record {
      headers = c.in_ok-headers.ensures p s gs (c.number_or_0-entry.ensures ∙ ap number_or_0 are.values.entry)
          (c.offset-table.ensures
          ∙ ap (λ (y : FilePart). y.offset) (last_part p s x.symbols x.symbol_names x.header_names x.headers tail))
          (omega (
            arith,
            c.len.ensures,
            c.in_ok-headings.headings.ok.0,
            c.in_ok-headings.headings.ok.1,
            ap length c.deref.ensures.value,
            AllZip-long (IsTableSection s) s.sections c.deref.result.now headings,
          ));
      drawn = c.in_ok-sections.ensures p s stays are.indexed_layout.link_layout.named are.outputs;
      tail = tail;
    }
