use Rattle.emit_image.proofs.Common.{enumerate_from, flat_map, header_bytes, header_names_of, section_header_of}
use Rattle.emit_image.proofs.Common.{string_table, take, ◌++◌, ◌≡◌}
use Rattle.emit_image.proofs.sections.put_sections.Given as goal

abbrev pub invariant-loop-x : goal.invariant-loop-x
invariant-loop-x l = record {
  headers : l.headers.items ≡ l.fn.headers.items
      ++ flat_map (λ y. header_bytes (section_header_of (header_names_of l.sections) y))
      (take l.x-index (enumerate_from 0 l.sections));
  names : l.names.items ≡ string_table (take l.x-index (header_names_of l.sections));
}
