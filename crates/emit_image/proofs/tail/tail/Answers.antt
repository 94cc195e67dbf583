use Rattle.emit_image.proofs.Common.{List, ap, flat_map, header_bytes, header_names_of, length, next_multiple_of}
use Rattle.emit_image.proofs.Common.{part_at, table_headers, ℕ, ◌++◌, ◌∙◌}
use Rattle.emit_image.proofs.TailOfLink.{parts_are, tail_same}
use Rattle.emit_image.proofs.tail.tail.Goals as goal

pub returns-clause-parts : goal.returns-clause-parts
returns-clause-parts c = λ xs are.
    let ys = c.args.sections.now in
    let t = c.in_ok-tables.tables in
    let o = c.in_ok-output.ensures in
    parts_are c.args.loaded_end xs ys t.symbols t.symbol_names t.header_names c.new.result _ _ _
    c.put_tables.new.out.items
    are.entries are.names o.names
    c.in_ok-tables.ensures.symbols c.in_ok-tables.ensures.symbol_names c.in_ok-tables.ensures.header_names
    (c.in_ok-put_tables.ensures (header_names_of ys) o.symbols o.symbol_names o.header_names
    ∙ ap (λ (bs : List ℕ). bs
    ++ flat_map header_bytes
    (table_headers (length ys) (header_names_of ys)
    (record { symbols = t.symbols; symbol_names = t.symbol_names; header_names = t.header_names }))) o.headers)
    (c.new.ensures ∙ ap (λ (n : ℕ). part_at n c.put_tables.new.out.items) (c.in_ok-offset.ensures
    ∙ ap (λ (n : ℕ). next_multiple_of n 8) c.in_ok-end_of.ensures))

pub returns-clause-of_link : goal.returns-clause-of_link
returns-clause-of_link c = λ p s xs are h. returns-clause-parts c xs are
    ∙ tail_same p s c.args.loaded_end xs c.args.sections.now h
