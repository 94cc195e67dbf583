use Rattle.emit_relocate.proofs.Common.{slice_get_past, sym, symbol_with}
use Rattle.emit_relocate.proofs.AddedSymbols.{adds_one, has_row, named_facts, named_symbol}
use Rattle.emit_relocate.proofs.symbols.add_named.Goals as goal

pub returns-in_default-clause-symbol : goal.returns-in_default-clause-symbol
returns-in_default-clause-symbol c p s h =
    absurd (has_row p s c.args.sources.now h c.args.name.now c.args.key.0 c.requires.named
    (sym (slice_get_past c.args.sources.now.rows.now c.args.key.0 c.in_default.ensures.lookup.3)))

pub returns-clause-symbol : goal.returns-clause-symbol
returns-clause-symbol c p s h =
    adds_one p s (symbol_with c.args.name c.in-Some.row.now)
    c.args.list.now.items c.add_if_defined.new.list.items
    (named_symbol p s c.args.sources.now h c.args.name c.args.key.0 c.requires.named c.in-Some.row.now
    c.in-Some.ensures.lookup.3.0 c.in-Some.ensures.lookup.1)
    (named_facts p s c.args.sources.now h c.args.name c.args.key.0 c.requires.named c.in-Some.row.now
    c.in-Some.ensures.lookup.3.0 c.in-Some.ensures.lookup.1)
    c.add_if_defined.ensures.added

pub returns-clause-facts : goal.returns-clause-facts
returns-clause-facts c p s h =
    c.add_if_defined.ensures.facts p s
    (named_facts p s c.args.sources.now h c.args.name c.args.key.0 c.requires.named c.in-Some.row.now
    c.in-Some.ensures.lookup.3.0 c.in-Some.ensures.lookup.1)
