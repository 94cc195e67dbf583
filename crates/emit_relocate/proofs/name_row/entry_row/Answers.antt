use Rattle.emit_relocate.proofs.Common.{length, refl, slice_get_past, slice_get_read, sym, ◌∙◌}
use Rattle.emit_relocate.proofs.Rows.{entry_found, entry_lost}
use Rattle.emit_relocate.proofs.name_row.entry_row.Goals as goal

pub returns-in-None : goal.returns-in-None
returns-in-None c p s indexed starts symbols at =
    let all = c.args.parts.symbols.now in
    let n = c.args.symbol.0 in
    c.bare_row.ensures
    ∙ entry_lost p s (record { object = c.args.parts.place.0; symbol = n })
    (sym (slice_get_past all n c.in-None.ensures.lookup.3) ∙ symbols n)

pub returns-in_ok-standing-in-Some : goal.returns-in_ok-standing-in-Some
returns-in_ok-standing-in-Some c p s indexed starts symbols at =
    let all = c.args.parts.symbols.now in
    let n = c.args.symbol.0 in
    let found = c.in-Some.found.now in
    entry_found p s (record { object = c.args.parts.place.0; symbol = n }) found
    c.in_ok-standing-in-Some.standing
    (c.in_ok-standing-in-Some.ensures p s indexed starts at)
    (sym (slice_get_read all (length all) n found refl c.in-Some.ensures.lookup.3.0 c.in-Some.ensures.lookup.1)
    ∙ symbols n)
