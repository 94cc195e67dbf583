-- What was written is the map.
use Rattle.emit_text.proofs.Common.{ap, shown_map, ◌++◌, ◌∙◌}
use Rattle.emit_text.proofs.Mapped.{map_is_shown}
use Rattle.emit_text.proofs.maps.render_map.Goals as goal

pub returns : goal.returns
returns g c s h =
    let p = c.args.project.now in
    let symbols = g.S.MapSymbols.list c.args.symbols.now in
    c.in_ok-put_map.ensures ∙ ap (λ xs. xs ++ shown_map p c.args.parts.now symbols) c.in_ok-text.ensures.items
    ∙ map_is_shown p s c.args.parts.now symbols h
