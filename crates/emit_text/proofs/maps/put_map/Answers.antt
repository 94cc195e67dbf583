-- The three parts of the map.
use Rattle.emit_text.proofs.Common.{shown_map, ◌∙◌}
use Rattle.emit_text.proofs.Appending.{written_three}
use Rattle.emit_text.proofs.maps.put_map.Goals as goal

pub returns : goal.returns
unfolding shown_map
returns g c =
    c.in_ok-put_symbols.ensures
    ∙ written_three _ _ _ _ _ _ c.in_ok-put_entry_line.ensures c.in_ok-put_sections.ensures
