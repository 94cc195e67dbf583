use Rattle.ldi_words.proofs.Common.{map, string_bytes, take, ◌≡◌}
use Rattle.clap.specs.Walk.{texts}
use Rattle.ldi_words.proofs.values.copies.Given as goal

abbrev pub invariant-loop-name : goal.invariant-loop-name
invariant-loop-name l = map string_bytes l.copies.items ≡ texts (take l.name-index l.names)
