use Rattle.std.specs.Prelude.{[]}
use Rattle.trylink.proofs.surface.print_layout.Given as goal

-- no layout turns on these names
abbrev pub ghost-place : goal.ghost-place
ghost-place a = record { object = λ _. []; section = λ _. [] }
