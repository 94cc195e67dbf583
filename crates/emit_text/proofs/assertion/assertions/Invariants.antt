-- What is listed, with what is still to be listed, is all.
use Rattle.emit_text.proofs.Common.{asserted_in, drop, shown_assertions, shown_directives, ◌++◌, ◌≡◌}
use Rattle.emit_text.proofs.assertion.assertions.Given as goal

abbrev pub invariant-loop-command : goal.invariant-loop-command
invariant-loop-command l = shown_assertions l.list.items
    ++ asserted_in (shown_directives (drop l.command-index l.commands)) ≡ shown_assertions l.initial.list.items
    ++ asserted_in (shown_directives l.commands)
