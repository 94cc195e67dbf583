use Rattle.emit_relocate.proofs.Common.{all_given, shown_directives, take, texts, ◌++◌, ◌≡◌}
use Rattle.emit_relocate.proofs.script_names.add_all_given.Given as goal

-- the commands before this one are seen to
abbrev pub invariant-loop-at : goal.invariant-loop-at
invariant-loop-at l =
    texts l.list.items ≡ texts l.fn.list.items ++ all_given (shown_directives (take l.at-index l.commands))
