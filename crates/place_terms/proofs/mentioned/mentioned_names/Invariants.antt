-- What is listed, with what is still to be listed, is all.
use Rattle.place_terms.proofs.Common.{drop, shown_names, ◌++◌, ◌≡◌}
use Rattle.ldmodel.specs.Mentioned.{mentioned_names}
use Rattle.place_terms.proofs.mentioned.mentioned_names.Given as goal

abbrev pub invariant-loop-statement : goal.invariant-loop-statement
invariant-loop-statement l = shown_names l.names.items ++ mentioned_names (drop l.statement-index l.statements)
    ≡ shown_names l.initial.names.items ++ mentioned_names l.statements
