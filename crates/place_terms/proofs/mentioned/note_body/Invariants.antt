-- What is listed, with what is still to be listed, is all.
use Rattle.place_terms.proofs.Common.{drop, in_body, shown_names, ◌++◌, ◌≡◌}
use Rattle.place_terms.proofs.mentioned.note_body.Given as goal

abbrev pub invariant-loop-statement : goal.invariant-loop-statement
invariant-loop-statement l = shown_names l.names.items ++ in_body (drop l.statement-index l.body)
    ≡ shown_names l.initial.names.items ++ in_body l.body
