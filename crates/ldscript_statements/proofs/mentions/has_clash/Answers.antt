use Rattle.ldscript_statements.proofs.Common.{ap, mentions, shown, ◌++◌, ◌∙◌}
use Rattle.ldscript_statements.proofs.Scanning.{of_script}
use Rattle.ldscript_statements.proofs.mentions.has_clash.Goals as goal

pub returns : goal.returns
returns c =
    of_script c.any_clashes.result c.args.statements.now (shown c.deref.result.now)
    (ap shown c.deref.ensures.value ∙ c.in_ok-note_statements.ensures
    ∙ ap (λ l. shown l ++ mentions c.args.statements.now) c.new-list.ensures.items)
    c.any_clashes.ensures
