use Rattle.ldi_words.proofs.Common.{IfOk-weaker, IsApp, codes, new_app, rules}
use Rattle.ldi_words.proofs.Building.{with_arg}
use Rattle.ldi_words.proofs.command.session_command.Goals as goal

pub returns : goal.returns
returns c =
    let empty : IsApp (new_app (codes "session")) c.after_help-session.result = record {
      app = search rules;
      local = search rules;
    } in
    let options = c.in_ok-session.ensures _ empty in
    IfOk-weaker c.arg.result _ _ (λ new adds.
    with_arg _ _ _ _ _ options c.deferred_arg.ensures.rule c.deferred_arg.ensures.local adds) c.arg.ensures
