use Rattle.ldi_words.proofs.Common.{IfOk-weaker}
use Rattle.ldi_words.proofs.Building.{with_arg}
use Rattle.ldi_words.proofs.command.add_options.Goals as goal

pub returns : goal.returns
returns c = IfOk-weaker c.arg-3.result _ _ (λ new adds a before.
    let one = with_arg _ _ _ _ _ before c.gc_arg.ensures.rule c.gc_arg.ensures.local c.in_ok-command.ensures in
    let two = with_arg _ _ _ _ _ one c.entry_arg.ensures.rule c.entry_arg.ensures.local c.in_ok-command-2.ensures in
    with_arg _ _ _ _ _ two c.orphans_arg.ensures.rule c.orphans_arg.ensures.local adds)
    c.arg-3.ensures
