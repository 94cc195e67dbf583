use Rattle.ldi_words.proofs.Common.{codes, found_of, one_text-rows, refl, rows_of, ◌∙◌}
use Rattle.ldi_words.proofs.Flag.{flag_says, flag_unset}
use Rattle.ldi_words.proofs.values.session_of.Goals as goal

pub returns-then-get_flag : goal.returns-then-get_flag
returns-then-get_flag c =
    let f = found_of c.args.matches.now in
    let read = one_text-rows f (codes "deferred") in (
      rows_of f,
      refl,
      c.in_ok-options.ensures,
      (flag_says _ _ c.requires.deferred (λ e. c.get_flag.ensures.value (read ∙ e))
          (λ e. c.get_flag.ensures.other (read ∙ e))).0 c.if-get_flag.true,
    )

pub returns-else-get_flag : goal.returns-else-get_flag
returns-else-get_flag c =
    let f = found_of c.args.matches.now in
    let read = one_text-rows f (codes "deferred") in (
      rows_of f,
      refl,
      c.in_ok-options.ensures,
      flag_unset _ _ c.requires.deferred (λ e. c.get_flag.ensures.value (read ∙ e)) c.if-get_flag.false,
    )
