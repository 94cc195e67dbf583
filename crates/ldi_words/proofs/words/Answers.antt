use Rattle.ldi_words.proofs.Common.{HasKind, IsCallOf, List, StatesCall, Text, ap, is_simple, ldi, map, refl}
use Rattle.ldi_words.proofs.Common.{string_bytes, subcommand_of, subst, sym, takes, ◌∙◌}
use Rattle.clap.specs.Faults.{fault_of, is_simple_and_free}
use Rattle.ldi_words.proofs.FaultOf.{any_choices, memory_fault, refused_fault}
use Rattle.ldi_words.proofs.Stated.{stated}
use Rattle.ldi_words.proofs.words.Goals as goal

pub returns-in_err-ldi_command : goal.returns-in_err-ldi_command
returns-in_err-ldi_command c = (
  any_choices,
  refl,
  memory_fault (ldi any_choices)
      (map string_bytes c.args.args.now) _ c.from_residual.result c.from_residual.ensures.1,
)

pub returns-in_err-matches : goal.returns-in_err-matches
returns-in_err-matches c =
    let built = c.in_ok-ldi_command.ensures in
    let words : List Text = map string_bytes c.args.args.now in
    let app = built.2.app in
    let parse = c.in_err-matches.ensures in (
      built.0,
      built.1,
      refused_fault (ldi built.0) words _ _ c.in_err-matches.field-0.0 c.from_residual-in_err-matches.ensures.1
          (λ t. parse.passes (ap (λ a. takes a words) app ∙ t))
          (subst (λ a. HasKind (fault_of a words) c.in_err-matches.field-0.0) app
          (parse.kinds (ap is_simple_and_free app))),
    )

pub call_of-requires : goal.call_of-requires
call_of-requires c =
    let built = c.in_ok-ldi_command.ensures in
    let words : List Text = map string_bytes c.args.args.now in
    let app = built.2.app in
    let parse = c.in_ok-matches.ensures in
    let fits = ap (λ a. fault_of a words) (sym app) ∙ parse.kinds (ap is_simple_and_free app) in
    let same = (parse.matches (ap is_simple app)).1 ∙ ap (λ a. subcommand_of a words) app in
    subst StatesCall (sym same) (stated built.0 built.1 words fits)

pub returns : goal.returns
returns c =
    let built = c.in_ok-ldi_command.ensures in
    let words : List Text = map string_bytes c.args.args.now in
    let app = built.2.app in
    let parse = c.in_ok-matches.ensures in
    let fits = ap (λ a. fault_of a words) (sym app) ∙ parse.kinds (ap is_simple_and_free app) in
    let same = (parse.matches (ap is_simple app)).1 ∙ ap (λ a. subcommand_of a words) app in
    (built.0, built.1, (fits, subst (λ stated. IsCallOf stated c.in_ok-call_of.field-0) same c.in_ok-call_of.ensures))
