use Rattle.ldi_words.proofs.Common.{IfOk-weaker, IsApp, codes, new_app, rules}
use Rattle.ldi_words.proofs.Building.{with_arg}
use Rattle.ldi_words.proofs.command.link_command.Goals as goal

pub returns : goal.returns
returns c =
    let empty : IsApp (new_app (codes "link")) c.after_help-link.result = record {
      app = search rules;
      local = search rules;
    } in
    let one = with_arg _ _ _ _ _ empty c.script_arg.ensures.rule c.script_arg.ensures.local c.in_ok-link.ensures in
    let two = with_arg _ _ _ _ _ one c.image_arg.ensures.rule c.image_arg.ensures.local c.in_ok-link-2.ensures in
    let three = with_arg _ _ _ _ _ two c.map_arg.ensures.rule c.map_arg.ensures.local c.in_ok-link-3.ensures in
    let four = c.in_ok-link-4.ensures _ three in
    IfOk-weaker c.arg-4.result _ _ (λ new adds.
    with_arg _ _ _ _ _ four c.objects_arg.ensures.rule c.objects_arg.ensures.local adds) c.arg-4.ensures
