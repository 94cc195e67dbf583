-- A line by its words.
use Rattle.emit_text.proofs.Common.{ap, line_of, map, shown, sym, ◌∙◌}
use Rattle.emit_text.proofs.Appending.{written_both, written_last}
use Rattle.emit_text.proofs.Spelling.{spelled}
use Rattle.emit_text.proofs.line.put_line.Goals as goal

pub returns : goal.returns
returns c =
    let spelling = spelled c.in-Some.first.now c.in-Some.others.now
    ∙ ap (λ ws. line_of (map shown ws)) (sym c.in-Some.ensures.cases.0) in
    c.in_ok-push-2.ensures.items
    ∙ written_last _ _ _ _ _ (written_both _ _ _ _ _ c.in_ok-put_word.ensures c.in_ok-put_others.ensures) spelling
