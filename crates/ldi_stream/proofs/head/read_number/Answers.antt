use Rattle.ldi_stream.proofs.Common.{IsAscii-decimal, ap, decimal, sym, ◌∙◌, ◌≡◌}
use Rattle.std.proofs.lemmas.Str.{IsUtf8-from_ascii}
use Rattle.ldi_stream.proofs.StreamWords.{bytes_differ, no_parse, one_parse}
use Rattle.ldi_stream.proofs.head.read_number.Goals as goal

pub returns-in-Err-clause-none : goal.returns-in-Err-clause-none
returns-in-Err-clause-none c =
    λ n small e. c.in-Err.ensures.cases.0 (rw e (IsUtf8-from_ascii _ (IsAscii-decimal n small)))

pub returns-in-Err-parse-clause-none : goal.returns-in-Err-parse-clause-none
returns-in-Err-parse-clause-none c = λ n small e.
    no_parse c.in-Ok.text.now n c.in-Err-parse.field-0 small
    (c.in-Ok.ensures.cases.0 ∙ e) c.in-Err-parse.ensures.value.0

pub returns-else-eq-clause-none : goal.returns-else-eq-clause-none
returns-else-eq-clause-none c = λ n small e.
    let text = c.in-Ok.ensures.cases.0 ∙ e in
    let one : c.in-Ok-parse.n ≡ n = one_parse c.in-Ok.text.now n c.in-Ok-parse.n c.parse.result small text
    c.in-Ok-parse.is c.parse.ensures.value.0 in
    bytes_differ _ _ c.if-eq.ensures (c.format.ensures.text ∙ ap decimal one ∙ sym text)
