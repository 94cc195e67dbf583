use Rattle.ldi_stream.proofs.Common.{false≢true, refl}
use Rattle.ldi_stream.proofs.StreamWords.{no_byte, has_byte}
use Rattle.ldi_stream.proofs.head.has_no.Goals as goal

pub returns-in-None : goal.returns-in-None
returns-in-None c = (λ _. no_byte c.args.byte c.args.bytes.now c.in-None.ensures, λ _. refl)

pub returns-in-Some : goal.returns-in-Some
returns-in-Some c = (
  λ e. absurd (false≢true e),
  λ h. absurd (has_byte c.args.byte c.args.bytes.now c.in-Some.field-0 h
      c.in-Some.ensures.0.high c.in-Some.ensures.1),
)
