use Rattle.emit_image.proofs.Common.{output_headers_of, refl}
use Rattle.emit_image.proofs.sections.output_headers.Goals as goal

pub returns-clause-headers : goal.returns-clause-headers
unfolding output_headers_of
returns-clause-headers c =
    rw (c.in_ok-put_sections.ensures.headers, c.in_ok-extend_from_slice.ensures.items, c.in_ok-headers.ensures.items)
    refl
