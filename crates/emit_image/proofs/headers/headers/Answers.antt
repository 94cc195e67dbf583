use Rattle.emit_image.proofs.ProgramHeaders.{headers_are}
use Rattle.emit_image.proofs.headers.headers.Goals as goal

pub returns : goal.returns
returns c = λ p s segs e t n.
    rw (
      c.in_ok-put_segments.ensures,
      c.deref.ensures.value,
      c.in_ok-sorted.ensures,
      c.in_ok-put_elf_header.ensures,
      c.in_ok-out.ensures.items,
    )
    (headers_are p s c.args.entry c.args.table c.args.sections c.args.segments.now segs e t n)
