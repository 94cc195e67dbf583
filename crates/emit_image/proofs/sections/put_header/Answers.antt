use Rattle.emit_image.proofs.Common.{append_assoc}
use Rattle.emit_image.proofs.sections.put_header.Goals as goal

pub returns : goal.returns
returns c =
    rw (
      c.in_ok-put_u64-6.ensures,
      c.in_ok-put_u64-5.ensures,
      c.in_ok-put_u32-4.ensures,
      c.in_ok-put_u32-3.ensures,
      c.in_ok-put_u64-4.ensures,
      c.in_ok-put_u64-3.ensures,
      c.in_ok-put_u64-2.ensures,
      c.in_ok-put_u64.ensures,
      c.in_ok-put_u32-2.ensures,
      c.from.ensures,
      c.in_ok-put_u32.ensures,
    )
    (simp append_assoc)
