use Rattle.emit_image.proofs.Common.{append_assoc, segment_bytes}
use Rattle.emit_image.proofs.headers.put_segment.Goals as goal

pub returns : goal.returns
unfolding segment_bytes
returns c =
    rw (
      c.in_ok-put_u64-5.ensures,
      c.in_ok-put_u64-4.ensures,
      c.in_ok-put_u64-3.ensures,
      c.in_ok-put_u64-2.ensures,
      c.in_ok-put_u64.ensures,
      c.in_ok-put_low_u64.ensures,
      c.in_ok-put_u32-2.ensures,
      c.flags_of.ensures,
      c.in_ok-put_u32.ensures,
    )
    (simp append_assoc)
