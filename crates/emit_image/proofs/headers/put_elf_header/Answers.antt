use Rattle.emit_image.proofs.Common.{append_assoc}
use Rattle.ldmodel.specs.Headers.{elf_header}
use Rattle.emit_image.proofs.headers.put_elf_header.Goals as goal

pub returns : goal.returns
unfolding elf_header
returns c =
    rw (
      c.in_ok-put_u16-8.ensures,
      c.in_ok-put_u16-7.ensures,
      c.in_ok-put_u16-6.ensures,
      c.in_ok-put_u16-5.ensures,
      c.in_ok-put_u16-4.ensures,
      c.in_ok-put_u16-3.ensures,
      c.in_ok-put_u32-2.ensures,
      c.in_ok-put_u64-3.ensures,
      c.in_ok-put_u64-2.ensures,
      c.phoff_of.ensures,
      c.in_ok-put_u64.ensures,
      c.in_ok-put_u32.ensures,
      c.in_ok-put_u16-2.ensures,
      c.from.ensures,
      c.in_ok-put_u16.ensures,
      c.in_ok-extend_from_slice.ensures.items,
    )
    (simp append_assoc)
