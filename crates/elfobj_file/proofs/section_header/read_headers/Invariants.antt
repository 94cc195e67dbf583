use Rattle.std.proofs.Common.{◌≡◌}
use Rattle.elfobj_file.specs.SectionHeaders.{headers_below}
use Rattle.elfobj_file.proofs.section_header.read_headers.Given as goal

abbrev pub invariant-loop-k : goal.invariant-loop-k
invariant-loop-k l = l.headers.items ≡ headers_below l.bytes l.k
