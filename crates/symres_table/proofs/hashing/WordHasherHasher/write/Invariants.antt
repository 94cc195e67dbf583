use Rattle.symres_table.proofs.Common.{take, with_bytes, ◌≡◌}
use Rattle.symres_table.proofs.hashing.WordHasherHasher.write.Given as goal

-- the bytes before this place are written
abbrev pub invariant-loop-byte : goal.invariant-loop-byte
invariant-loop-byte l = l.self ≡ with_bytes l.fn.self (take l.byte-index l.bytes)
