use Rattle.ldmodel_project.proofs.Common.{fold, mixed, take, ◌≡◌}
use Rattle.ldmodel_project.proofs.keyed_objects.tags.hash_of.Given as goal

-- the hash of the bytes so far
abbrev pub invariant-loop-byte : goal.invariant-loop-byte
invariant-loop-byte l = l.hash ≡ fold mixed 0 (take l.byte-index l.name)
