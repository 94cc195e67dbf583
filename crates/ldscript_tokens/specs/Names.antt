-- Where the bytes of a name lie in memory.
use Rattle.std.specs.Prelude.{ℕ, ◌≤◌, List, take}
use Rattle.ldscript_tokens.specs.declared.name.NameBytes.{NameBytes}
use Rattle.ldscript_tokens.specs.declared.name.NameBytes.TheVariants.{Inline, Heap}

-- the bytes of a name: the first of those in its value, or those on the heap
abbrev pub stored : NameBytes → List ℕ
stored (Inline n bytes) = take n bytes
stored (Heap bytes) = bytes.value.items

-- no more than the value has room for
abbrev pub IsStored : NameBytes → Type 0
IsStored (Inline n bytes) = n ≤ 14
IsStored (Heap bytes) = Unit {0}
