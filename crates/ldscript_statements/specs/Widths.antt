-- How many bytes a data command takes.
use Rattle.std.specs.Prelude.{ℕ}
use Rattle.ldscript_statements.specs.declared.section.Width.{Width}
use Rattle.ldscript_statements.specs.declared.section.Width.TheVariants.{Byte, Short, Long, Quad}

abbrev pub byte_count : Width → ℕ
byte_count Byte = 1
byte_count Short = 2
byte_count Long = 4
byte_count Quad = 8
