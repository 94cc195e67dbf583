-- A string table that the reader has looked through.
use Rattle.std.specs.Prelude.{ℕ, List}
use Rattle.elfobj_file.specs.SectionHeaders.{file_bytes}
use Rattle.elfobj_file.specs.declared.names.StringTable.{StringTable}

-- its bytes
abbrev pub table_of : StringTable → List ℕ
table_of t = file_bytes t.file.now t.header
