-- The object that bytes spell.
use Rattle.std.specs.Prelude.{ℕ, List}
use Rattle.elfobj_file.specs.Sections.{LinkedSection, sections_of}
use Rattle.elfobj_file.specs.Symbols.{NamedSymbol, symbols_of}

-- its own bytes, its linked sections and its symbols, each list in table order
pub record ObjectData : Type 0 where
  pub text : List ℕ
  pub sections : List LinkedSection
  pub symbols : List NamedSymbol

abbrev pub object_of : List ℕ → ObjectData
object_of bytes = record { text = bytes; sections = sections_of bytes; symbols = symbols_of bytes }
