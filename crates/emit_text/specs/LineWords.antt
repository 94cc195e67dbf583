-- The words of a line as the code has them, and their bytes.
use Rattle.std.specs.Prelude.{ℕ, List, [], ◌∷◌, ◌++◌, decimal}
use Rattle.ldmodel.specs.Lines.{hex}
use Rattle.emit_text.specs.declared.line.Word.{Word}
use Rattle.emit_text.specs.declared.line.Word.TheVariants.{Bytes, Decimal, Hex}

abbrev pub shown : Word → List ℕ
shown (Bytes bytes) = bytes.now
shown (Decimal n) = decimal n
shown (Hex n) = hex n

-- each word after a space
abbrev pub spaced_words : List Word → List ℕ
spaced_words [] = []
spaced_words (w ∷ ws) = (32 ∷ shown w) ++ spaced_words ws
