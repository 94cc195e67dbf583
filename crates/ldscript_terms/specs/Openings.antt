-- How a primary expression begins.
use Rattle.std.specs.Prelude.{◌≡◌, ◌^◌, ◌<◌, List}
use Rattle.ldscript_tokens.specs.Tokens.{Lexeme}
use Rattle.ldscript_tokens.specs.declared.token.Mark.TheVariants.{OpenParenthesis}
use Rattle.ldscript_terms.specs.declared.opening.Opening.{Opening}
use Rattle.ldscript_terms.specs.declared.opening.Opening.TheVariants as head
use Rattle.ldscript_terms.specs.Grammar.{Word, Point, AsksRegion, AsksSection, Aligns, Free, Numeral, Worded, Sign}
use Rattle.ldscript_terms.specs.Grammar.{Begins}

-- a word that may begin one
abbrev pub IsWord : Opening → Word → Type 0
IsWord (head.Number v) w = ⊥
IsWord head.Dot w = w ≡ Point
IsWord (head.Name n) w = w ≡ Free n.now
IsWord (head.OfRegion q) w = w ≡ AsksRegion q
IsWord (head.OfSection q) w = w ≡ AsksSection q
IsWord head.Align w = w ≡ Aligns
IsWord head.Group w = ⊥

-- the tokens begin so, and these follow
abbrev pub HasOpening : List Lexeme → Opening → List Lexeme → Type 0
HasOpening ts (head.Number v) rest = Begins ts (Numeral v) rest × (v < 2 ^ 64)
HasOpening ts head.Dot rest = Begins ts (Worded Point) rest
HasOpening ts (head.Name n) rest = Begins ts (Worded (Free n.now)) rest
HasOpening ts (head.OfRegion q) rest = Begins ts (Worded (AsksRegion q)) rest
HasOpening ts (head.OfSection q) rest = Begins ts (Worded (AsksSection q)) rest
HasOpening ts head.Align rest = Begins ts (Worded Aligns) rest
HasOpening ts head.Group rest = Begins ts (Sign OpenParenthesis) rest
