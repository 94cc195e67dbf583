-- The grammar of a linker script (GNU ld manual, "Linker Scripts", as far as this profile has it). Each definition
-- below is a rule: which tokens a tree stands for. `{x}` is any number of x, `[x]` one or none.
--
--   script  = {top}
-- top     = ";" | ENTRY "(" NAME ")" | MEMORY "{" {region} "}" | SECTIONS "{" {item} "}" | NAME "=" e ";" | provide |
-- assert
--   region  = NAME ":" ORIGIN "=" e "," LENGTH "=" e
--   item    = ";" | "." "=" e ";" | "." "+=" e ";" | NAME "=" e ";" | provide | assert | section
--   section = NAME [e] ":" [AT "(" e ")"] [ALIGN "(" e ")"] "{" {body} "}" [">" NAME] [AT ">" NAME] ["=" fill]
--           | "/DISCARD/" ":" "{" {";" | input} "}"
--   body    = ";" | "." "=" e ";" | "." "+=" e ";" | NAME "=" e ";" | provide | assert | data "(" e ")" | input
--   data    = BYTE | SHORT | LONG | QUAD
--   provide = PROVIDE "(" NAME "=" e ")"
--   assert  = ASSERT "(" e "," STRING ")"
--   input   = plain | KEEP "(" plain ")"
--   plain   = WORD "(" one {one} ")" | WORD "(" sort "(" WORD {WORD} ")" ")"
--   one     = [EXCLUDE_FILE "(" WORD {WORD} ")"] WORD
--   sort    = SORT | SORT_BY_NAME | SORT_BY_ALIGNMENT
--
-- A `;` stands before, between and after the statements of a list, by `statements`. The tokens of a body are read in
-- another mode, in which a name, `.` or a word of the language at the front of a statement is a word token.
use Rattle.std.specs.Prelude.{◌≡◌, ℕ, List, [], ◌∷◌, Option, Some, None, Bool, true, false, codes}
use Rattle.ldscript_tokens.specs.Tokens.{Lexeme, Number, Discard}
use Rattle.ldscript_tokens.specs.declared.token.Mark.{Mark}
use Rattle.ldscript_tokens.specs.declared.token.Mark.TheVariants.{OpenParenthesis, CloseParenthesis, OpenBrace}
use Rattle.ldscript_tokens.specs.declared.token.Mark.TheVariants.{CloseBrace}
use Rattle.ldscript_tokens.specs.declared.token.Mark.TheVariants.{Semicolon, Colon, Comma, Assign, AddAssign, Greater}
use Rattle.ldscript_tokens.specs.declared.token.Mode.{Mode}
use Rattle.ldscript_tokens.specs.declared.token.Mode.TheVariants.{Expression, Pattern}
use Rattle.ldscript_terms.specs.Expressions.{Expr}
use Rattle.ldscript_terms.specs.Parts as patterns
use Rattle.ldscript_statements.specs.Fill.{fill_of}
use Rattle.ldscript.specs.Steps.{Rule, ◌▸◌, ◌or◌, nothing, optional, each, some, token, mark, statements, on_line, key}
use Rattle.ldscript.specs.Steps.{name_in, name, string, expression, pattern}
use Rattle.ldscript_statements.specs.declared.input.Sort.{Sort}
use Rattle.ldscript_statements.specs.declared.input.Sort.TheVariants.{ByName, ByAlignment}
use Rattle.ldscript_statements.specs.declared.input.SectionWord.{SectionWord}
use Rattle.ldscript_statements.specs.declared.input.Input.{Input}
use Rattle.ldscript_statements.specs.declared.input.InputStatement.{InputStatement}
use Rattle.ldscript_statements.specs.declared.section.Width.{Width}
use Rattle.ldscript_statements.specs.declared.section.Width.TheVariants.{Byte, Short, Long, Quad}
use Rattle.ldscript_statements.specs.declared.section.BodyCommand.{BodyCommand}
use Rattle.ldscript_statements.specs.declared.section.BodyCommand.TheVariants as body
use Rattle.ldscript_statements.specs.declared.section.BodyStatement.{BodyStatement}
use Rattle.ldscript_statements.specs.declared.section.Load.{Load}
use Rattle.ldscript_statements.specs.declared.section.Load.TheVariants.{Unstated, At, InRegion}
use Rattle.ldscript_statements.specs.declared.section.OutputSection.{OutputSection}
use Rattle.ldscript_statements.specs.declared.directive.Assignment.{Assignment}
use Rattle.ldscript_statements.specs.declared.directive.Assertion.{Assertion}
use Rattle.ldscript_statements.specs.declared.directive.Directive.{Directive}
use Rattle.ldscript_statements.specs.declared.directive.Directive.TheVariants as directives
use Rattle.ldscript_statements.specs.declared.directive.DotCommand.{DotCommand}
use Rattle.ldscript_statements.specs.declared.directive.DotCommand.TheVariants.{Set, Add}
use Rattle.ldscript_statements.specs.declared.statement.Region.{Region}
use Rattle.ldscript_statements.specs.declared.statement.ItemCommand.{ItemCommand}
use Rattle.ldscript_statements.specs.declared.statement.ItemCommand.TheVariants as item
use Rattle.ldscript_statements.specs.declared.statement.Item.{Item}
use Rattle.ldscript_statements.specs.declared.statement.Command.{Command}
use Rattle.ldscript_statements.specs.declared.statement.Command.TheVariants as top
use Rattle.ldscript_statements.specs.declared.statement.Statement.{Statement}

-- sort = SORT | SORT_BY_NAME | SORT_BY_ALIGNMENT
abbrev pub sort : Sort → Rule
sort ByName = key Pattern (codes "SORT") or key Pattern (codes "SORT_BY_NAME")
sort ByAlignment = key Pattern (codes "SORT_BY_ALIGNMENT")

-- EXCLUDE_FILE "(" WORD {WORD} ")"
abbrev pub exclusion : List (List patterns.Part) → Rule
exclusion files = key Pattern (codes "EXCLUDE_FILE") ▸ mark OpenParenthesis ▸ some pattern files ▸ mark CloseParenthesis

-- [EXCLUDE_FILE "(" WORD {WORD} ")"]: the list is empty where none is written
abbrev pub excluded : List (List patterns.Part) → Rule
excluded [] = nothing
excluded (first ∷ rest) = exclusion (first ∷ rest)

-- one = [EXCLUDE_FILE "(" WORD {WORD} ")"] WORD
abbrev pub one : SectionWord → Rule
one word = excluded word.excluded ▸ pattern word.pattern

-- WORD, which leaves no file out
abbrev pub bare : SectionWord → Rule
bare word lexemes rest = (word.excluded ≡ []) × pattern word.pattern lexemes rest

-- what the parentheses of an input statement hold
abbrev pub selection : Option Sort → List SectionWord → Rule
selection None words = some one words
selection (Some order) words = sort order ▸ mark OpenParenthesis ▸ some bare words ▸ mark CloseParenthesis

-- plain = WORD "(" one {one} ")" | WORD "(" sort "(" WORD {WORD} ")" ")"
abbrev pub plain : Input → Rule
plain statement =
    pattern statement.file ▸ mark OpenParenthesis ▸ selection statement.sort statement.sections ▸ mark CloseParenthesis

-- in KEEP ( ), or not
abbrev pub kept : Bool → Rule → Rule
kept false p = p
kept true p = key Pattern (codes "KEEP") ▸ mark OpenParenthesis ▸ p ▸ mark CloseParenthesis

-- input = plain | KEEP "(" plain ")"
abbrev pub input : Input → Rule
input statement = kept statement.keep (plain statement)

-- an expression and the mark after it
abbrev pub ended : Mark → Expr → Rule
ended last value = expression value ▸ mark last

-- "=" e ";"
abbrev pub dot_set_to : Expr → Rule
dot_set_to value = mark Assign ▸ ended Semicolon value

-- "+=" e ";"
abbrev pub add_to : Expr → Rule
add_to value = mark AddAssign ▸ ended Semicolon value

abbrev pub dot_change : DotCommand → Rule
dot_change (Set value) = dot_set_to value
dot_change (Add value) = add_to value

-- "." "=" e ";" | "." "+=" e ";"
abbrev pub dot_command : Mode → DotCommand → Rule
dot_command mode command = key mode (codes ".") ▸ dot_change command

-- NAME "=" e ";"
abbrev pub assign : Mode → Assignment → Rule
assign mode assignment = name_in mode assignment.name ▸ dot_set_to assignment.value

-- "(" NAME "="
abbrev pub provided_name : List ℕ → Rule
provided_name spelled = mark OpenParenthesis ▸ name spelled ▸ mark Assign

-- "(" NAME "=" e ")"
abbrev pub provided_assignment : Assignment → Rule
provided_assignment assignment = provided_name assignment.name ▸ ended CloseParenthesis assignment.value

-- provide = PROVIDE "(" NAME "=" e ")"
abbrev pub provide : Mode → Assignment → Rule
provide mode assignment = key mode (codes "PROVIDE") ▸ provided_assignment assignment

-- "(" e "," STRING ")"
abbrev pub asserted : Assertion → Rule
asserted stated = mark OpenParenthesis ▸ ended Comma stated.condition ▸ string stated.message ▸ mark CloseParenthesis

-- assert = ASSERT "(" e "," STRING ")"
abbrev pub assertion : Mode → Assertion → Rule
assertion mode stated = key mode (codes "ASSERT") ▸ asserted stated

-- NAME "=" e ";" | provide | assert
abbrev pub directive : Mode → Directive → Rule
directive mode (directives.Assign assignment) = assign mode assignment
directive mode (directives.Provide assignment) = provide mode assignment
directive mode (directives.Assert stated) = assertion mode stated

-- data = BYTE | SHORT | LONG | QUAD
abbrev pub width_word : Width → List ℕ
width_word Byte = codes "BYTE"
width_word Short = codes "SHORT"
width_word Long = codes "LONG"
width_word Quad = codes "QUAD"

-- "(" e ")"
abbrev pub in_parentheses : Expr → Rule
in_parentheses value = mark OpenParenthesis ▸ ended CloseParenthesis value

-- body = ";" | "." "=" e ";" | "." "+=" e ";" | NAME "=" e ";" | provide | assert | data "(" e ")" | input
abbrev pub body_command : BodyCommand → Rule
body_command (body.Dot command) = dot_command Pattern command
body_command (body.Directive command) = directive Pattern command
body_command (body.Data width value) = key Pattern (width_word width) ▸ in_parentheses value
body_command (body.Input statement) = input statement

abbrev pub body_statement : BodyStatement → Rule
body_statement statement = on_line statement.line (body_command statement.command)

-- fill: `0x` and an even number of 2 to 16 hex digits, no suffix
abbrev pub fill : List ℕ → Rule
fill bytes lexemes rest = (spelled : List ℕ) × (fill_of spelled ≡ Some bytes) × token (Number spelled) lexemes rest

-- AT "(" e ")"
abbrev pub at_address : Expr → Rule
at_address value = key Expression (codes "AT") ▸ in_parentheses value

abbrev pub load_in_head : Load → Option Expr
load_in_head Unstated = None
load_in_head (At address) = Some address
load_in_head (InRegion region) = None

-- AT ">" NAME
abbrev pub at_region : List ℕ → Rule
at_region spelled = key Expression (codes "AT") ▸ mark Greater ▸ name spelled

abbrev pub load_in_tail : Load → Option (List ℕ)
load_in_tail Unstated = None
load_in_tail (At address) = None
load_in_tail (InRegion region) = Some region

-- ALIGN "(" e ")"
abbrev pub alignment : Expr → Rule
alignment value = key Expression (codes "ALIGN") ▸ in_parentheses value

-- ">" NAME
abbrev pub in_region : List ℕ → Rule
in_region spelled = mark Greater ▸ name spelled

-- "=" fill
abbrev pub filled : List ℕ → Rule
filled bytes = mark Assign ▸ fill bytes

-- [e] ":"
abbrev pub stated_address : Option Expr → Rule
stated_address None = mark Colon
stated_address (Some value) = ended Colon value

-- NAME [e] ":" [AT "(" e ")"] [ALIGN "(" e ")"] "{"
abbrev pub section_head : OutputSection → Rule
section_head output = name output.name ▸ stated_address output.address ▸ optional at_address
    (load_in_head output.load) ▸ optional alignment output.alignment ▸ mark OpenBrace

-- [">" NAME] [AT ">" NAME] ["=" fill]
abbrev pub section_tail : OutputSection → Rule
section_tail output =
    optional in_region output.region ▸ optional at_region (load_in_tail output.load) ▸ optional filled output.fill

-- section = NAME [e] ":" [AT "(" e ")"] [ALIGN "(" e ")"] "{" {body} "}" [">" NAME] [AT ">" NAME] ["=" fill]
abbrev pub section : OutputSection → Rule
section output = section_head output ▸ statements body_statement output.body ▸ mark CloseBrace ▸ section_tail output

abbrev pub input_statement : InputStatement → Rule
input_statement statement = on_line statement.line (input statement.input)

-- ":" "{" {";" | input} "}"
abbrev pub discarded : List InputStatement → Rule
discarded inputs = mark Colon ▸ mark OpenBrace ▸ statements input_statement inputs ▸ mark CloseBrace

-- "/DISCARD/" ":" "{" {";" | input} "}"
abbrev pub discard : List InputStatement → Rule
discard inputs = token Discard ▸ discarded inputs

-- item = ";" | "." "=" e ";" | "." "+=" e ";" | NAME "=" e ";" | provide | assert | section
abbrev pub item_command : ItemCommand → Rule
item_command (item.Dot command) = dot_command Expression command
item_command (item.Directive command) = directive Expression command
item_command (item.Section output) = section output
item_command (item.Discard inputs) = discard inputs

abbrev pub item_statement : Item → Rule
item_statement statement = on_line statement.line (item_command statement.command)

-- NAME ":" ORIGIN "="
abbrev pub region_head : List ℕ → Rule
region_head spelled = name spelled ▸ mark Colon ▸ key Expression (codes "ORIGIN") ▸ mark Assign

-- LENGTH "="
abbrev pub region_middle : Rule
region_middle = key Expression (codes "LENGTH") ▸ mark Assign

-- region = NAME ":" ORIGIN "=" e "," LENGTH "=" e
abbrev pub region : Region → Rule
region stated =
    on_line stated.line (region_head stated.name ▸ ended Comma stated.origin ▸ region_middle ▸ expression stated.extent)

-- ENTRY "(" NAME ")"
abbrev pub entry : List ℕ → Rule
entry spelled = key Expression (codes "ENTRY") ▸ mark OpenParenthesis ▸ name spelled ▸ mark CloseParenthesis

-- MEMORY "{" {region} "}"
abbrev pub memory : List Region → Rule
memory regions = key Expression (codes "MEMORY") ▸ mark OpenBrace ▸ each region regions ▸ mark CloseBrace

-- SECTIONS "{" {item} "}"
abbrev pub sections : List Item → Rule
sections items = key Expression (codes "SECTIONS") ▸ mark OpenBrace ▸ statements item_statement items ▸ mark CloseBrace

-- top = ";" | ENTRY "(" NAME ")" | MEMORY "{" {region} "}" | SECTIONS "{" {item} "}" | NAME "=" e ";" | provide |
-- assert
abbrev pub top_command : Command → Rule
top_command (top.Entry spelled) = entry spelled
top_command (top.Memory regions) = memory regions
top_command (top.Sections items) = sections items
top_command (top.Directive command) = directive Expression command

abbrev pub top_statement : Statement → Rule
top_statement statement = on_line statement.line (top_command statement.command)

-- script = {top}, all of the tokens
abbrev pub script : List Statement → List Lexeme → Type 0
script tree lexemes = statements top_statement tree lexemes []
