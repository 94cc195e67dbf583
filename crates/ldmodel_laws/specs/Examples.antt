-- Small projects, to show what the definitions say of them: parts of objects and of scripts, made by hand. Some are
-- such as no reader gives: objects without a text, a relocation that is wider than its section, `.` outside SECTIONS.
use Rattle.std.specs.Prelude.{ℕ, false, List, [], ◌∷◌, map, None, pos}
use Rattle.elfobj.specs.Sections.{LinkedSection}
use Rattle.elfobj.specs.Symbols.{NamedSymbol, null_symbol}
use Rattle.elfobj.specs.declared.relocation.Relocation.{Relocation}
use Rattle.elfobj.specs.declared.relocation.RelocationKind.TheVariants.{Pc32}
use Rattle.elfobj.specs.declared.section.SectionKind.TheVariants.{Progbits}
use Rattle.elfobj.specs.declared.symbol.Binding.{Binding}
use Rattle.elfobj.specs.declared.symbol.Binding.TheVariants.{Global}
use Rattle.elfobj.specs.declared.symbol.SymbolKind.TheVariants.{NoType}
use Rattle.elfobj.specs.declared.symbol.SymbolPlace.{SymbolPlace}
use Rattle.elfobj.specs.declared.symbol.SymbolPlace.TheVariants as place
use Rattle.ldscript.specs.terms.Parts as pattern
use Rattle.ldscript.specs.terms.Expressions.{Dot}
use Rattle.ldscript.specs.statements.declared.directive.Directive.TheVariants as directive
use Rattle.ldscript.specs.statements.declared.input.Input.{Input}
use Rattle.ldscript.specs.statements.declared.input.SectionWord.{SectionWord}
use Rattle.ldscript.specs.statements.declared.section.BodyCommand.TheVariants as body
use Rattle.ldscript.specs.statements.declared.section.BodyStatement.{BodyStatement}
use Rattle.ldscript.specs.statements.declared.section.Load.TheVariants.{Unstated}
use Rattle.ldscript.specs.statements.declared.statement.Command.{Command}
use Rattle.ldscript.specs.statements.declared.statement.Command.TheVariants as top
use Rattle.ldscript.specs.statements.declared.statement.Item.{Item}
use Rattle.ldscript.specs.statements.declared.statement.ItemCommand.{ItemCommand}
use Rattle.ldscript.specs.statements.declared.statement.ItemCommand.TheVariants as item
use Rattle.ldscript.specs.statements.declared.statement.Statement.{Statement}
use Rattle.ldmodel.specs.Project.{NamedObject}
use Rattle.ldmodel.specs.Rows.{Piece}
use Rattle.ldmodel.specs.Sections.{InputSection}

-- an object of one byte in each section
abbrev pub object : List ℕ → List LinkedSection → List NamedSymbol → NamedObject
object name sections symbols =
    record { name = name; object = record { text = []; sections = sections; symbols = null_symbol ∷ symbols } }

-- section number n
abbrev pub section : ℕ → List ℕ → (alignment : ℕ) → List Relocation → LinkedSection
section n name alignment relocations = record {
  number = record { 0 = n };
  name = name;
  kind = Progbits;
  flags = 2;
  size = 1;
  alignment = alignment;
  bytes = 0 ∷ [];
  relocations = relocations;
}

-- a relocation against symbol number k
abbrev pub reference : ℕ → Relocation
reference k = record { offset = 0; symbol = record { 0 = k }; kind = Pc32; addend = pos 0 }

abbrev pub symbol : Binding → SymbolPlace → (value size : ℕ) → List ℕ → NamedSymbol
symbol binding place value size name = record {
  name = name;
  symbol = record { binding = binding; kind = NoType; place = place; value = value; size = size };
}

-- defined in section number k
abbrev pub defined : Binding → ℕ → List ℕ → NamedSymbol
defined binding k name = symbol binding (place.Section (record { 0 = k })) 0 0 name

abbrev pub undefined : List ℕ → NamedSymbol
undefined name = symbol Global place.Undefined 0 0 name

abbrev pub common : (size alignment : ℕ) → List ℕ → NamedSymbol
common size alignment name = symbol Global place.Common alignment size name

-- `*`
abbrev pub any : List pattern.Part
any = pattern.AnyRun ∷ []

-- a WORD without wildcards
abbrev pub exactly : List ℕ → List pattern.Part
exactly name = map pattern.Byte name

abbrev pub word : List pattern.Part → SectionWord
word pattern = record { pattern = pattern; excluded = [] }

-- `*( .. )`
abbrev pub from_any : List SectionWord → Input
from_any words = record { keep = false; file = any; sort = None; sections = words }

abbrev pub statement : Input → BodyStatement
statement i = record { line = 1; command = body.Input i }

abbrev pub item_at : ItemCommand → Item
item_at c = record { line = 1; command = c }

-- `NAME : { .. }`
abbrev pub output : List ℕ → List Input → Item
output name inputs = record {
  line = 1;
  command = item.Section (record {
    name = name;
    address = None;
    load = Unstated;
    alignment = None;
    body = map statement inputs;
    region = None;
    fill = None;
  });
}

-- `/DISCARD/ : { .. }`
abbrev pub discard : List Input → Item
discard inputs = record { line = 1; command = item.Discard (map (λ i. record { line = 1; input = i }) inputs) }

abbrev pub command : Command → Statement
command c = record { line = 1; command = c }

-- `SECTIONS { .. }`
abbrev pub sections : List Item → Statement
sections items = command (top.Sections items)

-- `PROVIDE(NAME = .)`
abbrev pub provide : List ℕ → Statement
provide name = command (top.Directive (directive.Provide (record { name = name; value = Dot })))

-- the names of objects and sections in rows
abbrev pub names : List (List Piece) → List (List (List ℕ × List ℕ))
names rows = map (λ (row : List Piece). map (λ (x : Piece). (x.object, x.name)) row) rows

abbrev pub section_names : List InputSection → List (List ℕ × List ℕ)
section_names ss = map (λ (section : InputSection). (section.object, section.name)) ss
