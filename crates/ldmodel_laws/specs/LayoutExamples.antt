-- Small scripts with rows made by hand, to show what the layout says of them.
use Rattle.std.specs.Prelude.{ℕ, List, [], ◌∷◌, map, Option, Some, None, Result, Ok, Err, codes}
use Rattle.elfobj.specs.declared.section.SectionKind.{SectionKind}
use Rattle.elfobj.specs.declared.section.SectionKind.TheVariants.{Progbits, Nobits}
use Rattle.ldscript.specs.terms.Expressions.{Number}
use Rattle.ldscript.specs.statements.declared.directive.DotCommand.{DotCommand}
use Rattle.ldscript.specs.statements.declared.directive.DotCommand.TheVariants.{Set, Add}
use Rattle.ldscript.specs.statements.declared.section.BodyCommand.TheVariants as body
use Rattle.ldscript.specs.statements.declared.section.BodyStatement.{BodyStatement}
use Rattle.ldscript.specs.statements.declared.section.Load.{Load}
use Rattle.ldscript.specs.statements.declared.section.Load.TheVariants.{Unstated, InRegion}
use Rattle.ldscript.specs.statements.declared.statement.Command.TheVariants.{Memory}
use Rattle.ldscript.specs.statements.declared.statement.Item.{Item}
use Rattle.ldscript.specs.statements.declared.statement.ItemCommand.TheVariants as item
use Rattle.ldscript.specs.statements.declared.statement.Region.{Region}
use Rattle.ldscript.specs.statements.declared.statement.Statement.{Statement}
use Rattle.ldmodel.specs.Fault.{Fault}
use Rattle.ldmodel.specs.Layout.{Layout, PlacedPiece, PlacedOutput}
use Rattle.ldmodel.specs.Overlaps.{overlaps}
use Rattle.ldmodel.specs.Project.{Project}
use Rattle.ldmodel.specs.Rows.{Piece}
use Rattle.ldmodel.specs.declared.sections.Part.TheVariants.{InTable}
use Rattle.ldmodel_laws.specs.Examples.{any, command, from_any, item_at, object, section, sections, statement, word}
use Rattle.ldmodel_laws.specs.ExampleProjects.{project}

-- the entry of a row: a section of `a.o` that input statement number n takes, with SHF_ALLOC and SHF_WRITE
abbrev pub entry : ℕ → SectionKind → (size alignment : ℕ) → Piece
entry n kind size alignment = record {
  statement = n;
  object = codes "a.o";
  part = InTable (record { 0 = n });
  name = codes ".d";
  kind = kind;
  flags = 3;
  size = size;
  alignment = alignment;
}

abbrev pub bytes : ℕ → (size alignment : ℕ) → Piece
bytes n size alignment = entry n Progbits size alignment

-- `*(*)`
abbrev pub everything : BodyStatement
everything = statement (from_any (word any ∷ []))

-- `. = e` or `. += e` in an output section
abbrev pub dot : DotCommand → BodyStatement
dot c = record { line = 1; command = body.Dot c }

-- `NAME : { .. } >REGION AT>REGION`
abbrev pub in_region : List ℕ → List BodyStatement → Option (List ℕ) → Load → Item
in_region name ss region load = item_at (item.Section (record {
  name = name;
  address = None;
  load = load;
  alignment = None;
  body = ss;
  region = region;
  fill = None;
}))

abbrev pub plain : List ℕ → List BodyStatement → Item
plain name ss = in_region name ss None Unstated

-- `. = n` and `. += n` outside output sections
abbrev pub at : ℕ → Item
at n = item_at (item.Dot (Set (Number n)))

abbrev pub on : ℕ → Item
on n = item_at (item.Dot (Add (Number n)))

-- `NAME : ORIGIN = o, LENGTH = l`
abbrev pub region : List ℕ → ℕ → ℕ → Region
region name o l = record { line = 1; name = name; origin = Number o; extent = Number l }

-- start, size, load address and load size of each output section
abbrev pub numbers_of : Result Layout Fault → List (List ℕ)
numbers_of (Ok s) =
    map (λ (output : PlacedOutput). output.start ∷ output.size ∷ output.load ∷ output.load_size ∷ []) s.sections
numbers_of (Err f) = []

-- where the input sections start
abbrev pub starts_of : Result Layout Fault → List (List ℕ)
starts_of (Ok s) =
    map (λ (output : PlacedOutput). map (λ (placed : PlacedPiece). placed.start) output.pieces) s.sections
starts_of (Err f) = []

abbrev pub dot_of : Result Layout Fault → List ℕ
dot_of (Ok s) = s.dot ∷ []
dot_of (Err f) = []

abbrev pub overlaps_of : Result Layout Fault → List Fault
overlaps_of (Ok s) = overlaps s.sections
overlaps_of (Err f) = f ∷ []

-- `MEMORY { rom : ORIGIN = 0x8000, LENGTH = 4K ram : ORIGIN = 0x20000, LENGTH = 4K }
-- SECTIONS { .text : { *(*) } >rom .data : { *(*) } >ram AT>rom .bss : { *(*) } >ram }`
abbrev pub rom_and_ram : List Statement
rom_and_ram =
    command (Memory (region (codes "rom") 0x8000 4096 ∷ region (codes "ram") 0x20000 4096 ∷ []))
    ∷ sections (
    in_region (codes ".text") (everything ∷ []) (Some (codes "rom")) Unstated
    ∷ in_region (codes ".data") (everything ∷ []) (Some (codes "ram")) (InRegion (codes "rom"))
    ∷ in_region (codes ".bss") (everything ∷ []) (Some (codes "ram")) Unstated
    ∷ []
    )
    ∷ []

abbrev pub text_data_bss : List (List Piece)
text_data_bss = (bytes 0 6 1 ∷ []) ∷ (bytes 1 8 4 ∷ []) ∷ (entry 2 Nobits 16 8 ∷ []) ∷ []

-- `MEMORY { r : ORIGIN = 0x1000, LENGTH = 8 } SECTIONS { .d : { *(*) } >r }`
abbrev pub eight_bytes : List Statement
eight_bytes =
    command (Memory (region (codes "r") 0x1000 8 ∷ []))
    ∷ sections (in_region (codes ".d") (everything ∷ []) (Some (codes "r")) Unstated ∷ []) ∷ []

-- `SECTIONS { . = START; .d : { *(*) .. } }`
abbrev pub one_body : ℕ → List BodyStatement → List Statement
one_body start ss = sections (at start ∷ plain (codes ".d") (everything ∷ ss) ∷ []) ∷ []

-- `SECTIONS { . = 0x2000; .d : { *(*) } . = NEXT; .e : { *(*) } }`
abbrev pub two_at : ℕ → List Statement
two_at next =
    sections (
    at 0x2000 ∷ plain (codes ".d") (everything ∷ []) ∷ at next ∷ plain (codes ".e") (everything ∷ []) ∷ []
    )
    ∷ []

abbrev pub two_rows : List (List Piece)
two_rows = (bytes 0 8 1 ∷ []) ∷ (bytes 1 8 1 ∷ []) ∷ []

-- `SECTIONS { . = 0x1078; .d : { *(*) . = 8; } =0x9091 }`, and `a.o` with the bytes 1, 2, 3 in `.d`
abbrev pub filled : Project
filled =
    project
    (object (codes "a.o") (record (section 1 (codes ".d") 1 []) { size = 3; bytes = 1 ∷ 2 ∷ 3 ∷ [] } ∷ []) [] ∷ [])
    (sections (at 0x1078 ∷ item_at (item.Section (record {
      name = codes ".d";
      address = None;
      load = Unstated;
      alignment = None;
      body = everything ∷ dot (Set (Number 8)) ∷ [];
      region = None;
      fill = Some (0x90 ∷ 0x91 ∷ []);
    })) ∷ []) ∷ [])
