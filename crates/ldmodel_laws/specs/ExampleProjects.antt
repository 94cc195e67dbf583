-- The projects of the examples.
use Rattle.std.specs.Prelude.{ℕ, true, List, [], ◌∷◌, Some, codes, negsuc}
use Rattle.elfobj.specs.Sections.{LinkedSection}
use Rattle.elfobj.specs.Symbols.{NamedSymbol}
use Rattle.elfobj.specs.declared.relocation.Relocation.{Relocation}
use Rattle.elfobj.specs.declared.relocation.RelocationKind.TheVariants as kind
use Rattle.elfobj.specs.declared.relocation.RelocationKind.TheVariants.{Plt32}
use Rattle.ldscript.specs.terms.Expressions.{Number}
use Rattle.ldscript.specs.statements.declared.directive.DotCommand.TheVariants.{Set}
use Rattle.ldscript.specs.statements.declared.statement.ItemCommand.TheVariants as item
use Rattle.elfobj.specs.declared.symbol.Binding.TheVariants.{Global}
use Rattle.ldscript.specs.statements.declared.input.Input.{Input}
use Rattle.ldscript.specs.statements.declared.input.Sort.TheVariants.{ByAlignment}
use Rattle.ldscript.specs.statements.declared.input.SectionWord.{SectionWord}
use Rattle.ldscript.specs.statements.declared.statement.Command.TheVariants.{Entry}
use Rattle.ldscript.specs.statements.declared.statement.Statement.{Statement}
use Rattle.ldmodel.specs.Options.{default_options}
use Rattle.ldmodel.specs.Project.{NamedObject, Project}
use Rattle.ldmodel_laws.specs.Examples.{object, section, reference, defined, undefined, common, any, exactly, word}
use Rattle.ldmodel_laws.specs.Examples.{from_any}
use Rattle.ldmodel_laws.specs.Examples.{item_at, output, discard, command, sections, provide}

abbrev pub project : List NamedObject → List Statement → Project
project objects script = record { objects = objects; script = script; options = default_options }

-- an object of this name with sections `.a` and `.b`
abbrev pub a_and_b : List ℕ → NamedObject
a_and_b name = object name (section 1 (codes ".a") 1 [] ∷ section 2 (codes ".b") 4 [] ∷ []) []

-- `a.o` and `b.o`, each with sections `.a` and `.b`, under a script of one output section with these input statements
abbrev pub of_two : List Input → Project
of_two inputs =
    let objects : List NamedObject = a_and_b (codes "a.o") ∷ a_and_b (codes "b.o") ∷ [] in
    project objects (sections (output (codes ".out") inputs ∷ []) ∷ [])

-- a section of `a.o`, and one of `b.o`, by the names of object and section
abbrev pub of_a : List ℕ → List ℕ × List ℕ
of_a section = (codes "a.o", section)

abbrev pub of_b : List ℕ → List ℕ × List ℕ
of_b section = (codes "b.o", section)

-- `*(.a .b)`
abbrev pub both : Input
both = from_any (word (exactly (codes ".a")) ∷ word (exactly (codes ".b")) ∷ [])

-- `*(.a)` and `*(.b)`
abbrev pub only_a : Input
only_a = from_any (word (exactly (codes ".a")) ∷ [])

abbrev pub only_b : Input
only_b = from_any (word (exactly (codes ".b")) ∷ [])

-- `*(EXCLUDE_FILE(b.o) .a .b)`
abbrev pub both_but_b : Input
both_but_b =
    let excluding : SectionWord = record { pattern = exactly (codes ".a"); excluded = exactly (codes "b.o") ∷ [] } in
    from_any (excluding ∷ word (exactly (codes ".b")) ∷ [])

-- an object that defines a global name in its one section
abbrev pub defines : (object section name : List ℕ) → NamedObject
defines o s name = object o (section 1 s 1 [] ∷ []) (defined Global 1 name ∷ [])

-- `a.o` defines `_start` and refers to a name; `b.o` defines `f`, `c.o` defines `g`; with garbage collection from
-- `_start` on
abbrev pub collected : List ℕ → List Input → Project
collected name inputs =
    let text : LinkedSection = section 1 (codes ".text") 1 (reference 2 ∷ []) in
    let symbols : List NamedSymbol = defined Global 1 (codes "_start") ∷ undefined name ∷ [] in
    let a : NamedObject = object (codes "a.o") (text ∷ []) symbols in
    let b : NamedObject = defines (codes "b.o") (codes ".text.f") (codes "f") in
    let c : NamedObject = defines (codes "c.o") (codes ".text.g") (codes "g") in
    record {
      objects = a ∷ b ∷ c ∷ [];
      script = command (Entry (codes "_start")) ∷ sections (output (codes ".text") inputs ∷ []) ∷ [];
      options = record default_options { gc = true };
    }

-- the same where `/DISCARD/` takes `.text.f`, under KEEP
abbrev pub discarded : List ℕ → List Input → Project
discarded name inputs =
    let keep : Input = record (from_any (word (exactly (codes ".text.f")) ∷ [])) { keep = true } in
    record (collected name inputs) {
      script =
          command (Entry (codes "_start"))
          ∷ sections (discard (keep ∷ []) ∷ output (codes ".text") inputs ∷ []) ∷ [];
    }

-- `a.o` and `b.o`, each with one symbol and no section
abbrev pub of_symbols : NamedSymbol → NamedSymbol → Project
of_symbols symbol t = project (object (codes "a.o") [] (symbol ∷ []) ∷ object (codes "b.o") [] (t ∷ []) ∷ []) []

-- objects under the script `PROVIDE(end = .)`
abbrev pub providing : List NamedObject → Project
providing objects = project objects (provide (codes "end") ∷ [])

-- `a.o` with an undefined `end`, and `b.o` with a common one
abbrev pub uses_end : NamedObject
uses_end = object (codes "a.o") [] (undefined (codes "end") ∷ [])

abbrev pub has_end : NamedObject
has_end = object (codes "b.o") [] (common 4 4 (codes "end") ∷ [])

-- `a.o` calls `f`, and `b.o` returns from it, at a multiple of 8
abbrev pub calls_f : NamedObject
calls_f =
    let call : Relocation = record { offset = 1; symbol = record { 0 = 1 }; kind = Plt32; addend = negsuc 3 } in
    let bytes : List ℕ = 0xE8 ∷ 0 ∷ 0 ∷ 0 ∷ 0 ∷ [] in
    let one : LinkedSection = section 1 (codes ".text") 1 (call ∷ []) in
    let text : LinkedSection = record one { flags = 6; size = 5; bytes = bytes } in
    object (codes "a.o") (text ∷ []) (undefined (codes "f") ∷ [])

abbrev pub returns : NamedObject
returns =
    let text : LinkedSection = record (section 1 (codes ".text") 8 []) { flags = 6; bytes = 0xC3 ∷ [] } in
    object (codes "b.o") (text ∷ []) (defined Global 1 (codes "f") ∷ [])

-- `SECTIONS { . = START; NAME : { *(WORD) } }`
abbrev pub one_section : ℕ → (name input : List ℕ) → List Statement
one_section start name input =
    let inputs : List Input = from_any (word (exactly input) ∷ []) ∷ [] in
    sections (item_at (item.Dot (Set (Number start))) ∷ output name inputs ∷ []) ∷ []

-- `a.o` and `b.o` under `SECTIONS { . = 0x4010C8; .text : { *(.text) } }`
abbrev pub call_and_return : Project
call_and_return = project (calls_f ∷ returns ∷ []) (one_section 0x4010C8 (codes ".text") (codes ".text"))

-- two common entries of `buf`, under `SECTIONS { . = 0x404004; .bss : { *(COMMON) } }`
abbrev pub commons_in_bss : Project
commons_in_bss =
    let objects : List NamedObject = (of_symbols (common 4 8 (codes "buf")) (common 16 4 (codes "buf"))).objects in
    project objects (one_section 0x404004 (codes ".bss") (codes "COMMON"))

-- the same as `collected` where `a.o` refers to `f` by a relocation that changes nothing, or to a common `buf`, which
-- is in `b.o` and `c.o`
abbrev pub collected_by : Relocation → NamedSymbol → NamedSymbol → Project
collected_by relocation target owned =
    let text : LinkedSection = section 1 (codes ".text") 1 (relocation ∷ []) in
    let a : NamedObject = object (codes "a.o") (text ∷ []) (defined Global 1 (codes "_start") ∷ target ∷ []) in
    let b : NamedObject = object (codes "b.o") (section 1 (codes ".text.f") 1 [] ∷ []) (owned ∷ []) in
    let c : NamedObject = object (codes "c.o") (section 1 (codes ".text.g") 1 [] ∷ []) (owned ∷ []) in
    record {
      objects = a ∷ b ∷ c ∷ [];
      script =
          command (Entry (codes "_start"))
          ∷ sections (output (codes ".text") (from_any (word any ∷ []) ∷ []) ∷ []) ∷ [];
      options = record default_options { gc = true };
    }

-- a relocation of type NONE against symbol number k
abbrev pub marker : ℕ → Relocation
marker k = record (reference k) { kind = kind.None }

-- `a.o` with `.a` of alignment 0 and `.b` of alignment 1, under `*(SORT_BY_ALIGNMENT(.b .a))`
abbrev pub unaligned : Project
unaligned =
    let sorted : Input = record both { sort = Some ByAlignment } in
    let o : NamedObject = object (codes "a.o") (section 1 (codes ".a") 0 [] ∷ section 2 (codes ".b") 1 [] ∷ []) [] in
    project (o ∷ []) (sections (output (codes ".out") (sorted ∷ []) ∷ []) ∷ [])
