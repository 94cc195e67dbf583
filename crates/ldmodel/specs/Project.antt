-- A project: the objects to be linked, in their order and each under its name, the linker script, and the options of
-- the link (GNU ld manual, "Invocation": the files of the command line, `-T`, and the options).
use Rattle.std.specs.Prelude.{ℕ, List, []}
use Rattle.elfobj.specs.Object.{ObjectData}
use Rattle.ldscript.specs.statements.declared.statement.Statement.{Statement}
use Rattle.ldmodel.specs.Options.{LinkOptions}

-- an object under its name, that of its file
pub record NamedObject : Type 0 where
  pub name : List ℕ
  pub object : ObjectData

pub record Project : Type 0 where
  pub objects : List NamedObject
  pub script : List Statement
  pub options : LinkOptions

-- no object, and the script that says nothing
abbrev pub empty_project : LinkOptions → Project
empty_project options = record { objects = []; script = []; options = options }
