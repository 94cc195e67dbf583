-- How a reader's refusal is reported.
use Rattle.elfobj.specs.declared.refusal.ObjectRefusal.{ObjectRefusal}
use Rattle.elfobj.specs.declared.refusal.ObjectRefusal.TheVariants as object
use Rattle.ldscript.specs.declared.refusal.ScriptRefusal.{ScriptRefusal}
use Rattle.ldscript.specs.declared.refusal.ScriptRefusal.TheVariants as script
use Rattle.ldmodel.specs.declared.edit.EditRefusal.{EditRefusal}
use Rattle.ldmodel.specs.declared.edit.EditRefusal.TheVariants as refusal
use Rattle.growth.specs.Memory.{no_memory}

-- out of memory in a reader is out of memory
abbrev pub object_refused : ObjectRefusal → EditRefusal
object_refused (object.NoMemory _) = refusal.NoMemory no_memory
object_refused why = refusal.NotAnObject why

abbrev pub script_refused : ScriptRefusal → EditRefusal
script_refused (script.NoMemory _) = refusal.NoMemory no_memory
script_refused why = refusal.NotAScript why
