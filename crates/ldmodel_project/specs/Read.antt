-- Objects that were read.
use Rattle.std.specs.Prelude.{◌≡◌, List}
use Rattle.elfobj.specs.Object.{object_of}
use Rattle.ldmodel.specs.Each.{Each}
use Rattle.ldmodel.specs.Project.{NamedObject}

-- each is what its bytes spell
abbrev pub AreObjectsRead : List NamedObject → Type 0
AreObjectsRead objects = Each (λ (object : NamedObject). object.object ≡ object_of object.object.text) objects
