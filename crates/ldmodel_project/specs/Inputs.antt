-- The objects of a project as a link takes them.
use Rattle.std.specs.Prelude.{◌<◌, List, length, map}
use Rattle.ldmodel.specs.Each.{Each}
use Rattle.ldmodel.specs.Project.{NamedObject}
use Rattle.ldmodel_project.specs.declared.input.InputObject.{InputObject}

abbrev pub shown_input : InputObject → NamedObject
shown_input x = record { name = x.name.now; object = x.object.now }

-- the objects that these stand for, in their order
abbrev pub shown_inputs : List InputObject → List NamedObject
shown_inputs xs = map shown_input xs

-- no name is empty
abbrev pub AreObjectsNamed : List NamedObject → Type 0
AreObjectsNamed objects = Each (λ (object : NamedObject). 0 < length object.name) objects
