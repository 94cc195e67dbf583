-- The order of the linked sections of objects.
use Rattle.std.specs.Prelude.{◌<◌, map, All}
use Rattle.std.specs.List.{AllPairs}
use Rattle.elfobj.specs.Sections.{section_of}
use Rattle.elfobj.specs.file.declared.section.Section.{Section}
use Rattle.ldmodel.specs.Project.{NamedObject, Project}

-- the header numbers of its linked sections ascend
abbrev pub IsAscending : NamedObject → Type 0
IsAscending object = AllPairs (λ (s t : Section). s.number.0 < t.number.0) (map section_of object.object.sections)

-- those of each object do, as `Object::sections` says of an object
abbrev pub AscendingSections : Project → Type 0
AscendingSections project = All IsAscending project.objects
