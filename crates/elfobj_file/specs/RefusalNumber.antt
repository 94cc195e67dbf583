-- The numbers under which refusals are told.
use Rattle.std.specs.Prelude.{ℕ}
use Rattle.elfobj_file.specs.declared.refusal.ObjectRefusal.{ObjectRefusal}
use Rattle.elfobj_file.specs.declared.refusal.ObjectRefusal.TheVariants.{Short, NotElf, Machine, SectionTable}
use Rattle.elfobj_file.specs.declared.refusal.ObjectRefusal.TheVariants.{SectionCount}
use Rattle.elfobj_file.specs.declared.refusal.ObjectRefusal.TheVariants.{SectionBounds, SectionProfile, SymbolTable}
use Rattle.elfobj_file.specs.declared.refusal.ObjectRefusal.TheVariants.{Symbol}
use Rattle.elfobj_file.specs.declared.refusal.ObjectRefusal.TheVariants.{RelocationSection, RelocationType, FieldBounds}
use Rattle.elfobj_file.specs.declared.refusal.ObjectRefusal.TheVariants.{FieldOverlap, NoMemory}

abbrev pub refusal_number : ObjectRefusal → ℕ
refusal_number Short = 1
refusal_number NotElf = 2
refusal_number Machine = 3
refusal_number SectionTable = 4
refusal_number SectionCount = 5
refusal_number SectionBounds = 6
refusal_number SectionProfile = 7
refusal_number SymbolTable = 8
refusal_number Symbol = 9
refusal_number RelocationSection = 10
refusal_number RelocationType = 11
refusal_number FieldBounds = 12
refusal_number FieldOverlap = 13
refusal_number (NoMemory _) = 14
