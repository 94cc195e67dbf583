-- What files of a link, and what it answers, stand for.
use Rattle.std.specs.Prelude.{ℕ, List, Result, Ok, Err, map}
use Rattle.ldmodel.specs.EditMeaning.{refusal_of}
use Rattle.ldmodel.specs.Link.{Link}
use Rattle.ldmodel.specs.LinkCommand as model
use Rattle.ldmodel.specs.LinkCommand.{LinkAnswer, Linked, RefusedAt, RefusedEdit}
use Rattle.ldmodel.specs.declared.edit.EditRefusal.{EditRefusal}
use Rattle.relink_driver.specs.declared.fault.LinkFault.{LinkFault}
use Rattle.relink_driver.specs.declared.fault.LinkFault.TheVariants.{Refused, Memory}
use Rattle.relink_driver.specs.declared.file.ObjectFile.{ObjectFile}

abbrev pub file_of : ObjectFile → model.ObjectFile
file_of file = record { word = file.word.items; bytes = file.bytes.items }

abbrev pub files_of : List ObjectFile → List model.ObjectFile
files_of files = map file_of files

-- a refused edit at a place
abbrev pub refused_at : ℕ → EditRefusal → RefusedEdit
refused_at place why = record { place = place; why = refusal_of why }

abbrev pub fault_answer : LinkFault → LinkAnswer
fault_answer (Refused place why) = RefusedAt (refused_at place why)
fault_answer (Memory _) = model.NoMemory

abbrev pub answer_of : Result Link LinkFault → LinkAnswer
answer_of (Ok output) = Linked output
answer_of (Err fault) = fault_answer fault
