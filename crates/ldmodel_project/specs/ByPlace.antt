-- What the values of the code stand for in a link from scratch, where the key of an object is its place in the project.
use Rattle.std.specs.Prelude.{ℕ, List, map}
use Rattle.std.specs.Vec.{vec_items}
use Rattle.std.proofs.Common.{Vec, Global}
use Rattle.ldmodel.specs.Fault.{Fault}
use Rattle.ldmodel.specs.FaultCode.{fault_of, name_of_part}
use Rattle.ldmodel.specs.CodeValues.{piece_of}
use Rattle.ldmodel.specs.NameFaults.{object_name}
use Rattle.ldmodel.specs.Project.{Project}
use Rattle.ldmodel.specs.Rows.{Piece}
use Rattle.ldmodel.specs.declared.fault.Fault as code_fault
use Rattle.ldmodel.specs.declared.rows.Piece as code
use Rattle.ldmodel.specs.declared.sections.SectionRef.{SectionRef}

-- the name of an input section
abbrev pub name_of_section : Project → SectionRef → List ℕ
name_of_section project k = name_of_part project k.object.0 k.part

-- an entry of a row
abbrev pub piece_in : Project → code.Piece → Piece
piece_in project x = piece_of (object_name project) (name_of_section project) x

-- rows
abbrev pub rows_in : Project → List (Vec code.Piece Global) → List (List Piece)
rows_in project rows = map (λ (row : List code.Piece). map (piece_in project) row) (map vec_items rows)

-- faults
abbrev pub faults_in : Project → List code_fault.Fault → List Fault
faults_in project faults = map (fault_of project (λ key. key)) faults
