use Rattle.std.proofs.Common.{rules, ◌≡◌, ◌∷◌, [], ℕ, ◌<◌, ◌∙◌, List, length, map, get_or, ap, sym, arith}
use Rattle.std.proofs.lemmas.List.{get_or-map, length-map}
use Rattle.std.specs.Prelude.{Contains}
use Rattle.ldi_files.specs.Fault.{IsOutputFault, name_of}
use Rattle.ldi_files.specs.declared.fault.FileFault.{FileFault}
use Rattle.ldi_files.specs.declared.fault.FileFault.TheVariants.{Memory, Failed}
use Rattle.ldi_files.specs.declared.writing.NewFile.{NewFile}

-- the name of the file number `n` is among the names of all
pub contains_name : (files : List NewFile) (n : ℕ) (file : NewFile) → n < length files
    → ((d : NewFile) → file ≡ get_or files n d) → Contains (map name_of files) (name_of file)
contains_name files n file lt is = (
  n,
  omega (arith, length-map files name_of, lt),
  get_or-map name_of files n file (name_of file) lt ∙ ap name_of (sym (is file)),
)

-- a fault of one file is a fault of all among which that one is
pub fault_among : (name : List ℕ) (names : List (List ℕ)) → Contains names name
    → (fault : FileFault) → IsOutputFault (name ∷ []) fault → IsOutputFault names fault
fault_among name names has (Memory _) h = h
fault_among name names has (Failed action n e) h = search (rules, has, h)
