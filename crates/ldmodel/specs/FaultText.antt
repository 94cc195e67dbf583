-- The lines of faults (this project's own format): a code, and the words that say where and what. Lines of the script
-- and counts are decimal; offsets and values are 16 hex digits.
use Rattle.std.specs.Prelude.{ℕ, List, [], ◌∷◌, flat_map, codes, decimal}
use Rattle.elfobj.specs.file.declared.constants.TheConstants.{R_X86_64_NONE, R_X86_64_64, R_X86_64_PC32, R_X86_64_PLT32}
use Rattle.elfobj.specs.file.declared.constants.TheConstants.{R_X86_64_32, R_X86_64_32S, R_X86_64_16, R_X86_64_PC16}
use Rattle.elfobj.specs.file.declared.constants.TheConstants.{R_X86_64_8, R_X86_64_PC8, R_X86_64_PC64}
use Rattle.elfobj.specs.declared.relocation.RelocationKind.{RelocationKind}
use Rattle.elfobj.specs.declared.relocation.RelocationKind.TheVariants as kind
use Rattle.ldmodel.specs.Fault.{Fault}
use Rattle.ldmodel.specs.Fault as fault
use Rattle.ldmodel.specs.Lines.{line_of, hex}
use Rattle.ldmodel.specs.NameFaults.{Definer, ByScript, ByObject}

-- the psABI's number of a relocation
abbrev pub relocation_number : RelocationKind → ℕ
relocation_number kind.None = R_X86_64_NONE
relocation_number kind.Abs64 = R_X86_64_64
relocation_number kind.Pc32 = R_X86_64_PC32
relocation_number kind.Plt32 = R_X86_64_PLT32
relocation_number kind.Abs32 = R_X86_64_32
relocation_number kind.Abs32Signed = R_X86_64_32S
relocation_number kind.Abs16 = R_X86_64_16
relocation_number kind.Pc16 = R_X86_64_PC16
relocation_number kind.Abs8 = R_X86_64_8
relocation_number kind.Pc8 = R_X86_64_PC8
relocation_number kind.Pc64 = R_X86_64_PC64

abbrev pub definer_word : Definer → List ℕ
definer_word ByScript = codes "script"
definer_word (ByObject name) = name

abbrev pub fault_words : Fault → List (List ℕ)
fault_words (fault.DuplicateDefinition name object first) = codes "F1" ∷ name ∷ object ∷ definer_word first ∷ []
fault_words (fault.UndefinedEntry name) = codes "F2" ∷ name ∷ []
fault_words (fault.Orphan object section) = codes "F3" ∷ object ∷ section ∷ []
fault_words (fault.NotReady line name) = codes "F4" ∷ decimal line ∷ name ∷ []
fault_words (fault.NoValue line) = codes "F5" ∷ decimal line ∷ []
fault_words (fault.MovedBack line) = codes "F6" ∷ decimal line ∷ []
fault_words (fault.RegionFull section region) = codes "F7" ∷ section ∷ region ∷ []
fault_words (fault.PastAddressSpace line) = codes "F8" ∷ decimal line ∷ []
fault_words (fault.AddressesOverlap section earlier) = codes "F9" ∷ section ∷ earlier ∷ []
fault_words (fault.LoadAddressesOverlap section earlier) = codes "F10" ∷ section ∷ earlier ∷ []
fault_words (fault.ImageTooLong length) = codes "F11" ∷ decimal length ∷ []
fault_words (fault.UndefinedSymbol object section offset name) = codes "F12" ∷ object ∷ section ∷ hex offset ∷ name ∷ []
fault_words (fault.TargetNotInOutput object section offset symbol) =
    codes "F13" ∷ object ∷ section ∷ hex offset ∷ decimal symbol ∷ []
fault_words fault.EntryNotInOutput = codes "F13" ∷ codes "entry" ∷ []
fault_words (fault.FieldOverflow object section offset kind value) =
    codes "F14" ∷ object ∷ section ∷ hex offset ∷ decimal (relocation_number kind) ∷ hex value ∷ []
fault_words (fault.AssertionFailed line message) = codes "F15" ∷ decimal line ∷ message ∷ []

unfoldable pub fault_text : List Fault → List ℕ
fault_text faults = flat_map (λ fault. line_of (fault_words fault)) faults
