-- The faults of a link, in the order of its phases: names, gathering, layout, relocation, assertions (this project's
-- own). Each is one line of the fault text (`FaultText`). Lines are those of the script's statements, from 1.
use Rattle.std.specs.Prelude.{ℕ, List}
use Rattle.elfobj.specs.declared.relocation.RelocationKind.{RelocationKind}
use Rattle.ldmodel.specs.NameFaults.{Definer}

pub data Fault : Type 0 where
  -- a name that an object defines once more, after the first definition, in the script or in an object
  DuplicateDefinition : (name object : List ℕ) → (first : Definer) → Fault
  -- nothing defines the entry symbol
  UndefinedEntry : (name : List ℕ) → Fault
  -- no input statement takes a section that the program needs
  Orphan : (object section : List ℕ) → Fault
  -- an expression names a symbol or an output section that is not complete where it stands. (Scripts in which it names
  -- a region of no MEMORY command before it are refused as such.)
  NotReady : (line : ℕ) → (name : List ℕ) → Fault
  -- a division by 0, or an ALIGN to what is no power of two
  NoValue : (line : ℕ) → Fault
  -- `.` goes back inside an output section
  MovedBack : (line : ℕ) → Fault
  -- the addresses of an output section do not lie in the region of `>region`, or its load addresses not in that of
  -- `AT>region`
  RegionFull : (section region : List ℕ) → Fault
  -- an address, an end or `.` is 2^64 or more
  PastAddressSpace : (line : ℕ) → Fault
  -- an output section shares an address with an earlier one
  AddressesOverlap : (section earlier : List ℕ) → Fault
  -- the same of their load addresses
  LoadAddressesOverlap : (section earlier : List ℕ) → Fault
  -- the image would have this length
  ImageTooLong : (length : ℕ) → Fault
  -- a relocation against a name that nothing defines
  UndefinedSymbol : (object section : List ℕ) → (offset : ℕ) → (name : List ℕ) → Fault
  -- a relocation against a symbol of this number, whose section is not in the output
  TargetNotInOutput : (object section : List ℕ) → (offset symbol : ℕ) → Fault
  -- the entry symbol's section is not in the output
  EntryNotInOutput : Fault
  -- the value of a relocation is out of the range of its kind
  FieldOverflow : (object section : List ℕ) → (offset : ℕ) → (kind : RelocationKind) → (value : ℕ) → Fault
  -- the condition of an ASSERT does not hold
  AssertionFailed : (line : ℕ) → (message : List ℕ) → Fault
