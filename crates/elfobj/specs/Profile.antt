-- What holds of each linked section, each symbol and each relocation of an object.
use Rattle.std.specs.Prelude.{◌≡◌, ℕ, ◌^◌, ◌<◌, ◌≤◌, ◌⊎◌, List, [], length, false, not, ◌==◌, bit_and, IsTrue}
use Rattle.std.specs.List.{All, AllPairs}
use Rattle.std.specs.Int.{is_power_of_two}
use Rattle.std.specs.Int.Bits.{bit_or}
use Rattle.elfobj_file.specs.Names.{is_name}
use Rattle.elfobj_file.specs.Relocations.{field_end, meets}
use Rattle.elfobj_file.specs.Sections.{LinkedSection}
use Rattle.elfobj_file.specs.Symbols.{NamedSymbol}
use Rattle.elfobj_file.specs.declared.constants.TheConstants.{PROFILE_FLAGS, SHF_ALLOC}
use Rattle.elfobj_file.specs.declared.relocation.Relocation.{Relocation}
use Rattle.elfobj_file.specs.declared.section.SectionKind.{SectionKind}
use Rattle.elfobj_file.specs.declared.section.SectionKind.TheVariants.{Nobits}
use Rattle.elfobj_file.specs.declared.symbol.Binding.{Binding}
use Rattle.elfobj_file.specs.declared.symbol.Binding.TheVariants.{Local, Global}
use Rattle.elfobj_file.specs.declared.symbol.Symbol.{Symbol}
use Rattle.elfobj_file.specs.declared.symbol.SymbolPlace.{SymbolPlace}
use Rattle.elfobj_file.specs.declared.symbol.SymbolPlace.{SymbolPlace}
use Rattle.elfobj_file.specs.declared.symbol.SymbolPlace.TheVariants.{Common, Section}

-- how many bytes of the file a section of this number of bytes has
abbrev pub size_in_file : SectionKind → ℕ → ℕ
size_in_file Nobits size = 0
size_in_file _ size = size

-- its name, flags, size and alignment are within the profile, ALLOC is among its flags, and it has all of its bytes
pub record IsSectionOfProfile (s : LinkedSection) : Type 0 where
  pub name : IsTrue (is_name s.name)
  pub flags : bit_or s.flags PROFILE_FLAGS ≡ PROFILE_FLAGS
  pub alloc : IsTrue (not (bit_and s.flags SHF_ALLOC == 0))
  pub flags_fit : s.flags < 2 ^ 64
  pub size : s.size ≤ 2 ^ 31
  pub alignment : (s.alignment ≡ 0) ⊎ IsTrue (is_power_of_two s.alignment)
  pub bytes : length s.bytes ≡ size_in_file s.kind s.size

-- a local symbol has no name here, another has one within the limits
abbrev pub IsNameOf : Binding → List ℕ → Type 0
IsNameOf Local name = name ≡ []
IsNameOf _ name = IsTrue (is_name name)

-- a common block is global, and its alignment and its size are within the profile
pub record IsCommonBlock (s : Symbol) : Type 0 where
  pub binding : s.binding ≡ Global
  pub alignment : IsTrue (is_power_of_two s.value)
  pub size : s.size ≤ 2 ^ 31

-- its name is within the limits, but a local symbol has none here; a common block is within the profile
pub record IsSymbolOfProfile (s : NamedSymbol) : Type 0 where
  pub name : IsNameOf s.symbol.binding s.name
  pub common : s.symbol.place ≡ Common → IsCommonBlock s.symbol

-- a section that a symbol lies in has the number of one of this number of headers
abbrev pub IsSectionBelow : ℕ → SymbolPlace → Type 0
IsSectionBelow n (Section k) = k.0 < n
IsSectionBelow n _ = Unit {0}

-- it names one of this number of symbols, and its field lies in a section of this number of bytes
pub record IsRelocationOfProfile (symbols size : ℕ) (r : Relocation) : Type 0 where
  pub symbol : r.symbol.0 < symbols
  pub field : field_end r ≤ size

-- no two fields share a byte
abbrev pub AreApart : List Relocation → Type 0
AreApart = AllPairs (λ r q. meets r q ≡ false)

-- the relocations of a section of an object of this number of symbols
pub record HasRelocationsOfProfile (symbols : ℕ) (s : LinkedSection) : Type 0 where
  pub each : All (IsRelocationOfProfile symbols s.size) s.relocations
  pub apart : AreApart s.relocations
  pub none : s.kind ≡ Nobits → s.relocations ≡ []
