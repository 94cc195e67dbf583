-- The types of relocations of the profile (x86-64 psABI, "Relocation Types").
use Rattle.std.specs.Prelude.{ℕ, Option, Some, None, ◌==◌, if◌then◌else◌}
use Rattle.elfobj_file.specs.declared.constants.TheConstants.{R_X86_64_NONE, R_X86_64_64, R_X86_64_PC32, R_X86_64_PLT32}
use Rattle.elfobj_file.specs.declared.constants.TheConstants.{R_X86_64_32, R_X86_64_32S, R_X86_64_16, R_X86_64_PC16}
use Rattle.elfobj_file.specs.declared.constants.TheConstants.{R_X86_64_8, R_X86_64_PC8, R_X86_64_PC64}
use Rattle.elfobj_file.specs.declared.relocation.RelocationKind.{RelocationKind}
use Rattle.elfobj_file.specs.declared.relocation.RelocationKind.TheVariants as kind

-- the types of the profile
unfoldable pub relocation_kind : ℕ → Option RelocationKind
relocation_kind number =
    if number == R_X86_64_NONE then Some kind.None
    else (if number == R_X86_64_64 then Some kind.Abs64
    else (if number == R_X86_64_PC32 then Some kind.Pc32
    else (if number == R_X86_64_PLT32 then Some kind.Plt32
    else (if number == R_X86_64_32 then Some kind.Abs32
    else (if number == R_X86_64_32S then Some kind.Abs32Signed
    else (if number == R_X86_64_16 then Some kind.Abs16
    else (if number == R_X86_64_PC16 then Some kind.Pc16
    else (if number == R_X86_64_8 then Some kind.Abs8
    else (if number == R_X86_64_PC8 then Some kind.Pc8
    else (if number == R_X86_64_PC64 then Some kind.Pc64
    else None))))))))))

-- how many bytes a relocation changes
abbrev pub width : RelocationKind → ℕ
width kind.None = 0
width kind.Abs64 = 8
width kind.Pc32 = 4
width kind.Plt32 = 4
width kind.Abs32 = 4
width kind.Abs32Signed = 4
width kind.Abs16 = 2
width kind.Pc16 = 2
width kind.Abs8 = 1
width kind.Pc8 = 1
width kind.Pc64 = 8
