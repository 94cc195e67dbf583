-- The types of sections that are linked (gABI, "Sections"; psABI, "Section types").
use Rattle.std.specs.Prelude.{ℕ, Option, Some, None, ◌==◌, if◌then◌else◌}
use Rattle.elfobj_file.specs.declared.section.SectionKind.{SectionKind}
use Rattle.elfobj_file.specs.declared.section.SectionKind.TheVariants.{Progbits, Nobits, Note, InitArray, FiniArray}
use Rattle.elfobj_file.specs.declared.section.SectionKind.TheVariants.{PreinitArray, Unwind}
use Rattle.elfobj_file.specs.declared.constants.TheConstants.{SHT_PROGBITS, SHT_NOBITS, SHT_NOTE, SHT_INIT_ARRAY}
use Rattle.elfobj_file.specs.declared.constants.TheConstants.{SHT_FINI_ARRAY, SHT_PREINIT_ARRAY, SHT_X86_64_UNWIND}

-- the types that are linked
unfoldable pub kind_of : ℕ → Option SectionKind
kind_of sh_type =
    if sh_type == SHT_PROGBITS then Some Progbits
    else (if sh_type == SHT_NOBITS then Some Nobits
    else (if sh_type == SHT_NOTE then Some Note
    else (if sh_type == SHT_INIT_ARRAY then Some InitArray
    else (if sh_type == SHT_FINI_ARRAY then Some FiniArray
    else (if sh_type == SHT_PREINIT_ARRAY then Some PreinitArray
    else (if sh_type == SHT_X86_64_UNWIND then Some Unwind
    else None))))))
