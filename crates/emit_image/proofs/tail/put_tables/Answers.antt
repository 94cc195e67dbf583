use Rattle.emit_image.proofs.Common.{ap, ℕ, ◌+◌, ◌∙◌}
use Rattle.elfobj.specs.file.declared.constants.TheConstants.{SHT_SYMTAB, SHT_STRTAB}
use Rattle.ldmodel.specs.SectionHeaders.{table_header}
use Rattle.emit_image.proofs.TailOfLink.{three}
use Rattle.emit_image.proofs.tail.put_tables.Goals as goal

pub returns : goal.returns
returns c = λ ns a b d.
    three c.args.out.now.items c.put_header.new.out.items c.put_header-2.new.out.items c.put_header-3.new.out.items _ _
    _ _ _ _
    c.in_ok-put_header.ensures c.in_ok-put_header-2.ensures c.in_ok-put_header-3.ensures
    (c.symbols_header.ensures
    ∙ ap (λ (n : ℕ). table_header n SHT_SYMTAB c.args.tables.now.symbols (c.args.count + 2) 1 8 24) a)
    (c.strings_header.ensures ∙ ap (λ (n : ℕ). table_header n SHT_STRTAB c.args.tables.now.symbol_names 0 0 1 0) b)
    (c.strings_header-2.ensures ∙ ap (λ (n : ℕ). table_header n SHT_STRTAB c.args.tables.now.header_names 0 0 1 0) d)
