use Rattle.std.proofs.Common.{Some, ap, refl, sym, ◌∙◌}
use Rattle.elfobj_file.specs.TableOf.{table_of}
use Rattle.elfobj_file.proofs.Cuts.{name_cut_by}
use Rattle.elfobj_file.proofs.names.StringTable.file_range.Goals as goal

pub returns-clause-name : goal.returns-clause-name
returns-clause-name c =
    name_cut_by c.args.self.now.file.now c.args.self.now.header.sh_offset c.args.self.now.header.sh_size c.args.at
    c.from.result (table_of c.args.self.now) c.name_length.result
    refl (c.unwrap-length.ensures ∙ ap (λ n. Some n) (sym c.from.ensures)) c.name_length.ensures.within
    c.name_length.ensures.name
