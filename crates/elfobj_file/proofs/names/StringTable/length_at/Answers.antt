use Rattle.std.proofs.Common.{sym, ◌∙◌, arith}
use Rattle.std.proofs.lemmas.List.{get_or_past, get_or_read}
use Rattle.elfobj_file.specs.TableOf.{table_of}
use Rattle.elfobj_file.proofs.StringTables.{length_told}
use Rattle.elfobj_file.proofs.names.StringTable.length_at.Goals as goal

pub returns-then-at-len : goal.returns-then-at-len
returns-then-at-len c =
    let t = c.args.self.now in
    get_or_read t.lengths.items _ _ (omega (arith, c.if-at-len.true, c.len.ensures, t.lengths.ok.0)) c.index.ensures 0
    ∙ length_told t.lengths.items (table_of t) c.args.at t.right

pub returns-else-at-len : goal.returns-else-at-len
returns-else-at-len c =
    let t = c.args.self.now in
    sym (get_or_past t.lengths.items c.args.at 0 (omega (arith, c.if-at-len.false, c.len.ensures, t.lengths.ok.0)))
    ∙ length_told t.lengths.items (table_of t) c.args.at t.right
