use Rattle.std.proofs.Common.{◌≡◌, ◌+◌, ◌≤◌, Some, drop, length, subst, take}
use Rattle.elfobj_file.specs.Names.{string_at}
use Rattle.elfobj_file.proofs.Cuts.{name_cut}
use Rattle.elfobj_file.proofs.names.looked_name.Goals as goal

pub returns-clause-name : goal.returns-clause-name
returns-clause-name c =
    let at = c.args.at in
    let n = c.in-Some.length in
    name_cut c.args.file.now c.args.header.now.sh_offset c.args.header.now.sh_size at n
    (subst (λ xs. at + n ≤ length xs) c.file_bytes.ensures c.in-Some.ensures.within)
    (subst (λ xs. string_at xs at ≡ Some (take n (drop at xs))) c.file_bytes.ensures c.in-Some.ensures.name)
