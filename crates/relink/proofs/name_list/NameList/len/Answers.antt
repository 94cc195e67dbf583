use Rattle.relink.proofs.Common.{Names, ap, arith, length}
use Rattle.relink.proofs.Listed.{count_names}
use Rattle.relink.proofs.name_list.NameList.len.Goals as goal

pub returns : goal.returns
returns c =
    let lengths = c.self.inside.lengths in
    let counted = count_names c.self.inside.text.items lengths.items in
    let shown = ap (λ (n : Names). length n.names) c.self.view_is in
    omega (arith, c.len.ensures, counted, shown, lengths.ok.0, lengths.ok.1)
