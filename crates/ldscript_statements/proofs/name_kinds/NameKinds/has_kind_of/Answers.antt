use Rattle.ldscript_statements.proofs.Common.{ap, bit_at, has_kind, kind_of, shr_and_one, ◌==◌, ◌∙◌}
use Rattle.ldscript_statements.proofs.name_kinds.NameKinds.has_kind_of.Goals as goal

pub returns : goal.returns
unfolding has_kind
returns c =
    let bits = c.args.self.now.bits in
    ap (λ n. n == 1) (shr_and_one bits c.kind_of.result ∙ ap (bit_at bits) c.kind_of.ensures)
