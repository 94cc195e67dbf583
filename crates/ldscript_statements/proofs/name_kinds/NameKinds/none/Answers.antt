use Rattle.ldscript_statements.proofs.Common.{ap, bit_at-zero, has_kind, kind_of, ◌==◌}
use Rattle.ldscript_statements.proofs.name_kinds.NameKinds.none.Goals as goal

pub returns : goal.returns
unfolding has_kind
returns c = λ q. ap (λ n. n == 1) (bit_at-zero (kind_of q))
