use Rattle.ldscript_statements.proofs.Common.{ap, arith, bit_at, bit_at_set_same, bit_or, false≢true, has_kind, kind_of}
use Rattle.ldscript_statements.proofs.Common.{sym, true, w64, ◌%◌, ◌*◌, ◌<◌, ◌==◌, ◌^◌, ◌∙◌, ◌≡◌}
use Rattle.ldscript_statements.proofs.KindsNoted.{was_off}
use Rattle.ldscript_statements.proofs.name_kinds.NameKinds.note.Goals as goal

pub returns-clause-name : goal.returns-clause-name
unfolding has_kind
returns-clause-name c = λ q off same.
    let bits = c.args.self.now.bits in
    let k = c.kind_of.result in
    let within : k < 64 = omega (arith, c.kind_of.ensures) in
    let kinds = record c.args.self.now { bits = bit_or bits (1 * 2 ^ k % 18446744073709551616) } in
    let on : has_kind kinds c.args.name.now ≡ true =
    ap (λ i. bit_at kinds.bits i == 1) (sym c.kind_of.ensures) ∙ ap (λ n. n == 1) (bit_at_set_same w64 bits k within) in
    false≢true (sym off ∙ ap (has_kind kinds) same ∙ on)

pub returns-clause-others : goal.returns-clause-others
unfolding has_kind
returns-clause-others c = λ q off. was_off c.args.self.now.bits _ (kind_of q) off
