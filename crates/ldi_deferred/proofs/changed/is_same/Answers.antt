use Rattle.ldi_deferred.proofs.Common.{arith, drop, slice_get, sym, take, ◌-◌, ◌∙◌, ◌≡◌}
use Rattle.std.proofs.lemmas.Slice.Eq.{bytes_eq-Decides}
use Rattle.ldi_deferred.proofs.ImageChanges.{joined, same_at}
use Rattle.ldi_deferred.proofs.changed.is_same.Goals as goal

pub returns : goal.returns
returns c = λ yes.
    let from = c.skip_lines-at.result in
    let n = c.args.end - from in
    let same = (bytes_eq-Decides (take n (drop from c.args.sent.now)) (take n (drop from c.args.image.now))).0
    (sym c.eq.ensures ∙ yes) in
    joined (λ k. slice_get c.args.sent.now k ≡ slice_get c.args.image.now k) c.args.from from c.args.end
    c.skip_lines-at.ensures.same
    (λ at low high. same_at from n c.args.sent.now c.args.image.now
    (omega (arith, c.skip_lines-at.ensures.within, c.if-end-sent.false))
    (omega (arith, c.skip_lines-at.ensures.within, c.requires.within)) same at low
    (omega (arith, c.skip_lines-at.ensures.within, high)))
