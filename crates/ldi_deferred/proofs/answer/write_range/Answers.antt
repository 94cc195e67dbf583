use Rattle.ldi_deferred.proofs.Common.{List, Part-front, Writes-cut, Writes-then, [], append_assoc, subst, ℕ, ◌++◌, ◌∷◌}
use Rattle.std.proofs.Common.{decimal}
use Rattle.ldi_stream.specs.Stepped.{Writes}
use Rattle.ldi_deferred.proofs.answer.write_range.Goals as goal

pub returns-in_err-write_number-clause-text : goal.returns-in_err-write_number-clause-text
returns-in_err-write_number-clause-text g c =
    let first : List ℕ = decimal c.args.range.offset in
    let second : List ℕ = decimal c.args.range.count ++ 10 ∷ [] in
    let old = g.W.Sink.written c.args.sink.now in
    let new = g.W.Sink.written c.write_number.new.sink in
    subst (λ (text : List ℕ). Writes old new text c.from_residual.result) (append_assoc first (32 ∷ []) second)
    (Writes-cut _ old new ((first ++ 32 ∷ []) ++ second) _ c.from_residual.ensures.1
    (Part-front old new (first ++ 32 ∷ []) second c.in_err-write_number.ensures.text))

pub returns-clause-text : goal.returns-clause-text
returns-clause-text g c =
    let first : List ℕ = decimal c.args.range.offset in
    let second : List ℕ = decimal c.args.range.count ++ 10 ∷ [] in
    let old = g.W.Sink.written c.args.sink.now in
    let new = g.W.Sink.written c.write_number-2.new.sink in
    subst (λ (text : List ℕ). Writes old new text c.write_number-2.result) (append_assoc first (32 ∷ []) second)
    (Writes-then old _ new (first ++ 32 ∷ []) second _ c.in_ok-write_number.ensures.text
    c.write_number-2.ensures.text)
