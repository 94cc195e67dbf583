use Rattle.symres.proofs.Common.{List, NamedKey, [], ap, arith, length, map, map-append, named_number, sym, take, ℕ}
use Rattle.symres.proofs.Common.{◌++◌, ◌<◌, ◌∙◌, ◌∷◌}
use Rattle.std.proofs.lemmas.List.{take_more}
use Rattle.symres.proofs.Sorting.{Listed}
use Rattle.symres.proofs.sorted.written.Goals as goal

pub loop-place-preserved : goal.loop-place-preserved
loop-place-preserved c =
    let i = c.loop-place.invariant in
    let text : List Listed = c.args.text.now in
    let place : ℕ = c.loop-place.place in
    let x : NamedKey = c.named_at.result in
    let within : place < length text = omega (arith, c.loop-place-test.true, c.len-count.ensures) in
    record {
      same =
          ap (map named_number) c.push_reserved.ensures.items
          ∙ map-append named_number c.loop-place.list.items (x ∷ [])
          ∙ ap (λ (names : List Listed). names ++ named_number x ∷ []) i.same
          ∙ ap (λ (name : Listed). take place text ++ name ∷ []) (c.named_at.ensures ([], 0))
          ∙ sym (take_more text place ([], 0) within);
      len = omega (arith, c.push_reserved.ensures.len, i.len);
      room = omega (arith, i.room, c.push_reserved.ensures.capacity);
    }
