use Rattle.place_terms.proofs.Common.{length, refl, rules, slice_get_read, sym}
use Rattle.std.proofs.lemmas.List.Sorted.{answers_always}
use Rattle.ldmodel.specs.declared.script_symbol.ScriptSymbol.{ScriptSymbol}
use Rattle.place_terms.proofs.InTurn.{found_at, found_here, none_at}
use Rattle.place_terms.proofs.symbols.value_given.Goals as goal

pub returns-then-symbol-number : goal.returns-then-symbol-number
returns-then-symbol-number c =
    sym (found_here c.args.list.now c.requires c.args.number c.args.number c.in-Some.symbol.now
    (slice_get_read c.args.list.now (length c.args.list.now) c.args.number c.in-Some.symbol.now refl
    c.in-Some.ensures.lookup.3.0 c.in-Some.ensures.lookup.1) c.if-symbol-number.true)

pub returns-in-Ok : goal.returns-in-Ok
returns-in-Ok c =
    sym (found_at c.args.list.now c.requires c.args.number c.in-Ok.place _
    (c.in-Ok.ensures.position (λ (s : ScriptSymbol). s.command.0)
    (answers_always _ _ _ (λ f a r g called. search rules))) c.in-Ok.ensures.bound)

pub returns-in-Err : goal.returns-in-Err
returns-in-Err c =
    sym (none_at c.args.list.now c.requires c.args.number _
    (c.in-Err.ensures.position (λ (s : ScriptSymbol). s.command.0)
    (answers_always _ _ _ (λ f a r g called. search rules))))
