use Rattle.place_terms.proofs.Common.{ComesAfter, IsFound, Numbered, subst, sym}
use Rattle.place_terms.proofs.InTurn.{turns_more}
use Rattle.place_terms.proofs.symbols.AssignedSymbols.push.Goals as goal

pub invariant_of-self-2 : goal.invariant_of-self-2
invariant_of-self-2 c =
    turns_more (record { script = c.self.inside.commands; list = c.self.inside.list.items }) c.self.inside.next
    c.args.symbol c.push.new.list.items c.self.invariant
    (subst (λ (v : Numbered). IsFound v.script c.args.symbol) (sym c.self.view_is) c.requires.found)
    (subst (λ (v : Numbered). ComesAfter v.list c.args.symbol.command.0) (sym c.self.view_is) c.requires.after
    c.self.inside.next c.self.invariant.turns)
    c.in_ok-push.ensures.items
