use Rattle.place_terms.proofs.Common.{All-take, AreFound, IsFound, Numbered, Rises, ap, risen, rules, subst, sym, take}
use Rattle.place_terms.proofs.Common.{◌∙◌, ◌≡◌}
use Rattle.place_terms.proofs.InTurn.{rises_first}
use Rattle.place_terms.proofs.symbols.AssignedSymbols.take_over.Goals as goal

pub after_last-self-inside-requires : goal.after_last-self-inside-requires
after_last-self-inside-requires c =
    let is : c.first-taken.result.now ≡ take c.args.count c.args.symbols.now = search rules in
    subst Rises (sym is) (rises_first c.args.symbols.now c.args.count c.requires.rises)

pub invariant_of-self-2 : goal.invariant_of-self-2
invariant_of-self-2 c =
    let is : c.extend_from_slice.new.list.items ≡ take c.args.count c.args.symbols.now = search rules in
    let same : c.extend_from_slice.new.list.items ≡ c.first-taken.result.now = search rules in
    record {
      found = subst (AreFound c.self.inside.commands) (sym is)
          (All-take (IsFound c.self.inside.commands) c.args.count c.args.symbols.now
          (subst (λ (v : Numbered). AreFound v.script c.args.symbols.now) (sym c.self.view_is) c.requires.found));
      turns = ap (risen 0) same ∙ c.after_last-self-inside.ensures;
    }
