use Rattle.symres.proofs.Common.{Case, ObjectPlace, ap, decision_of, ◌∙◌}
use Rattle.symres.proofs.Placing.{named_decision}
use Rattle.symres.proofs.symbol_table.SymbolTable.case_named.Goals as goal

pub returns : goal.returns
returns c =
    let by = rw (← c.self.view_is) at c.decided_by_keys.ensures in
    rw (← c.self.view_is)
    (record {
      case = λ p symbol_table same.
          ap (λ (x : Case ObjectPlace). decision_of (λ key. key) x) c.place_case.ensures
          ∙ named_decision p c.args.script.now c.self.inside.decisions c.self.inside.order c.args.name.now
          c.case_named.result c.self.invariant (by p c.args.name.now) c.case_named.ensures.found symbol_table same;
    })
