use Rattle.symres_table.proofs.Common.{Declared, eqb, not, rules}
use Rattle.std.proofs.lemmas.Fn.{filter_same}
use Rattle.symres_table.proofs.rows.drop_key.Goals as goal

pub returns-clause-items : goal.returns-clause-items
returns-clause-items c =
    filter_same _ (λ (d : Declared). not (eqb d.entry.object.0 c.args.key.0)) _ (λ x b f r.
    search rules) _ _ c.retain.ensures.filtered
