use Rattle.symres_table.proofs.Common.{None, Vec, bytes_eq, insert_entry-new, ℕ, ◌≡◌, ◌∙◌}
use Rattle.std.proofs.Common.{Global, sym}
use Rattle.std.specs.Prelude.{Err, IfNone, IfOk, Ok, Option, Result, Some}
use Rattle.symres_table.proofs.name_table.put_new.Goals as goal

-- what holds where no value is returned, if none was found
where_new : {E : Type 0} (r : Result (Option ℕ) E) (found : Option ℕ) (P Q : Type 0) → IfOk r (λ o. o ≡ found)
    → IfOk r (λ o. IfNone o P) → (found ≡ None → P → Q) → IfOk r (λ o. IfNone o Q)
where_new (Ok None) found P Q is put step = step (sym is) put
where_new (Ok (Some n)) found P Q is put step = tt
where_new (Err e) found P Q is put step = tt

pub returns-clause-put : goal.returns-clause-put
returns-clause-put c =
    where_new c.insert_new.result _ _ _ c.insert_new.ensures.old c.insert_new.ensures.put
    (λ absent put. put
    ∙ insert_entry-new (λ (x y : Vec ℕ Global). bytes_eq x.items y.items) c.args.numbers.now c.args.key c.args.number
    absent)
