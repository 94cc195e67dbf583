use Rattle.relink.proofs.Common.{listing_of}
use Rattle.std.proofs.lemmas.Result.{IfOk-weaker}
use Rattle.relink.proofs.LazyTables.{tables_not_there}
use Rattle.relink.proofs.lazy_tables.tables_of_project.Goals as goal

pub returns-in_ok-inputs-in-None-clause-made : goal.returns-in_ok-inputs-in-None-clause-made
returns-in_ok-inputs-in-None-clause-made c =
    IfOk-weaker c.tables_of_view.result _ _ (λ made kept.
    kept (listing_of c.args.project.now) c.view-view.ensures
    (tables_not_there (listing_of c.args.project.now) c.args.tables c.in-None.is c.requires)) c.tables_of_view.ensures
