use Rattle.ldmodel_project.proofs.Common.{List, NamedSymbol, ap, enumerate_from, ◌∙◌}
use Rattle.ldmodel_project.proofs.Tabled.{tables-placed}
use Rattle.ldmodel_project.proofs.law.tables_by_place.Goals as goal

pub returns : goal.returns
returns c keys objects tables distinct keyed tabled =
    tables-placed keys tables distinct keyed ∙ ap (λ (ts : List (List NamedSymbol)). enumerate_from 0 ts) tabled
