use Rattle.symres_decisions.proofs.Common.{Case, IsCleared, List, NamedSymbol, ObjectKey, Option, [], get_or}
use Rattle.symres_decisions.proofs.Common.{null_symbol, subst, sym, ◌++◌, ◌∷◌}
use Rattle.symres_decisions.proofs.Clearing.{cleared_local, cleared_seen}
use Rattle.symres_decisions.proofs.Keys.{has_name}
use Rattle.symres_decisions.proofs.texts.clear_name.Goals as goal

pub set-requires : goal.set-requires
set-requires c =
    c.requires.room c.in-Some.key.0
    (has_name c.args.names.now.names (get_or c.args.object.now.symbols c.args.number null_symbol) c.in-Some.key
    (c.in-Some.ensures null_symbol))

pub returns-in-Some : goal.returns-in-Some
returns-in-Some c = λ start before d h.
    let x : NamedSymbol = get_or c.args.object.now.symbols c.args.number d in
    subst (λ (cs : List (Option (Case ObjectKey))). IsCleared c.args.names.now.names (before ++ x ∷ []) start cs)
    (sym c.set.ensures)
    (cleared_seen c.args.names.now.names before x c.in-Some.key.0 start c.args.cases.now c.requires.distinct
    (c.in-Some.ensures d).0 (c.in-Some.ensures d).1
    (c.requires.room c.in-Some.key.0 (has_name c.args.names.now.names x c.in-Some.key (c.in-Some.ensures d))) h)

pub returns-in-None : goal.returns-in-None
returns-in-None c = λ start before d h.
    cleared_local c.args.names.now.names before (get_or c.args.object.now.symbols c.args.number d) start
    c.args.cases.now (c.in-None.ensures d) h
