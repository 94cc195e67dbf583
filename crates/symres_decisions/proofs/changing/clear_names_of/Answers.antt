use Rattle.symres_decisions.proofs.Changed.{cleared_none, cleared_some, there_is}
use Rattle.symres_decisions.proofs.changing.clear_names_of.Goals as goal

pub clear_names-requires-clause-found : goal.clear_names-requires-clause-found
clear_names-requires-clause-found c =
    there_is c.args.names.now c.args.at c.in-Some.at c.in-Some.is c.requires.place

pub returns-in-Some : goal.returns-in-Some
returns-in-Some c =
    cleared_some c.args.names.now.names c.args.at c.in-Some.at c.args.cases.now c.clear_names.new.cases c.in-Some.is
    c.clear_names.ensures

pub returns-in-None : goal.returns-in-None
returns-in-None c = cleared_none c.args.names.now.names c.args.at c.args.cases.now c.in-None.is
